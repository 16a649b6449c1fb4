-- Request e, unmarked exactly when: after an update and after a run of updates no mark and zeros, and from a finish, a finish-and-reset and a whole
-- message ok and zeros, exactly when nothing was marked before and no block since is: by the marks, and in demand 3's words in any mode. Assumes nothing.
use mathlib.Core.Path.{◌≡◌, refl, sym, subst}
use mathlib.Core.Logic.Iff
use mathlib.Core.Logic.{◌⊎◌, inl, inr, ⊎_elim, ◌↔◌}
use mathlib.Core.Bool.{true, false≢true}
use mathlib.Core.List.{List, ◌∷◌}
use Prim.Native.Nat.{ℕ}
use lib.ListN.{length}
use Rattle.std.specs.Prelude.{Ok, Ok as Done}
use Rattle.word.specs.Lists.{AllBytes}
use Rattle.word.proofs.Tests.{unless-true}
use Rattle.step.specs.Step.{regs_of}
use Rattle.verdict.specs.Verdict.{digest_size}
use Rattle.verdict.specs.declared.Verdict.TheVariants.{Ok as OkVerdict}
use Rattle.fips.specs.Fips.{padded, initial}
use Rattle.flags.specs.Flags.{defaults}
use Rattle.flags.specs.declared.Flags.{Flags}
use Rattle.loan.specs.Loan.{Tables, Loan, lend}
use Rattle.stream.specs.Fold.{nowhere, folded}
use Rattle.stream.specs.declared.FirstMark.{FirstMark}
use Rattle.hasher.specs.Hasher.{well_formed, chain_of, fresh_of, UpdateAccount}
use Rattle.hasher.specs.declared.Hasher.{Hasher}
use Rattle.absorb.specs.Absorb.{stream_of, absorbed}
use Rattle.absorb.proofs.Moves.{absorbed-is}
use Rattle.update.specs.Update.{updated}
use Rattle.update.proofs.Taken.{update-taken, taken-update}
use Rattle.finish.specs.Finish.{finish_refusal, finished, finished_reset}
use Rattle.one_shot.specs.Whole.{whole_refusal, whole_of, digested}
use Rattle.claims.specs.Sound.{Sized, Typed, TypedVectors}
use Rattle.claims.specs.Pieces.{Piece, bytes_of, piece_masks, piecewise, taking, hashed, loan_of_all, NoneRefused}
use Rattle.claims.specs.Marked.{whole_blocks, marked_in}
use Rattle.claims.specs.Message.{OneMetIn}
use Rattle.claims.specs.EveryCall.{MarkedAfter, last_blocks}
use Rattle.claims.specs.First.{FirstOfCall, OneMarkedIn, OneMetOn, EverMarked, UnmarkedUnless}
use Rattle.claims.proofs.Below.{some_below}
use Rattle.claims.proofs.Typed.{fresh-typed}
use Rattle.claims.proofs.Kept.{fresh-sound}
use Rattle.claims.proofs.Piecewise.{pieces-absorbed}
use Rattle.claims.proofs.MetAlong.{folded-by}
use Rattle.claims.proofs.EveryCall.{no-mark, update-met, finish-met, finish-reset-met, whole-met, message-met}
use Rattle.claims.proofs.First.{call-told, update-told-met, on-joined, finish-told-met, finish-reset-told-met, whole-told-met, message-told-met}

-- no mark before and none in the call: what is ok, and zeros
call-nowhere : (h : Hasher) {M : Type 0} {At : ℕ → ℕ → Type 0} {first : FirstMark} → FirstOfCall h M At first
    → (((h.mark ≡ true) ⊎ M) → ⊥) → first ≡ nowhere
call-nowhere h s n = (s.told (unless-true h.mark (λ e. n (inl e)))).none (λ m. n (inr m))

with-zeros : {P Fine Zeros : Type 0} → Fine ↔ (P → ⊥) → ((P → ⊥) → Zeros) → (P → ⊥) ↔ (Fine × Zeros)
with-zeros v z = (λ n. (v.1 n, z n), λ k. v.0 k.0)

-- The hasher after bytes that a well-formed one takes.
absorbed-unmarked : (h : Hasher) (bytes : List ℕ) (l : Loan) → well_formed h ≡ true → UnmarkedUnless (EverMarked h l (stream_of h bytes)) (absorbed h bytes l)
absorbed-unmarked h bytes l well =
    let xs = stream_of h bytes in
    let marked = folded-by h.flags l (chain_of h) xs (some_below (marked_in h.flags l (regs_of h.words) xs) (whole_blocks xs)) in
    rw (absorbed-is h bytes l) (with-zeros (no-mark (folded h.flags l (chain_of h) xs).mark marked) (call-nowhere h (call-told h l xs well)))

module _ (h : Hasher) (l : Loan) (bytes : List ℕ) (e : (updated h bytes l).refusal ≡ (Ok tt)) where
  -- After an update that is not refused a hasher has no mark, and zeros, exactly when it was not marked and no block that the update fills is,
  pub update-unmarked : UnmarkedUnless (EverMarked h l (stream_of h bytes)) (updated h bytes l).hasher
  update-unmarked =
      let a = update-taken h bytes l e in
      subst (λ (u : UpdateAccount). UnmarkedUnless (EverMarked h l (stream_of h bytes)) u.hasher) (sym (taken-update h bytes l a)) (absorbed-unmarked h bytes l a.well)

  -- in demand 3's words: and no selected sibling meets one.
  pub update-unmarked-met : Typed h → TypedVectors l.tables → AllBytes bytes → UnmarkedUnless (MarkedAfter h l (stream_of h bytes)) (updated h bytes l).hasher
  update-unmarked-met typed words b =
      with-zeros (no-mark (updated h bytes l).hasher.mark (update-met h l typed words bytes b e)) (call-nowhere h (update-told-met h l typed words bytes b e))

-- After any run of updates, none refused, on any hasher: as after one update with everything joined.
pub pieces-unmarked : (h : Hasher) → Sized h → well_formed h ≡ true → (t : Tables) (ps : List Piece) → (piecewise h t ps).refusal ≡ Ok tt
    → UnmarkedUnless (EverMarked h (lend t (piece_masks ps)) (stream_of h (bytes_of ps))) (piecewise h t ps).hasher
pieces-unmarked h size well t ps ok =
    let l = lend t (piece_masks ps) in
    subst (λ (u : UpdateAccount). UnmarkedUnless (EverMarked h l (stream_of h (bytes_of ps))) u.hasher) (sym (pieces-absorbed ps h t size well ok)) (absorbed-unmarked h (bytes_of ps) l well)

pub pieces-unmarked-met : (h : Hasher) → Sized h → Typed h → (t : Tables) → TypedVectors t → (p : Piece) (ps : List Piece) → AllBytes (bytes_of (p ∷ ps))
    → (piecewise h t (p ∷ ps)).refusal ≡ Ok tt
    → UnmarkedUnless (MarkedAfter h (lend t (piece_masks (p ∷ ps))) (stream_of h (bytes_of (p ∷ ps)))) (piecewise h t (p ∷ ps)).hasher
pieces-unmarked-met h size typed t words p ps b ok =
    let l = lend t (piece_masks (p ∷ ps)) in
    on-joined (UnmarkedUnless (MarkedAfter h l (stream_of h (bytes_of (p ∷ ps))))) h size t p ps ok
    (λ e. update-unmarked-met h l (bytes_of (p ∷ ps)) e typed words b)

-- a new hasher was not marked
from-new : {M Zeros : Type 0} (f : Flags) → ((((fresh_of f).mark ≡ true) ⊎ M) → ⊥) ↔ Zeros → (M → ⊥) ↔ Zeros
from-new f u = Iff.trans (Iff.not (inr, ⊎_elim (λ e. absurd (false≢true e)) (λ m. m))) u

-- A run of updates from a new hasher leaves no mark, and zeros, exactly when no whole block of the message so far is marked,
pub taking-unmarked : (f : Flags) (t : Tables) (ps : List Piece) → (taking f t ps).refusal ≡ Ok tt
    → UnmarkedUnless (OneMarkedIn f (lend t (piece_masks ps)) initial (bytes_of ps)) (taking f t ps).hasher
taking-unmarked f t ps ok = from-new f (pieces-unmarked (fresh_of f) (fresh-sound f).size (fresh-sound f).well t ps ok)

-- in demand 3's words: when with detection on no selected sibling meets one.
pub taking-unmarked-met : (f : Flags) (t : Tables) → TypedVectors t → (p : Piece) (ps : List Piece) → AllBytes (bytes_of (p ∷ ps))
    → (taking f t (p ∷ ps)).refusal ≡ Ok tt
    → UnmarkedUnless (OneMetOn f (lend t (piece_masks (p ∷ ps))) initial (bytes_of (p ∷ ps))) (taking f t (p ∷ ps)).hasher
taking-unmarked-met f t words p ps b ok = from-new f (pieces-unmarked-met (fresh_of f) (fresh-sound f).size (fresh-typed f) t words p ps b ok)

-- A finish answers ok and hands out zeros exactly when the hasher was not marked and no selected sibling meets one of the last blocks.
module _ (h : Hasher) (l : Loan) (typed : Typed h) (words : TypedVectors l.tables) where
  pub finish-unmarked : finish_refusal h digest_size l ≡ Ok tt
      → (MarkedAfter h l (last_blocks h) → ⊥) ↔ (((finished h l).outcome ≡ Done OkVerdict) × ((finished h l).first ≡ nowhere))
  finish-unmarked e = with-zeros (finish-met h l typed words e).ok (call-nowhere h (finish-told-met h l typed words e))

  -- So does a finish-and-reset.
  pub finish-reset-unmarked : (size : ℕ) → finish_refusal h size l ≡ Ok tt
      → (MarkedAfter h l (last_blocks h) → ⊥) ↔ (((finished_reset h size l).outcome ≡ Done OkVerdict) × ((finished_reset h size l).first ≡ nowhere))
  finish-reset-unmarked size e = with-zeros (finish-reset-met h l typed words size e).ok (call-nowhere h (finish-reset-told-met h l typed words size e))

-- So does a whole message, by whether detection is on and a selected sibling meets one of its blocks, padding included.
pub whole-unmarked : (f : Flags) (bytes : List ℕ) (l : Loan) → AllBytes bytes → TypedVectors l.tables → whole_refusal f (length bytes) l ≡ Ok tt
    → (OneMetOn f l initial (padded bytes) → ⊥) ↔ (((whole_of f bytes l).outcome ≡ Done OkVerdict) × ((whole_of f bytes l).first ≡ nowhere))
whole-unmarked f bytes l b words e = with-zeros (whole-met f bytes l b words e).ok (whole-told-met f bytes l e b words).none

-- So does the one-shot form, with detection and mitigation on.
pub one-shot-unmarked : (bytes : List ℕ) (l : Loan) → AllBytes bytes → TypedVectors l.tables → whole_refusal defaults (length bytes) l ≡ Ok tt
    → (OneMetIn defaults l initial (padded bytes) → ⊥) ↔ (((digested bytes l).outcome ≡ Done OkVerdict) × ((digested bytes l).first ≡ nowhere))
one-shot-unmarked bytes l b words e = Iff.trans (Iff.not (λ k. (refl, k), λ k. k.1)) (whole-unmarked defaults bytes l b words e)

-- So does a message under every cut, none of its calls refused.
pub message-unmarked : (f : Flags) (t : Tables) (ps : List Piece) (last : List ℕ) → AllBytes (bytes_of ps) → TypedVectors t → NoneRefused f t ps last
    → (OneMetOn f (loan_of_all t ps last) initial (padded (bytes_of ps)) → ⊥)
    ↔ (((hashed f t ps last).outcome ≡ Done OkVerdict) × ((hashed f t ps last).first ≡ nowhere))
message-unmarked f t ps last b words ok = with-zeros (message-met f t ps last b words ok).ok (message-told-met f t ps last ok b words).none
