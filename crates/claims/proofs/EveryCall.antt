-- Demand 3 for every call, in any mode: what marks an update, and by what a finish, a finish-and-reset and a whole message give their verdict. Assumes nothing.
use mathlib.Core.Path.{◌≡◌, refl, sym, ap, ◌∙◌, subst}
use mathlib.Core.Logic.Iff
use mathlib.Core.Logic.{◌↔◌}
use mathlib.Core.Bool.{Bool, true, false, true≢false}
use mathlib.Core.List.{List}
use Prim.Native.Nat.{ℕ, ◌%◌}
use native.Mathlib.Omega.{arith}
use lib.ListN.{length}
use Rattle.std.specs.Prelude.{Ok, Ok as Done}
use Rattle.word.specs.Lists.{AllBytes}
use Rattle.word.proofs.Tests.{unless-true}
use Rattle.refusal.specs.Refusal.{Checked}
use Rattle.verdict.specs.Verdict.{digest_size, verdict_of}
use Rattle.fips.specs.Fips.{padding_for, padded, initial}
use Rattle.fips.proofs.Padded.{tail-is}
use Rattle.flags.specs.Flags.{defaults}
use Rattle.flags.specs.declared.Flags.{Flags}
use Rattle.loan.specs.Loan.{Tables, Loan}
use Rattle.stream.specs.Fold.{first_chain, folded}
use Rattle.hasher.specs.Hasher.{taken, chain_of, UpdateAccount}
use Rattle.hasher.specs.declared.Hasher.{Hasher}
use Rattle.hasher.proofs.Formed.{formed}
use Rattle.absorb.specs.Absorb.{stream_of}
use Rattle.update.specs.Update.{updated}
use Rattle.absorb.proofs.Moves.{absorbed-is}
use Rattle.update.proofs.Taken.{update-taken, taken-update}
use Rattle.finish.specs.Finish.{last_chain, finish_refusal, finished, finished_reset, Outcome}
use Rattle.finish.proofs.Finishing.{finish-finishing}
use Rattle.one_shot.specs.Whole.{whole_refusal, whole_chain, whole_of, digested, WholeAccount}
use Rattle.in_place.specs.InPlace.{InPlace}
use Rattle.claims.specs.Sound.{Typed, TypedVectors}
use Rattle.claims.specs.Pieces.{Piece, bytes_of, hashed, loan_of_all, NoneRefused}
use Rattle.claims.specs.Message.{OneMetIn}
use Rattle.claims.specs.EveryCall.{MarkedAfter, last_blocks, VerdictBy}
use Rattle.claims.proofs.After.{mark-then}
use Rattle.claims.proofs.Along.{initial-words, padding_bytes_lem, padded-bytes}
use Rattle.claims.proofs.Typed.{own-words, stream-bytes}
use Rattle.claims.proofs.Looked.{update-passes, finish-passes, whole-passes}
use Rattle.claims.proofs.Verdicts.{is-ok, is-mitigated, is-collision}
use Rattle.claims.proofs.OneShot.{whole-taken, whole-agrees}
use Rattle.claims.proofs.MetAlong.{some-met, folded-met}

-- one mark for another that equals it
same-mark : {a b : Bool} {P : Type 0} → a ≡ b → (b ≡ true) ↔ P → (a ≡ true) ↔ P
same-mark e k = (λ p. k.0 (sym e ∙ p), λ p. e ∙ k.1 p)

-- a mark that is there exactly when P holds is not there exactly when P does not
pub no-mark : (m : Bool) {P : Type 0} → (m ≡ true) ↔ P → (m ≡ false) ↔ (P → ⊥)
no-mark m e = (λ z p. true≢false (sym (e.1 p) ∙ z), λ n. unless-true m (λ k. n (e.0 k)))

-- the verdict on a mark that is there exactly when P holds
verdict-by : (m mitigate : Bool) (P : Type 0) → (m ≡ true) ↔ P → VerdictBy (Done (verdict_of m mitigate)) mitigate P
verdict-by m mitigate P e =
    record {
      ok = Iff.trans (is-ok m mitigate) (no-mark m e);
      mitigated = Iff.trans (is-mitigated m mitigate) (Iff.and e Iff.rfl);
      collision = Iff.trans (is-collision m mitigate) (Iff.and e Iff.rfl);
    }

-- what comes to the same decides the same
pub decided-by : {o : Outcome} {mitigate : Bool} {P Q : Type 0} → P ↔ Q → VerdictBy o mitigate P → VerdictBy o mitigate Q
decided-by e v =
    record {
      ok = Iff.trans v.ok (λ n q. n (e.1 q), λ n p. n (e.0 p));
      mitigated = Iff.trans v.mitigated (Iff.and e Iff.rfl);
      collision = Iff.trans v.collision (Iff.and e Iff.rfl);
    }

module _ (h : Hasher) (l : Loan) (typed : Typed h) (words : TypedVectors l.tables) where
  -- An update that is not refused leaves a mark exactly when there was one or, with detection on, a selected sibling meets a block that it fills.
  pub update-met : (bytes : List ℕ) → AllBytes bytes → (updated h bytes l).refusal ≡ Ok tt
      → ((updated h bytes l).hasher.mark ≡ true) ↔ MarkedAfter h l (stream_of h bytes)
  update-met bytes b e =
      let a = update-taken h bytes l e in
      let m : (updated h bytes l).hasher.mark ≡ (folded h.flags l (chain_of h) (stream_of h bytes)).mark =
      ap (λ (u : UpdateAccount). u.hasher.mark) (taken-update h bytes l a) ∙ ap (λ (g : Hasher). g.mark) (absorbed-is h bytes l)
      in
      same-mark m (folded-met h.flags l (chain_of h) (stream_of h bytes) (own-words h typed) (stream-bytes h typed bytes b) words (update-passes h bytes l a))

  -- So does an update in place.
  pub in-place-met : (bytes : List ℕ) → AllBytes bytes → (r : Checked) (g : Hasher) → InPlace h bytes l r g → r ≡ Ok tt
      → (g.mark ≡ true) ↔ MarkedAfter h l (stream_of h bytes)
  in-place-met bytes b r g p e = same-mark (ap (λ (k : Hasher). k.mark) p.0) (update-met bytes b (sym p.1 ∙ e))

  -- the mark after the last blocks
  last-met : (size : ℕ) → finish_refusal h size l ≡ (Ok tt) → ((last_chain h l).mark ≡ true) ↔ MarkedAfter h l (last_blocks h)
  unfolding last_chain
  last-met size e =
      let a = finish-finishing h size l e in
      let below = (formed h a.well).fill-le in
      let n : h.fill ≡ taken h % 64 = omega arith in
      rw (tail-is h.pending h.fill (taken h) n)
      (folded-met h.flags l (chain_of h) (last_blocks h) (own-words h typed) (stream-bytes h typed (padding_for (taken h)) (padding_bytes_lem (taken h))) words (λ some. finish-passes h size l e))

  -- A finish that is not refused gives its verdict by whether the hasher was marked or, with detection on, a selected sibling meets one of the last blocks.
  pub finish-met : finish_refusal h digest_size l ≡ (Ok tt) → VerdictBy (finished h l).outcome h.flags.mitigate (MarkedAfter h l (last_blocks h))
  unfolding finished
  finish-met e = rw e (verdict-by (last_chain h l).mark h.flags.mitigate (MarkedAfter h l (last_blocks h)) (last-met digest_size e))

  -- So does a finish-and-reset.
  pub finish-reset-met : (size : ℕ) → finish_refusal h size l ≡ Ok tt
      → VerdictBy (finished_reset h size l).outcome h.flags.mitigate (MarkedAfter h l (last_blocks h))
  unfolding finished_reset
  finish-reset-met size e = rw e (verdict-by (last_chain h l).mark h.flags.mitigate (MarkedAfter h l (last_blocks h)) (last-met size e))

-- A whole message in one call does by whether detection is on and a selected sibling meets one of its blocks, padding included.
pub whole-met : (f : Flags) (bytes : List ℕ) (l : Loan) → AllBytes bytes → TypedVectors l.tables → whole_refusal f (length bytes) l ≡ Ok tt
    → VerdictBy (whole_of f bytes l).outcome f.mitigate ((f.detect ≡ true) × OneMetIn f l initial (padded bytes))
unfolding whole_of whole_chain
whole-met f bytes l b words e =
    rw e
    (verdict-by (folded f l first_chain (padded bytes)).mark f.mitigate ((f.detect ≡ true) × OneMetIn f l initial (padded bytes))
    (same-mark (mark-then f l first_chain (padded bytes)) (some-met f l initial (padded bytes) initial-words (padded-bytes bytes b) words (λ some. whole-passes f (length bytes) l e))))

-- So does the one-shot form, with detection and mitigation on.
pub one-shot-met : (bytes : List ℕ) (l : Loan) → AllBytes bytes → TypedVectors l.tables → whole_refusal defaults (length bytes) l ≡ Ok tt
    → VerdictBy (digested bytes l).outcome true (OneMetIn defaults l initial (padded bytes))
one-shot-met bytes l b words e = decided-by (λ k. k.1, λ k. (refl, k)) (whole-met defaults bytes l b words e)

-- So does a message under every cut, none of its calls refused.
pub message-met : (f : Flags) (t : Tables) (ps : List Piece) (last : List ℕ) → AllBytes (bytes_of ps) → TypedVectors t → NoneRefused f t ps last
    → VerdictBy (hashed f t ps last).outcome f.mitigate ((f.detect ≡ true) × OneMetIn f (loan_of_all t ps last) initial (padded (bytes_of ps)))
message-met f t ps last b words ok =
    subst
    (λ (o : Outcome). VerdictBy o f.mitigate ((f.detect ≡ true) × OneMetIn f (loan_of_all t ps last) initial (padded (bytes_of ps))))
    (ap (λ (d : WholeAccount). d.outcome) (whole-agrees f t ps last ok))
    (whole-met f (bytes_of ps) (loan_of_all t ps last) b words (whole-taken f t ps last ok))
