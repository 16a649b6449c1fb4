-- Demand 2, cutting: a whole message in one call is the updates and the finish with the same flags, and the one-shot form that with the
-- default flags. Assumes nothing.
use mathlib.Core.Path.{◌≡◌, ap, ◌∙◌}
use mathlib.Core.Bool.{true}
use mathlib.Core.List.{List, [], ◌∷◌, ◌++◌, append-nil}
use Prim.Native.Nat.{ℕ, ◌/◌}
use native.Mathlib.Omega.{arith}
use lib.ListN.{length, length-append}
use Rattle.std.specs.Prelude.{Ok}
use Rattle.flags.specs.Flags.{uses_masks, defaults}
use Rattle.flags.specs.declared.Flags.{Flags}
use Rattle.loan.specs.Loan.{Tables, lend}
use Rattle.loan.proofs.Loans.{AcceptedLoan, loan-accepted, accepted-loan}
use Rattle.hasher.specs.Hasher.{fresh_of}
use Rattle.update.specs.Update.{updated}
use Rattle.one_shot.specs.Whole.{blocks_of, whole_refusal, whole_of, digested}
use Rattle.one_shot.proofs.Fed.{refusal-whole, whole_refusal_lem}
use Rattle.claims.specs.Pieces.{Piece, bytes_of, piece_masks, taking, hashed, in_two, loan_of_all, NoneRefused, InTurn}
use Rattle.claims.proofs.Kept.{fresh-sound}
use Rattle.claims.proofs.Looked.{whole-passes}
use Rattle.claims.proofs.Cut.{cut-joined}
use Rattle.claims.proofs.Whole.{masks-counted, short-is, last-accepted, tables-pass, hashed-by}
use Rattle.claims.proofs.Every.{none-refused}

module _ (f : Flags) (t : Tables) (ps : List Piece) (last : List ℕ) where
  -- One call is not refused where the updates and the finish are not.
  pub whole-taken : NoneRefused f t ps last → whole_refusal f (length (bytes_of ps)) (loan_of_all t ps last) ≡ Ok tt
  whole-taken ok =
      let e = ok.updates in
      let a = last-accepted f t ps last ok in
      whole_refusal_lem f (length (bytes_of ps)) (loan_of_all t ps last)
      (record {
        short = short-is f t ps e;
        loan =
            accepted-loan f (loan_of_all t ps last) (blocks_of (length (bytes_of ps)))
            (record {
              counts = λ u.
                  let m = masks-counted f t ps e u in
                  let n = a.counts u in
                  omega (arith, length-append (piece_masks ps) last);
              good = λ some. tables-pass f t ps last ok;
            });
      })

  -- It has their outcome, digest and first mark then.
  pub whole-agrees : NoneRefused f t ps last
      → whole_of f (bytes_of ps) (loan_of_all t ps last) ≡ record { outcome = (hashed f t ps last).outcome; digest = (hashed f t ps last).digest; first = (hashed f t ps last).first }
  unfolding whole_of
  whole-agrees ok = rw (whole-taken ok, hashed-by f t ps last ok)

  -- What one call takes, the updates and the finish take, with each block's mask in its turn, if they are looked at.
  pub whole-cut : (uses_masks f ≡ true → InTurn ps last) → whole_refusal f (length (bytes_of ps)) (loan_of_all t ps last) ≡ (Ok tt) → NoneRefused f t ps last
  whole-cut turn e =
      let w = refusal-whole f (length (bytes_of ps)) (loan_of_all t ps last) e in
      none-refused f t ps last w.short (whole-passes f (length (bytes_of ps)) (loan_of_all t ps last) e) turn

-- So one call, not refused, has the outcome, digest and first mark of one update, with the masks of the whole blocks, and a finish, with the rest.
pub whole-two : (f : Flags) (t : Tables) (bytes first last : List ℕ) → (uses_masks f ≡ true → length first ≡ length bytes / 64)
    → whole_refusal f (length bytes) (lend t (first ++ last)) ≡ Ok tt
    → whole_of f bytes (lend t (first ++ last)) ≡ record { outcome = (in_two f t bytes first last).outcome; digest = (in_two f t bytes first last).digest; first = (in_two f t bytes first last).first }
whole-two f t bytes first last m e =
    let p : Piece = record { bytes = bytes; masks = first } in
    let b = append-nil bytes in
    let c = append-nil first in
    let n = ap length b in
    let k : AcceptedLoan f (lend t (first ++ last)) (blocks_of (length bytes)) =
    loan-accepted f (lend t (first ++ last)) (blocks_of (length bytes)) (refusal-whole f (length bytes) (lend t (first ++ last)) e).loan
    in
    let turn : uses_masks f ≡ true → InTurn (p ∷ []) last =
    λ u.
    let x = m u in
    let y = k.counts u in
    record { updates = (omega arith, tt); finish = rw n (omega (arith, length-append first last)) }
    in
    let ok = whole-cut f t (p ∷ []) last turn (rw (b, c) e) in
    let u : taking f t (p ∷ []) ≡ updated (fresh_of f) bytes (lend t first) =
    cut-joined (fresh_of f) (fresh-sound f).size t p [] ok.updates ∙ rw (b, c)
    in
    rw u at (rw (b, c) at (whole-agrees f t (p ∷ []) last ok))

module _ (t : Tables) (ps : List Piece) (last : List ℕ) where
  -- Where neither an update nor the finish is refused, the one-shot form has their outcome, digest and first mark.
  pub one-shot-agrees : NoneRefused defaults t ps last
      → digested (bytes_of ps) (loan_of_all t ps last) ≡ record { outcome = (hashed defaults t ps last).outcome; digest = (hashed defaults t ps last).digest; first = (hashed defaults t ps last).first }
  one-shot-agrees ok = whole-agrees defaults t ps last ok

  -- What the one-shot form takes, the updates and the finish take, with each block's mask in its turn.
  pub one-shot-cut : InTurn ps last → whole_refusal defaults (length (bytes_of ps)) (loan_of_all t ps last) ≡ (Ok tt) → NoneRefused defaults t ps last
  one-shot-cut turn e = whole-cut defaults t ps last (λ u. turn) e

-- So the one-shot form, not refused, has the outcome, digest and first mark of one update, with the masks of the whole blocks, and a finish, with the rest.
pub one-shot-two : (t : Tables) (bytes first last : List ℕ) → length first ≡ length bytes / 64
    → whole_refusal defaults (length bytes) (lend t (first ++ last)) ≡ Ok tt
    → digested bytes (lend t (first ++ last))
    ≡ record { outcome = (in_two defaults t bytes first last).outcome; digest = (in_two defaults t bytes first last).digest; first = (in_two defaults t bytes first last).first }
one-shot-two t bytes first last m e = whole-two defaults t bytes first last (λ u. m) e
