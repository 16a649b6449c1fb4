-- What is known of an update that is not refused, and that an update of which this is known is not. Assumes nothing.
use mathlib.Core.Path.{◌≡◌, refl, sym, ◌∙◌}
use mathlib.Core.Bool.{true}
use mathlib.Core.List.{List}
use Prim.Native.Nat.{ℕ, ◌+◌, ◌≤◌}
use borrow.Author.Tests.{ltb-false, le-ltb, not-false}
use lib.Dec.{lit<}
use lib.ListN.{length}
use Rattle.std.specs.Prelude.{Err, Ok}
use Rattle.refusal.specs.declared.Refusal.TheVariants.{HasherForm, MessageLength}
use Rattle.refusal.proofs.Passed.{passed}
use Rattle.fips.specs.Fips.{most_bytes}
use Rattle.loan.specs.Loan.{Loan, loan_refusal}
use Rattle.hasher.specs.Hasher.{well_formed, taken}
use Rattle.hasher.specs.declared.Hasher.{Hasher}
use Rattle.absorb.specs.Absorb.{absorbed}
use Rattle.update.specs.Update.{blocks_filled, update_refusal, updated}

pub record Taken (h : Hasher) (bytes : List ℕ) (l : Loan) : Type 0 where
  pub well : well_formed h ≡ true
  pub fits : taken h + length bytes ≤ most_bytes
  pub loan : loan_refusal h.flags l (blocks_filled h (length bytes)) ≡ Ok tt

module _ (h : Hasher) (bytes : List ℕ) (l : Loan) where
  pub refusal_is : (updated h bytes l).refusal ≡ update_refusal h bytes l
  unfolding updated
  refusal_is = refl

  pub update-taken : (updated h bytes l).refusal ≡ (Ok tt) → Taken h bytes l
  unfolding update_refusal
  update-taken e =
      let p = passed _ (Err HasherForm) _ (lit< tt) (sym refusal_is ∙ e) in
      let q = passed _ (Err MessageLength) _ (lit< tt) p.1 in
      record { well = not-false (well_formed h) p.0; fits = ltb-false most_bytes (taken h + length bytes) q.0; loan = q.1 }

  pub taken-update : Taken h bytes l → updated h bytes l ≡ record { refusal = (Ok tt); hasher = absorbed h bytes l }
  unfolding updated update_refusal
  taken-update a = rw (a.well, le-ltb most_bytes (taken h + length bytes) a.fits, a.loan)
