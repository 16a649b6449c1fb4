-- What is known of a finish that is not refused, and that a finish of which this is known is not. Assumes nothing.
use mathlib.Core.Path.{◌≡◌}
use mathlib.Core.Bool.{true}
use Prim.Native.Nat.{ℕ}
use borrow.Author.Tests.{eqb-true, eq-eqb, not-false}
use lib.Dec.{eqb, lit<}
use Rattle.std.specs.Prelude.{Err, Ok}
use Rattle.refusal.specs.declared.Refusal.TheVariants.{HasherForm, Size}
use Rattle.refusal.proofs.Passed.{passed}
use Rattle.verdict.specs.Verdict.{digest_size}
use Rattle.conditions.specs.Good.{GoodConditions}
use Rattle.fips.specs.Tail.{tail_blocks}
use Rattle.fips.proofs.Tails.{tail-some}
use Rattle.loan.specs.Loan.{Loan, conditions_for, loan_refusal}
use Rattle.loan.proofs.Loans.{accepted-conditions}
use Rattle.hasher.specs.Hasher.{well_formed}
use Rattle.hasher.specs.declared.Hasher.{Hasher}
use Rattle.finish.specs.Finish.{finish_refusal}

pub record Finishing (h : Hasher) (size : ℕ) (l : Loan) : Type 0 where
  pub well : well_formed h ≡ true
  pub sized : size ≡ digest_size
  pub loan : loan_refusal h.flags l (tail_blocks h.fill) ≡ Ok tt

module _ (h : Hasher) (size : ℕ) (l : Loan) where
  pub finish-finishing : finish_refusal h size l ≡ (Ok tt) → Finishing h size l
  unfolding finish_refusal
  finish-finishing e =
      let p = passed _ (Err HasherForm) _ (lit< tt) e in
      let q = passed _ (Err Size) _ (lit< tt) p.1 in
      record { well = not-false (well_formed h) p.0; sized = eqb-true size digest_size (not-false (eqb size digest_size) q.0); loan = q.1 }

  pub finishing-finish : Finishing h size l → finish_refusal h size l ≡ Ok tt
  unfolding finish_refusal
  finishing-finish a = rw (a.well, eq-eqb size digest_size a.sized, a.loan)

  -- it looks at tables, as it compresses a block at least: what it looks at of the conditions is good
  pub finishing-conditions : Finishing h size l → GoodConditions (conditions_for h.flags l.tables.conditions)
  finishing-conditions a = accepted-conditions h.flags l (tail_blocks h.fill) a.loan (tail-some h.fill)
