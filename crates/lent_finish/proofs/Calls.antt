-- The ends of a message that have read the hasher and the answer's length leave what their calls leave. Assumes nothing.
use mathlib.Core.Path.{◌≡◌, refl, sym, ap, ◌∙◌}
use mathlib.Core.Bool.{Bool}
use mathlib.Core.List.{List, [], ◌∷◌, ◌++◌}
use Prim.Native.Nat.{ℕ}
use lib.ListN.{length}
use borrow.Author.Tests.{eq-eqb}
use Rattle.std.specs.Prelude.{Some, Ok, Err, is_ok}
use Rattle.word.specs.Choice.{pick}
use Rattle.refusal.specs.Refusal.{number_of, Checked}
use Rattle.loan.specs.Loan.{Loan}
use Rattle.stream.specs.declared.FirstMark.{FirstMark}
use Rattle.stream.specs.declared.Chain.{Chain}
use Rattle.hasher.specs.Hasher.{fresh_of}
use Rattle.hasher.specs.declared.Hasher.{Hasher}
use Rattle.finish.specs.Finish.{Outcome, last_chain, finish_refusal, outcome_of, outcome_refusal, first_or, ResetAccount, reset_handed, finished_reset, written_out}
use Rattle.layout.specs.Layout.{slices_of, hasher_read}
use Rattle.layout.proofs.ReadBack.{slices-back, read_is}
use Rattle.answers.specs.Answers.{Told, left, hasher_by, hasher_or, outcome_answer, told_by, told_first, told_of, told_outcome}
use Rattle.answers.proofs.Told.{told-outcome, told-first, last-unmarked}
use Rattle.lent_finish.specs.LentFinish.{finish_call, finish_reset_call}

-- what is told of an account is its outcome with its first mark
told_by_lem : (a : ResetAccount) → told_by (reset_handed a) ≡ told_of a.outcome a.first
told_by_lem a = by a.outcome a.first a.hasher
  where
    by : (o : Outcome) (f : FirstMark) (g : Hasher) → told_by (reset_handed (record { outcome = o; first = f; hasher = g })) ≡ told_of o f
    by (Ok v) f g = refl
    by (Err r) f g = refl

module _ (h : Hasher) (size : ℕ) (l : Loan) (t : Told) (e : t ≡ told_by (reset_handed (finished_reset h size l))) where
  outcome-is : told_outcome t ≡ (finished_reset h size l).outcome
  outcome-is = ap told_outcome (e ∙ told_by_lem (finished_reset h size l)) ∙ told-outcome (finished_reset h size l).outcome (finished_reset h size l).first

  first-is : told_first t ≡ (finished_reset h size l).first
  unfolding finished_reset
  first-is =
      ap told_first (e ∙ told_by_lem (finished_reset h size l))
      ∙ told-first (finish_refusal h size l) (last_chain h l) h.flags.mitigate (last-unmarked h size l)

-- the hasher that is handed out, or the one that was read
handed_lem : (r : Checked) (c : Chain) (m : Bool) (f : FirstMark) (fresh h : Hasher) (before : List (List ℕ)) → slices_of h ≡ before
    → hasher_or (hasher_by (reset_handed (record { outcome = outcome_of r c m; first = f; hasher = pick (is_ok r) fresh h }))) before ≡ slices_of (pick (is_ok r) fresh h)
handed_lem (Ok u) c m f fresh h before e = refl
handed_lem (Err r) c m f fresh h before e = sym e

module _ (w p s : List ℕ) (h : Hasher) (is : hasher_read w p s ≡ Some h) where
  pub finish_left : (t : Told) (digest : List ℕ) (l : Loan) (answer : List ℕ) → length answer ≡ 4
      → t ≡ told_by (reset_handed (finished_reset h (length digest) l))
      → left (number_of (outcome_refusal (told_outcome t))) (written_out h digest l ∷ outcome_answer (told_outcome t) (told_first t) ∷ []) ≡ finish_call w p s digest l answer
  unfolding finish_call
  finish_left t digest l answer a e =
      let f = read_is w p s h is in
      rw (outcome-is h (length digest) l t e, first-is h (length digest) l t e) (rw (f.0, eq-eqb (length answer) 4 a, f.1))

  slices-are : (size : ℕ) (l : Loan)
      → hasher_or (hasher_by (reset_handed (finished_reset h size l))) (w ∷ p ∷ s ∷ []) ≡ slices_of (finished_reset h size l).hasher
  unfolding finished_reset
  slices-are size l =
      let f = read_is w p s h is in
      handed_lem (finish_refusal h size l) (last_chain h l) h.flags.mitigate (first_or (finish_refusal h size l) (last_chain h l)) (fresh_of h.flags) h (w ∷ p ∷ s ∷ [])
      (ap slices_of (sym f.1) ∙ slices-back w p s f.0)

  pub finish_reset_left : (t : Told) (slices : List (List ℕ)) (out : List ℕ) (l : Loan) (answer : List ℕ) → length answer ≡ 4
      → t ≡ told_by (reset_handed (finished_reset h (length out) l))
      → slices ≡ hasher_or (hasher_by (reset_handed (finished_reset h (length out) l))) (w ∷ p ∷ s ∷ [])
      → left (number_of (outcome_refusal (told_outcome t))) (slices ++ written_out h out l ∷ outcome_answer (told_outcome t) (told_first t) ∷ []) ≡ finish_reset_call w p s out l answer
  unfolding finish_reset_call
  finish_reset_left t slices out l answer a e g =
      let f = read_is w p s h is in
      rw (outcome-is h (length out) l t e, first-is h (length out) l t e, g ∙ slices-are (length out) l) (rw (f.0, eq-eqb (length answer) 4 a, f.1))
