-- `conditions::condition_fault` meets its contract. Assumes nothing.
use mathlib.Core.Path.{◌≡◌, sym, ap, ◌∙◌}
use mathlib.Core.Logic.{inl, inr}
use mathlib.Core.Bool.{true, false}
use Prim.Native.Nat.{ℕ, ◌%◌, ◌<◌, ◌≤◌}
use native.Mathlib.Nat.{sub-zero}
use native.Mathlib.Omega.{arith}
use borrow.Author.Tests.{eqb-true, eqb-false}
use lib.Dec.{eqb}
use lib.ListN.{length}
use Rattle.conditions.specs.Limits.{condition_words, most_conditions}
use Rattle.conditions.specs.Conditions.{conditions_in, fault_at, whole_conditions}
use Rattle.conditions.proofs.Each.{same_is, fits_same}
use Rattle.conditions.proofs.Faults.{fault_by, whole-parts, parts_fault, each-fault}
use Rattle.refusal.proofs.First.{first-here, first_more, first_done}
use Rattle.std.specs.Prelude.{is_ok}
use Rattle.conditions.proofs.condition_fault.Goals as goal
use Rattle.conditions.proofs.condition_fault.Goals.{then-each-gt-MOST_CONDITIONS-via-then-each-gt-MOST_CONDITIONS, then-each-gt-MOST_CONDITIONS-via-else-each-gt-MOST_CONDITIONS+then-not-is_empty}

-- what the two tests of the length say where neither refuses
whole : (n k r : ℕ) → k ≡ conditions_in n → r ≡ n % condition_words → k ≤ most_conditions → eqb r 0 ≡ true → whole_conditions n ≡ true
whole n k r ek er m d =
    let e = eqb-true r 0 d in
    whole-parts n (omega arith) (omega arith)

pub returns-then-each-gt-MOST_CONDITIONS : goal.returns-then-each-gt-MOST_CONDITIONS
returns-then-each-gt-MOST_CONDITIONS c =
    let conditions = c.args.conditions.now in
    elim c.then-each-gt-MOST_CONDITIONS.branch [
      | then-each-gt-MOST_CONDITIONS-via-then-each-gt-MOST_CONDITIONS w ↦ sym (parts_fault conditions (inl (omega arith)))
      | then-each-gt-MOST_CONDITIONS-via-else-each-gt-MOST_CONDITIONS+then-not-is_empty w ↦
          let e = eqb-false (length c.as_chunks.result.1.now) 0 (sym w.is_empty.ensures ∙ w.if-not-is_empty.true) in
          sym (parts_fault conditions (inr (λ z. e (c.as_chunks.ensures.back_len ∙ z))))
    ]

pub loop-k-init : goal.loop-k-init
loop-k-init c = rw (sub-zero _)

pub returns-then-not-fits : goal.returns-then-not-fits
returns-then-not-fits c =
    let conditions = c.args.conditions.now in
    let n = conditions_in (length conditions) in
    let h : c.loop-k.k < conditions_in (length conditions) = omega arith in
    let w = whole (length conditions) _ _ c.as_chunks.ensures.front_len c.as_chunks.ensures.back_len (omega arith) (sym c.is_empty.ensures ∙ c.if-not-is_empty.false) in
    let s = same_is conditions c.as_chunks.result.0.now c.loop-k.k c.as_chunks.ensures.front h in
    let f = fault_by conditions c.loop-k.k false (sym (fits_same conditions c.loop-k.k _ 0 s) ∙ sym c.fits.ensures ∙ c.if-not-fits.true) in
    sym (each-fault conditions w ∙ sym c.loop-k.invariant ∙ first-here (fault_at conditions) c.loop-k.k n h (ap is_ok f) ∙ f)

pub loop-k-preserved : goal.loop-k-preserved
loop-k-preserved c =
    let conditions = c.args.conditions.now in
    let h : c.loop-k.k < conditions_in (length conditions) = omega arith in
    let s = same_is conditions c.as_chunks.result.0.now c.loop-k.k c.as_chunks.ensures.front h in
    let f = fault_by conditions c.loop-k.k true (sym (fits_same conditions c.loop-k.k _ 0 s) ∙ sym c.fits.ensures ∙ c.if-not-fits.false) in
    sym (first_more (fault_at conditions) c.loop-k.k (conditions_in (length conditions)) h (ap is_ok f)) ∙ c.loop-k.invariant

pub returns : goal.returns
returns c =
    let conditions = c.args.conditions.now in
    let w = whole (length conditions) _ _ c.as_chunks.ensures.front_len c.as_chunks.ensures.back_len (omega arith) (sym c.is_empty.ensures ∙ c.if-not-is_empty.false) in
    sym (each-fault conditions w ∙ sym c.loop-k.invariant ∙ first_done (fault_at conditions) c.loop-k.k (conditions_in (length conditions)) (omega arith))
