-- From a state inside: the steps that are left lead to the chaining words of the start that the state comes from. Assumes nothing.
use mathlib.Core.Path.{◌≡◌, refl, ap, ◌∙◌}
use mathlib.Core.Bool.{Bool, true, false}
use mathlib.Core.List.{List}
use Prim.Native.Nat.{ℕ, ◌+◌, ◌-◌, ◌≤◌}
use native.Mathlib.Nat.{zero-add}
use native.Mathlib.Omega.{arith}
use borrow.Author.Tests.{leb-true, leb-false}
use lib.Dec.{leb}
use Rattle.std.specs.Prelude.{min, max}
use Rattle.step.specs.Step.{steps_of, undos_of, add_regs, Words}
use Rattle.step.specs.declared.Regs.{Regs}
use Rattle.step.proofs.Runs.{steps-add, steps-undos, undos_through}
use Rattle.block.specs.Compress.{over_schedule}
use Rattle.sibling.specs.Sibling.{recompressed}
use Rattle.sibling.specs.declared.Ends.{Ends}

module _ (w : List ℕ) (n : ℕ) (s : Regs) (h : n ≤ 80) (ws : Words s) where
  -- all eighty steps from the start are those that are left from s
  steps-left : steps_of w 0 80 (undos_of w 0 n s) ≡ steps_of w n (80 - n) s
  steps-left =
      let start = undos_of w 0 n s in
      let e : 80 ≡ n + (80 - n) = omega arith in
      ap (λ (k : ℕ). steps_of w 0 k start) e ∙ steps-add w n (80 - n) 0 start
      ∙ ap (λ (k : ℕ). steps_of w k (80 - n) (steps_of w 0 n start)) (zero-add n)
      ∙ ap (steps_of w n (80 - n)) (steps-undos w n 0 s ws)

  pub recompress-by : (start out : Regs) → start ≡ undos_of w 0 n s → out ≡ add_regs start (steps_of w n (80 - n) s)
      → ◌≡◌ {A = Ends} (record { start = start; out = out }) (recompressed w n s)
  unfolding recompressed over_schedule
  recompress-by start out e g = rw (g, e, steps-left)

-- n steps undone in two parts, those from step 60 on first: one of the two has none
pub third_back : (w : List ℕ) (n low high : ℕ) (s : Regs) → 40 ≤ n → low ≡ min n 60 → high ≡ max n 60
    → undos_of w 40 (low - 40) (undos_of w 60 (high - 60) s) ≡ undos_of w 40 (n - 40) s
unfolding undos_of
third_back w n low high s h e g = by (leb n 60) refl
  where
    by : (b : Bool) → leb n 60 ≡ b → undos_of w 40 (low - 40) (undos_of w 60 (high - 60) s) ≡ undos_of w 40 (n - 40) s
    by true t =
        let a = leb-true n 60 t in
        let l : low ≡ n = omega arith in
        let k : high ≡ 60 = omega arith in
        rw (l, k)
    by false t =
        let a = leb-false n 60 t in
        let l : low ≡ 60 = omega arith in
        let k : high ≡ n = omega arith in
        rw (l, k) (undos_through w 40 60 n s (omega arith) (omega arith))
