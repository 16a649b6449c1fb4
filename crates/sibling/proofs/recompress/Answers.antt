-- `sibling::recompress` meets its contract. Assumes nothing.
use mathlib.Core.Path.{ap, ◌∙◌}
use Prim.Native.Nat.{ℕ, ◌-◌}
use native.Mathlib.Nat.{sub-zero}
use native.Mathlib.Omega.{arith}
use Rattle.step.specs.Step.{undos_of}
use Rattle.step.proofs.Runs.{steps_through, undos_through}
use Rattle.sibling.proofs.Back.{recompress-by, third_back}
use Rattle.sibling.proofs.recompress.Goals as goal

pub returns : goal.returns
returns g c =
    let w = c.args.w.now in
    let s = c.args.s in
    let n = g.row.N in
    let s40 = undos_of w 40 (n - 40) s in
    recompress-by w n s (omega arith) (omega (arith, c.well_formed)) c.undos-start.result c.add_regs.result
    (rw (c.undos-start.ensures, c.undos-s20.ensures, c.undos-s40.ensures, c.undos-s60.ensures, third_back w n c.min-low.result c.max-high.result s (omega arith) (omega arith) (omega arith), undos_through w 20 40 n s (omega arith) (omega arith))
    (undos_through w 0 20 n s (omega arith) (omega arith) ∙ ap (λ (k : ℕ). undos_of w 0 k s) (sub-zero n)))
    (rw (c.add_regs.ensures, c.steps-end.ensures, c.steps.ensures) (rw (steps_through w n c.max-high.result 80 s (omega arith) (omega arith))))
