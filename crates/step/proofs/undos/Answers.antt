use mathlib.Core.Path.{sym, ◌∙◌}
use native.Mathlib.Omega.{arith}
use Rattle.step.proofs.Runs.{undos-more, undos-done}
use Rattle.step.proofs.undos.Goals as goal

pub loop-t-preserved : goal.loop-t-preserved
loop-t-preserved c =
    let a = c.args in
    (omega arith, omega arith, rw c.undo-s.ensures (sym (undos-more a.w.now c.loop-t.t c.loop-t.s a.from (omega arith)) ∙ c.loop-t.invariant.2))

pub returns : goal.returns
returns c = sym (undos-done c.args.w.now c.loop-t.t c.loop-t.s c.args.from (omega arith)) ∙ c.loop-t.invariant.2
