use mathlib.Core.Path.{refl, sym, ◌∙◌}
use borrow.Author.Rules.{rules}
use Rattle.step.proofs.Runs.{steps-more, steps-done}
use Rattle.step.proofs.steps.Goals as goal

pub loop-t-init : goal.loop-t-init
loop-t-init c = (c.requires.0, refl)

pub loop-t-preserved : goal.loop-t-preserved
loop-t-preserved c =
    let a = c.args in
    (search rules, rw c.step-s.ensures (sym (steps-more a.w.now c.loop-t.t c.loop-t.s a.to (search rules)) ∙ c.loop-t.invariant.1))

pub returns : goal.returns
returns c =
    let a = c.args in
    sym (steps-done a.w.now c.loop-t.t c.loop-t.s a.to (search rules) (search rules)) ∙ c.loop-t.invariant.1
