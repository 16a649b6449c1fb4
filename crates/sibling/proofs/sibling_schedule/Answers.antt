use mathlib.Core.Path.{refl}
use borrow.Author.Rules.{rules}
use Rattle.word.proofs.Fill.{fill_none, fill_more, fill-all}
use Rattle.sibling.proofs.sibling_schedule.Goals as goal

pub loop-t-init : goal.loop-t-init
loop-t-init c = fill_none _ 80 _ refl

pub loop-t-preserved : goal.loop-t-preserved
loop-t-preserved c =
    let h = c.loop-t in
    fill_more _ 80 h.v h.t _ h.invariant (search rules) refl

pub returns : goal.returns
returns c = fill-all _ 80 c.loop-t.v c.loop-t.t c.loop-t.invariant (search rules)
