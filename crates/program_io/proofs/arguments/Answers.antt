use mathlib.Core.Path.{sym, ◌∙◌}
use native.Mathlib.Numerals.{add-one}
use Rattle.plan.proofs.Places.{none_asked, asks_more, asked_further}
use Rattle.line.proofs.Passed.{passed_on}
use Rattle.program_io.proofs.arguments.Goals as goal

pub loop-i-init : goal.loop-i-init
loop-i-init g c = rw c.new-plan.ensures none_asked

pub returns-in_err-plan : goal.returns-in_err-plan
returns-in_err-plan g c =
    let e = passed_on c.from_residual.result _ c.from_residual.ensures.1 in
    rw (e ∙ sym c.in_err-plan.was ∙ c.with.ensures) (asks_more c.loop-i.invariant c.in-Some.ensures)

pub loop-i-preserved : goal.loop-i-preserved
loop-i-preserved g c = rw add-one (asked_further c.loop-i.invariant c.in-Some.ensures (sym c.with.ensures ∙ c.in_ok-plan.was))
