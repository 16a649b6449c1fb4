-- `lent_finish::finish_and_reset_lent` meets its contract. Assumes nothing.
use mathlib.Core.Path.{ap, ◌∙◌}
use Rattle.loan.specs.Loan.{loan_in}
use Rattle.layout.specs.Layout.{slices_lent}
use Rattle.answers.specs.Answers.{hasher_by, hasher_or, told_by}
use Rattle.lent_finish.proofs.Calls.{finish_reset_left}
use Rattle.lent_finish.proofs.finish_and_reset_lent.Goals as goal

pub returns-clause-left : goal.returns-clause-left
returns-clause-left c =
    let a = c.args in
    let s = a.slices.now in
    let l = c.leave_finish_reset.ensures in
    let f = c.finish_and_reset.ensures in
    rw (l.number, f.written, l.said)
    (finish_reset_left s.words.now s.pending.now s.state.now c.in-Some.h (cc) (told_by c.finish_and_reset.result) (slices_lent c.leave_finish_reset.new.slices) a.out.now (loan_in a.lent) a.answer.now c.if-answer-ne4.false
    (ap told_by f.given) (l.laid ∙ ap (λ r. hasher_or (hasher_by r) (slices_lent s)) f.given))
