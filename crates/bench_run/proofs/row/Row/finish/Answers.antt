-- `bench_run::row::Row::finish` meets its contract. Assumes nothing.
use Rattle.std.proofs.Common.{◌≡◌, ◌∙◌, sym}
use Rattle.loan.specs.Loan.{loan_in}
use Rattle.bench_run.proofs.Unwritten.{refused_out}
use Rattle.bench_run.proofs.row.Row.finish.Goals as goal

pub returns-in-Err-clause-written : goal.returns-in-Err-clause-written
returns-in-Err-clause-written c =
    let a = c.args in
    let left : c.finish_through.new.out ≡ a.out.now =
    c.finish_through.ensures.written
    ∙ refused_out a.self.now.hashers c.lent-count.result a.lane a.out.now (loan_in a.lent) c.in-Err.refusal (sym c.in-Err.ensures.given) in
    rw (c.lane_finish.ensures.written, left, c.lent-count.ensures.value)
