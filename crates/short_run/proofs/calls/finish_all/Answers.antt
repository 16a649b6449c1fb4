-- `short_run::calls::finish_all` meets its contract. Assumes nothing.
use Rattle.std.proofs.Common.{◌≡◌, rules}
use Rattle.loan.specs.Loan.{loan_in}
use Rattle.finish.specs.Finish.{finished_reset}
use Rattle.short_run.proofs.Kept.{finish_kept, reset_kept}
use Rattle.short_run.proofs.calls.finish_all.Goals as goal

pub returns : goal.returns
returns g c =
    let a = c.args in
    let l = loan_in a.lent in
    let value : c.map_or-after.result ≡ a.w.value = finish_kept a.w.value l c.finish-value.result c.map_or-after.result c.finish-value.ensures (search rules) in
    let place : c.map_or-after-2.result ≡ (finished_reset a.w.place 20 l).hasher =
    reset_kept a.w.place 20 l c.finish_and_reset-place.result c.map_or-after-2.result c.finish_and_reset-place.ensures.given (search rules) in
    rw (value, place, c.finish_lane-on_lane.ensures)
