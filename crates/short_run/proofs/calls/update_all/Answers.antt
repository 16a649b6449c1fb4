-- `short_run::calls::update_all` meets its contract. Assumes nothing.
use Rattle.loan.specs.Loan.{loan_in}
use Rattle.short_run.proofs.Kept.{update_kept}
use Rattle.short_run.proofs.calls.update_all.Goals as goal

pub returns : goal.returns
returns g c =
    let a = c.args in
    rw (
      c.unwrap_or-after.ensures,
      c.update-by_value.ensures,
      update_kept a.w.value a.bytes.now (loan_in a.lent),
      c.update_in_place-in_place.ensures.0,
      c.update_lane-on_lane.ensures,
    )
