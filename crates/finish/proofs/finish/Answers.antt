-- `finish::finish` meets its contract.
use Rattle.std.proofs.Common.{sym, ◌∙◌}
use Rattle.finish.proofs.Finishing.{finish-finishing, finishing-conditions}
use Rattle.finish.proofs.finish.Goals as goal

pub last_chain-c-requires : goal.last_chain-c-requires
last_chain-c-requires c =
    let f = finish-finishing _ _ _ (sym c.check_finish.ensures ∙ c.in_ok-check_finish.was) in
    record { h_value = f.well; good_conditions = finishing-conditions _ _ _ f }
