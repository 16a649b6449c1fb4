-- `conditions_run::tried::surviving_for` meets its contract. Assumes nothing.
use Rattle.std.proofs.Common.{sym}
use Rattle.conditions.proofs.Faults.{accepted}
use Rattle.conditions_run.proofs.tried.surviving_for.Goals as goal

pub surviving-requires : goal.surviving-requires
surviving-requires c = (accepted _).0 (sym c.in-Ok.ensures)
