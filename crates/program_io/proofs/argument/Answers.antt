-- `program_io::argument` meets its contract. Assumes nothing.
use Rattle.plan.proofs.Places.{given-bytes, given-error}
use Rattle.program_io.proofs.argument.Goals as goal

pub returns-in-Ok : goal.returns-in-Ok
returns-in-Ok g c = rw c.kind_given.ensures (given-bytes _)

pub returns-in-Err : goal.returns-in-Err
returns-in-Err g c = rw c.kind_given-in-Err.ensures (given-error c.in-Err.e)
