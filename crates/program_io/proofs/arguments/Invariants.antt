-- `program_io::arguments` meets its contract. The invariant: what is planned is what the arguments so far ask. Assumes nothing.
use Rattle.plan.proofs.Places.{AskedSoFar}
use Rattle.program_io.proofs.arguments.Given as goal

abbrev pub invariant-loop-i : goal.invariant-loop-i
invariant-loop-i g l = AskedSoFar l.plan l.i
