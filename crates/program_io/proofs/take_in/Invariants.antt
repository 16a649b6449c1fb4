-- `program_io::take_in` meets its contract. The invariant: the hasher took what the reads so far gave. The measure is how many turns are left.
-- Assumes nothing.
use mathlib.Core.Path.{◌≡◌}
use lib.ListN.{length}
use Rattle.program.specs.Intakes.{no_intake}
use Rattle.program.proofs.Intakes.{TakenSoFar, turns_left}
use Rattle.program_io.proofs.take_in.Given as goal

abbrev pub invariant-loop-input : goal.invariant-loop-input
invariant-loop-input g l = record { long : length l.hasher.pending ≡ 64; taken : TakenSoFar l.initial.hasher l.table (no_intake l.hasher) }

abbrev pub decreases-loop-input : goal.decreases-loop-input
decreases-loop-input g l = turns_left l.hasher
