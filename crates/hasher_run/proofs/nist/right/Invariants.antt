-- `hasher_run::nist::right` is safe. Assumes nothing.
use Rattle.std.proofs.Common.{◌≤◌}
use Rattle.hasher_run.proofs.nist.right.Given as goal

abbrev pub invariant-loop-i : goal.invariant-loop-i
invariant-loop-i l = l.count ≤ l.i
