-- `conditions::dropped_with` meets its contract. The invariant: d has what the conditions so far drop. Assumes nothing.
use mathlib.Core.Path.{◌≡◌}
use lib.ListN.{take}
use Rattle.conditions.specs.Conditions.{dropped_with}
use Rattle.conditions.proofs.dropped_with.Given as goal

abbrev pub invariant-loop-condition : goal.invariant-loop-condition
invariant-loop-condition l = l.d ≡ dropped_with l.w l.before (take l.condition-index l.conditions)
