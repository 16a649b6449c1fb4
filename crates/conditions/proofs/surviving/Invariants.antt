-- `conditions::surviving` meets its contract. The invariant: d has what the conditions of the groups so far drop. Assumes nothing.
use mathlib.Core.Path.{◌≡◌}
use Prim.Native.Nat.{◌*◌}
use Rattle.conditions.specs.Conditions.{dropped_of}
use Rattle.conditions.proofs.surviving.Given as goal

abbrev pub invariant-loop-group : goal.invariant-loop-group
invariant-loop-group l = l.d ≡ dropped_of l.w l.conditions (8 * l.group-index)
