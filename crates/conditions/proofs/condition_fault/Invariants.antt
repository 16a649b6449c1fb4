-- `conditions::condition_fault` meets its contract. The invariant: the conditions still to be looked at decide. Assumes nothing.
use mathlib.Core.Path.{◌≡◌}
use Prim.Native.Nat.{◌-◌}
use lib.ListN.{length}
use Rattle.refusal.specs.Refusal.{first_from}
use Rattle.conditions.specs.Conditions.{conditions_in, fault_at, first_bad}
use Rattle.conditions.proofs.condition_fault.Given as goal

abbrev pub invariant-loop-k : goal.invariant-loop-k
invariant-loop-k l = first_from (fault_at l.conditions) l.k (conditions_in (length l.conditions) - l.k) ≡ first_bad l.conditions
