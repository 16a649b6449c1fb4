-- `step::steps` meets its contract. The invariant: the steps that are left, from the state here, give what all give from the start.
-- Assumes nothing.
use mathlib.Core.Path.{◌≡◌}
use Prim.Native.Nat.{◌-◌, ◌≤◌}
use Rattle.step.specs.Step.{steps_of}
use Rattle.step.proofs.steps.Given as goal

abbrev pub invariant-loop-t : goal.invariant-loop-t
invariant-loop-t l = (l.t ≤ l.to) × (steps_of l.w l.t (l.to - l.t) l.s ≡ steps_of l.w l.from (l.to - l.from) l.initial.s)

abbrev pub decreases-loop-t : goal.decreases-loop-t
decreases-loop-t l = l.to - l.t
