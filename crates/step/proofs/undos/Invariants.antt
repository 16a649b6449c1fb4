-- `step::undos` meets its contract. Assumes nothing.
use mathlib.Core.Path.{◌≡◌}
use Prim.Native.Nat.{◌-◌, ◌≤◌}
use Rattle.step.specs.Step.{undos_of}
use Rattle.step.proofs.undos.Given as goal

abbrev pub invariant-loop-t : goal.invariant-loop-t
invariant-loop-t l = (l.from ≤ l.t) × (l.t ≤ l.to) × (undos_of l.w l.from (l.t - l.from) l.s ≡ undos_of l.w l.from (l.to - l.from) l.initial.s)
