-- `block::extend` meets its contract. The invariant: every compression has been brought from step `from` to step t. Assumes nothing.
use mathlib.Core.List.{List}
use Prim.Native.Nat.{ℕ, ◌≤◌}
use Rattle.block.specs.Stage.{Onward}
use Rattle.block.proofs.extend.Given as goal

abbrev pub invariant-loop-t : goal.invariant-loop-t
invariant-loop-t l = (16 ≤ l.t) × (l.t ≤ l.to) × ((m : List ℕ) → Onward m l.from l.t l.initial.w l.initial.s l.w l.s)
