-- `block::begin` meets its contract. The invariant: the compression has been brought from step `from` to step t. Assumes nothing.
use Prim.Native.Nat.{◌≤◌}
use Rattle.block.specs.Schedule.{words_of}
use Rattle.block.specs.Stage.{Onward}
use Rattle.block.proofs.begin.Given as goal

abbrev pub invariant-loop-t : goal.invariant-loop-t
invariant-loop-t l = (l.t ≤ l.to) × Onward (words_of l.block) l.from l.t l.initial.w l.initial.s l.w l.s
