-- `table::first_repeat` meets its contract. The invariant: the records still to be looked at decide, and `seen` has the bits of the mask
-- numbers before. Assumes nothing.
use mathlib.Core.Path.{◌≡◌}
use Prim.Native.Nat.{◌-◌}
use lib.ListN.{length}
use Rattle.refusal.specs.Refusal.{first_from}
use Rattle.table.specs.Table.{records_in, mask_number_at, repeat_fault, first_repeat}
use Rattle.table.proofs.Repeats.{seen_of}
use Rattle.table.proofs.first_repeat.Given as goal

abbrev pub invariant-loop-i : goal.invariant-loop-i
invariant-loop-i l = (first_from (repeat_fault l.table) l.i (records_in (length l.table) - l.i) ≡ first_repeat l.table) × (l.seen ≡ seen_of (mask_number_at l.table) l.i)
