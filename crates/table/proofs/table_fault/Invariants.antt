-- `table::table_fault` meets its contract. The invariant: the records still to be looked at decide. Assumes nothing.
use mathlib.Core.Path.{◌≡◌}
use Prim.Native.Nat.{◌-◌}
use lib.ListN.{length}
use Rattle.refusal.specs.Refusal.{first_from}
use Rattle.table.specs.Table.{records_in, record_fault, first_bad}
use Rattle.table.proofs.table_fault.Given as goal

abbrev pub invariant-loop-i : goal.invariant-loop-i
invariant-loop-i l = first_from (record_fault l.table) l.i (records_in (length l.table) - l.i) ≡ first_bad l.table
