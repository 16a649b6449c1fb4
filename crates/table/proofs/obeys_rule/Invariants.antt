-- `table::obeys_rule` meets its contract. The invariant: no word is off so far and those still to be looked at obey,
-- just where all do. Assumes nothing.
use mathlib.Core.Path.{◌≡◌}
use mathlib.Core.Bool.{◌&&◌}
use Prim.Native.Nat.{◌-◌, ◌≤◌}
use lib.Dec.{eqb}
use Rattle.table.specs.Limits.{dm_words}
use Rattle.table.specs.Table.{obeys_from, obeys}
use Rattle.table.proofs.obeys_rule.Given as goal

abbrev pub invariant-loop-t : goal.invariant-loop-t
invariant-loop-t l = (16 ≤ l.t) × ((eqb l.off 0 && obeys_from l.dm l.t (dm_words - l.t)) ≡ obeys l.dm)
