-- `search::Compressed::search` meets its contract. The invariant: what is left of the search, from here, gives what the whole gives. Assumes nothing.
use mathlib.Core.Path.{◌≡◌}
use Prim.Native.Nat.{◌-◌, ◌≤◌}
use lib.ListN.{length}
use Rattle.table.specs.Table.{records_in}
use Rattle.search.specs.Search.{search_from}
use Rattle.search.specs.Marks.{selects, marks, found_in}
use Rattle.search.proofs.Compressed.search.Given as goal

abbrev pub invariant-loop-i : goal.invariant-loop-i
invariant-loop-i l =
    let h = l.self.start in
    let w = l.self.schedule.now in
    let n = records_in (length l.table) in
    (l.tried ≤ l.i) × (search_from (selects l.mask l.table) (marks l.reduced h w l.table) l.i (n - l.i) l.tried ≡ found_in l.reduced l.table h w l.mask)
