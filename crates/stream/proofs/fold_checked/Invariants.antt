-- `stream::fold_checked` meets its contract. The invariant: the blocks that are left, from the chain here, give what all give from the
-- start.
use Rattle.std.proofs.Common.{◌≡◌, ◌+◌, ◌-◌, ◌*◌, ◌/◌, length, drop}
use Rattle.stream.specs.Fold.{checked_of, chained}
use Rattle.stream.proofs.fold_checked.Given as goal

abbrev pub invariant-loop-i : goal.invariant-loop-i
invariant-loop-i l =
    let step = checked_of l.mode l.lent.table.now l.lent.conditions.now in
    let n = length l.m / 64 in record {
      counted : l.c.blocks ≡ l.fn.start.blocks + l.i;
      same : chained step (n - l.i) l.c (drop (64 * l.i) l.m) (drop l.i l.lent.masks.now) ≡ chained step n l.fn.start l.m l.lent.masks.now;
    }
