use Rattle.std.proofs.Common.{sym, ◌∙◌, ◌*◌, ◌/◌, length, drop, arith}
use native.Mathlib.Nat.{sub-zero}
use Rattle.stream.specs.Fold.{checked_of}
use Rattle.stream.proofs.Folds.{checked-blocks, chained_more, chained-done}
use Rattle.stream.proofs.fold_checked.Goals as goal

pub loop-i-init : goal.loop-i-init
loop-i-init c = record { counted = omega arith; same = rw (sub-zero (length c.args.m.now / 64)) }

pub loop-i-preserved : goal.loop-i-preserved
loop-i-preserved c =
    let a = c.args in
    let step = checked_of a.mode a.lent.table.now a.lent.conditions.now in record {
      counted = rw (c.checked-c.ensures, checked-blocks) (omega arith);
      same = rw (c.checked-c.ensures, c.mask_at.ensures)
          (sym (chained_more step c.loop-i.c a.m.now a.lent.masks.now c.as_chunks.result.0.now c.loop-i.i c.as_chunks.ensures.front (omega arith)) ∙ c.loop-i.invariant.same);
    }

pub returns : goal.returns
returns c =
    let a = c.args in
    let step = checked_of a.mode a.lent.table.now a.lent.conditions.now in
    sym (chained-done step c.loop-i.c (drop (64 * c.loop-i.i) a.m.now) (drop c.loop-i.i a.lent.masks.now) c.loop-i.i (length a.m.now / 64) (omega arith)) ∙ c.loop-i.invariant.same
