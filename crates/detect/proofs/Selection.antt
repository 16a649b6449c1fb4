-- With no conditions a block is tried with all vectors of its mask; with no vector nothing is tried. Assumes nothing.
use mathlib.Core.Path.{◌≡◌, ap, ◌∙◌}
use mathlib.Core.Bool.{Bool, false}
use mathlib.Core.List.{List, []}
use Prim.Native.Nat.{ℕ, ◌%◌, ◌^◌, ◌<◌}
use native.Mathlib.Nat.{mod-eq_of_lt, div-eq_of_lt}
use lib.Bits.{and_mask}
use lib.Dec.{eqb}
use lib.ListN.{length}
use lib.Pow.{pow_pos}
use borrow.Author.Tests.{eq-eqb}
use Rattle.std.specs.Prelude.{None, Ok}
use Rattle.step.specs.Step.{regs_of}
use Rattle.step.specs.declared.Regs.{Regs}
use Rattle.table.specs.Limits.{mask_bits}
use Rattle.table.specs.Bits.{has_bit}
use Rattle.table.specs.Table.{records_in, mask_number_at, table_fault}
use Rattle.search.specs.Marks.{selects, marks, found_in}
use Rattle.search.proofs.Ended.{none_tried}
use Rattle.conditions.proofs.Survive.{no-conditions}
use Rattle.detect.specs.Detect.{selection_of, answer_of, one_block_of, answered_block}
use Rattle.detect.specs.declared.Mode.{Mode}

pub select-all : (block : List ℕ) (mask : ℕ) → mask < 2 ^ mask_bits → selection_of [] block mask ≡ mask
unfolding selection_of
select-all block mask h = rw (no-conditions _) (and_mask mask mask_bits ∙ mod-eq_of_lt h)

no_bits : (k : ℕ) → has_bit 0 k ≡ false
no_bits k = ap (λ (q : ℕ). eqb (q % 2) 1) (div-eq_of_lt (pow_pos k))

-- a mask of no bits finds nothing
pub none-selected : (reduced : Bool) (table : List ℕ) (h : Regs) (w : List ℕ) → found_in reduced table h w 0 ≡ record { by = None; tried = 0 }
unfolding found_in
none-selected reduced table h w = none_tried (selects 0 table) (marks reduced h w table) (λ j. no_bits (mask_number_at table j)) (records_in (length table)) 0 0

-- the account of the one-block entry where nothing is refused: with no conditions the mask is the selection
pub one_block_answered : (five block table : List ℕ) (mask : ℕ) (mode : Mode) → length block ≡ 64 → table_fault table ≡ Ok tt → mask < 2 ^ mask_bits
    → one_block_of five block table mask mode ≡ answered_block (answer_of mode table (regs_of five) block (selection_of [] block mask))
unfolding one_block_of
one_block_answered five block table mask mode l f m = rw (select-all block mask m, eq-eqb (length block) 64 l, f)
