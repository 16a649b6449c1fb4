-- What the lines of 01's table of numbers say of a hasher, as facts, and which of them are those of the tables. What they say of a loan stands in
-- loan/specs/Loan, of a table in table/specs/Good.
use Rattle.std.specs.Prelude.{◌≡◌, true, false, ℕ, ◌≤◌, ◌<◌, get_or}
use Rattle.refusal.specs.Refusal.{number_of, one_of, Checked}
use Rattle.table.specs.Limits.{most_records}
use Rattle.loan.specs.Loan.{both_numbers}
use Rattle.hasher.specs.Hasher.{most_blocks}
use Rattle.hasher.specs.declared.Hasher.{Hasher}

-- 1: what a well-formed hasher has: fill and block count in range, zeros from fill on, no mark with detection off, and the numbers of the first
-- mark: with a mark a block that is counted and a place that a table can have, at most 31; without one both zero
pub record WellFormed (h : Hasher) : Type 0 where
  pub fill-most : h.fill ≤ 63
  pub blocks-most : h.blocks ≤ most_blocks
  pub zeros : (i : ℕ) → h.fill ≤ i → get_or h.pending i 0 ≡ 0
  pub detects : h.mark ≡ true → h.flags.detect ≡ true
  pub block-counted : h.mark ≡ true → h.first.block < h.blocks
  pub place_inside : h.mark ≡ true → h.first.place < most_records
  pub block_none : h.mark ≡ false → h.first.block ≡ 0
  pub place_none : h.mark ≡ false → h.first.place ≡ 0

-- a refusal by one of the numbers of the tables: 2 to 5, 11, 12 and 13
abbrev pub ByTables : Checked → Type 0
ByTables r = one_of both_numbers (number_of r) ≡ true
