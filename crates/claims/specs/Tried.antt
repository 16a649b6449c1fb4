-- How many vectors a block is tried with: the bits of its mask, and the records that have one of them. 02, request g.
use Rattle.std.specs.Prelude.{List, ℕ, length}
use Rattle.table.specs.Limits.{mask_bits}
use Rattle.table.specs.Bits.{has_bit}
use Rattle.table.specs.Table.{records_in}
use Rattle.search.specs.Search.{count_of}
use Rattle.search.specs.Marks.{selects}

-- how many bits are set in the mask
abbrev pub bits_set : ℕ → ℕ
bits_set mask = count_of (has_bit mask) mask_bits

-- how many records of the table have their bit set in the mask
abbrev pub records_set : List ℕ → ℕ → ℕ
records_set table mask = count_of (selects mask table) (records_in (length table))
