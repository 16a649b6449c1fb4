-- The sizes of a table of vectors, each named once.
use Rattle.std.specs.Prelude.{ℕ, ◌+◌}

-- difference words in a record, as many as a schedule has
abbrev pub dm_words : ℕ
dm_words = 80

-- words in a record: the mask number, the test step and the difference words
abbrev pub record_words : ℕ
record_words = 2 + dm_words

-- records in a table, at most
abbrev pub most_records : ℕ
most_records = 32

-- bits in a mask
abbrev pub mask_bits : ℕ
mask_bits = 32
