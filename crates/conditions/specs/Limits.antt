-- The sizes of a table of conditions, each named once.
use Rattle.std.specs.Prelude.{ℕ}

-- words in a condition: word number, bit, word number, bit, wanted value, clearing mask
abbrev pub condition_words : ℕ
condition_words = 6

-- conditions in a table, at most
abbrev pub most_conditions : ℕ
most_conditions = 512

-- words in a schedule, and bits in each
abbrev pub schedule_words : ℕ
schedule_words = 80

abbrev pub word_bits : ℕ
word_bits = 32
