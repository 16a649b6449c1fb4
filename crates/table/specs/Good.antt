-- What can be wrong with a table and what is good, as facts: the numbers 2 to 5 and 11 that a caller can get back
-- (docs/BEHAVIOUR.md).
use Rattle.std.specs.Prelude.{◌≡◌, ◌⊎◌, List, ℕ, ◌*◌, ◌%◌, ◌≤◌, ◌<◌, length, get_or}
use Rattle.word.specs.Rule.{rule_at}
use Rattle.table.specs.Limits.{dm_words, record_words, most_records, mask_bits}
use Rattle.table.specs.Table.{records_in, mask_number_at, test_word_at, dm_at}

-- n words can be no table: none, too many, or no whole number of records
abbrev pub BadLength : ℕ → Type 0
BadLength n = (n ≡ 0) ⊎ ((record_words * most_records < n) ⊎ (n % record_words ≡ 0 → ⊥))

-- x is one of the two test steps
abbrev pub Known : ℕ → Type 0
Known x = (x ≡ 58) ⊎ (x ≡ 65)

-- each difference word from 16 on is what the rule gives
abbrev pub Obeys : List ℕ → Type 0
Obeys dm = (t : ℕ) → 16 ≤ t → t < dm_words → get_or dm t 0 ≡ rule_at dm t

-- one of them is not
abbrev pub Breaks : List ℕ → Type 0
Breaks dm = (t : ℕ) × (16 ≤ t) × (t < dm_words) × (get_or dm t 0 ≡ rule_at dm t → ⊥)

-- 3: record i's mask number is above 31
abbrev pub BadMask : List ℕ → ℕ → Type 0
BadMask table i = mask_bits ≤ mask_number_at table i

-- 4: the mask number is good, and the test step is neither 58 nor 65
abbrev pub BadStep : List ℕ → ℕ → Type 0
BadStep table i = (mask_number_at table i < mask_bits) × (Known (test_word_at table i) → ⊥)

-- 5: both are good, and the difference words break the rule
abbrev pub BadRule : List ℕ → ℕ → Type 0
BadRule table i = (mask_number_at table i < mask_bits) × Known (test_word_at table i) × Breaks (dm_at table i)

-- record i's mask number, test step and difference words are good
pub record GoodRecord (table : List ℕ) (i : ℕ) : Type 0 where
  pub mask : mask_number_at table i < mask_bits
  pub known : Known (test_word_at table i)
  pub rule : Obeys (dm_at table i)

-- each record before place i is good
abbrev pub GoodBelow : List ℕ → ℕ → Type 0
GoodBelow table i = (j : ℕ) → j < i → GoodRecord table j

-- a table of a good length has its first bad record at place i, and that is bad in the way named
pub record FirstBad (Bad : List ℕ → ℕ → Type 0) (table : List ℕ) (i : ℕ) : Type 0 where
  pub whole : BadLength (length table) → ⊥
  pub inside : i < records_in (length table)
  pub before : GoodBelow table i
  pub bad : Bad table i

-- record i repeats: an earlier record has its mask number
abbrev pub Repeats : List ℕ → ℕ → Type 0
Repeats table i = (j : ℕ) × (j < i) × (mask_number_at table j ≡ mask_number_at table i)

-- the mask numbers of the records before place n are all different: none of them repeats
abbrev pub DifferentBelow : List ℕ → ℕ → Type 0
DifferentBelow table n = (i : ℕ) → i < n → Repeats table i → ⊥

-- two records of the table have one mask number
abbrev pub TwoAlike : List ℕ → Type 0
TwoAlike table = (i : ℕ) × (i < records_in (length table)) × Repeats table i

-- 11: a table of a good length, each record good, has the first record that repeats at place i
pub record FirstRepeat (table : List ℕ) (i : ℕ) : Type 0 where
  pub whole : BadLength (length table) → ⊥
  pub each : GoodBelow table (records_in (length table))
  pub inside : i < records_in (length table)
  pub before : DifferentBelow table i
  pub repeats : Repeats table i

-- some whole records, not too many, each good, and their mask numbers all different
pub record GoodTable (table : List ℕ) : Type 0 where
  pub whole : length table ≡ record_words * records_in (length table)
  pub some : 0 < records_in (length table)
  pub most : records_in (length table) ≤ most_records
  pub each : GoodBelow table (records_in (length table))
  pub different : DifferentBelow table (records_in (length table))
