-- A table of vectors: what its records say, and what is wrong with it.
use Rattle.std.specs.Prelude.{Bool, true, false, not, ◌&&◌, ◌||◌, List, ℕ, zero, suc, ◌+◌, ◌-◌, ◌*◌, ◌/◌, ◌%◌, ltb, leb, eqb, length, get_or, take, drop, Result, Err, Ok}
use Rattle.word.specs.Choice.{pick}
use Rattle.word.specs.Rule.{rule_at}
use Rattle.refusal.specs.Refusal.{first_of, first_from, Checked}
use Rattle.refusal.specs.declared.Refusal.TheVariants.{TableLength, MaskNumber, TestStep, DmRule, MaskRepeated}
use Rattle.table.specs.Limits.{dm_words, record_words, most_records, mask_bits}
use Rattle.table.specs.declared.Testt.{Testt}
use Rattle.table.specs.declared.UnknownStep.{UnknownStep}
use Rattle.table.specs.declared.Testt.TheVariants.{T58, T65}

-- how many steps lie before each test step
abbrev pub steps_before : Testt → ℕ
steps_before T58 = 58
steps_before T65 = 65

-- the test step that a record's word 1 names; a table's check lets only 58 and 65 through
abbrev pub testt_of : ℕ → Testt
testt_of x = pick (eqb x 58) T58 T65

-- the test step that a word names, if it names one
abbrev pub step_named : ℕ → Result Testt UnknownStep
step_named x = pick (eqb x 58) (Ok T58) (pick (eqb x 65) (Ok T65) (Err (record { 0 = x })))

-- how many records n words hold
abbrev pub records_in : ℕ → ℕ
records_in n = n / record_words

-- record i, as its words
abbrev pub record_at : List ℕ → ℕ → List ℕ
record_at table i = take record_words (drop (record_words * i) table)

-- record i's mask number
abbrev pub mask_number_at : List ℕ → ℕ → ℕ
mask_number_at table i = get_or table (record_words * i) 0

-- record i's word for the test step
abbrev pub test_word_at : List ℕ → ℕ → ℕ
test_word_at table i = get_or table (record_words * i + 1) 0

-- record i's difference words
abbrev pub dm_at : List ℕ → ℕ → List ℕ
dm_at table i = take dm_words (drop (record_words * i + 2) table)

-- the n words from place t on are what the rule gives
unfoldable pub obeys_from : List ℕ → ℕ → ℕ → Bool
obeys_from dm t zero = true
obeys_from dm t (suc n) = eqb (get_or dm t 0) (rule_at dm t) && obeys_from dm (suc t) n

-- the difference words obey the rule of a schedule
abbrev pub obeys : List ℕ → Bool
obeys dm = obeys_from dm 16 (dm_words - 16)

-- what is wrong with a record at place i: its mask number, its test step, its difference words, in this order
abbrev pub fault_of : ℕ → ℕ → List ℕ → ℕ → Checked
fault_of number step dm i =
    pick (not (ltb number mask_bits)) (Err (MaskNumber i))
    (pick (not (eqb step 58 || eqb step 65)) (Err (TestStep i))
    (pick (not (obeys dm)) (Err (DmRule i))
    (Ok tt)))

-- what is wrong with record i of a table
unfoldable pub record_fault : List ℕ → ℕ → Checked
record_fault table i = fault_of (mask_number_at table i) (test_word_at table i) (dm_at table i) i

-- what is wrong with the first bad record
abbrev pub first_bad : List ℕ → Checked
first_bad table = first_from (record_fault table) 0 (records_in (length table))

-- one of the first n places has the number k
unfoldable pub among : (ℕ → ℕ) → ℕ → ℕ → Bool
among number k zero = false
among number k (suc n) = eqb (number n) k || among number k n

-- what is wrong with record i beside the earlier ones: one of them has its mask number
unfoldable pub repeat_fault : List ℕ → ℕ → Checked
repeat_fault table i = pick (among (mask_number_at table) (mask_number_at table i) i) (Err (MaskRepeated i)) (Ok tt)

-- what is wrong with the first record that repeats an earlier one's mask number
abbrev pub first_repeat : List ℕ → Checked
first_repeat table = first_from (repeat_fault table) 0 (records_in (length table))

-- n words can be a table: some records, not too many, and nothing besides
abbrev pub whole_records : ℕ → Bool
whole_records n = ltb 0 n && (leb n (record_words * most_records) && eqb (n % record_words) 0)

-- what is wrong with a table: its length, then its first bad record, then the first that repeats
unfoldable pub table_fault : List ℕ → Checked
table_fault table = pick (not (whole_records (length table))) (Err TableLength) (first_of (first_bad table) (first_repeat table))
