-- A table in a file: big-endian words, 328 bytes a record. 01, "Vector records".
use Rattle.std.specs.Prelude.{◌≡◌, ◌⊎◌, Bool, ◌&&◌, List, ℕ, ◌*◌, ◌/◌, ◌%◌, ◌<◌, leb, eqb, length, Err}
use Rattle.word.specs.Choice.{pick}
use Rattle.word.specs.Lists.{list_of}
use Rattle.refusal.specs.Refusal.{Checked}
use Rattle.octets.specs.Octets.{be32_at}
use Rattle.refusal.specs.declared.Refusal.TheVariants.{TableLength}
use Rattle.table.specs.Limits.{record_words, most_records}
use Rattle.table.specs.Table.{table_fault}

-- words in the longest table
abbrev pub most_words : ℕ
most_words = record_words * most_records

-- bytes in a record: 328
abbrev pub record_bytes : ℕ
record_bytes = 4 * record_words

-- bytes in the longest table file: 10,496
abbrev pub most_file_bytes : ℕ
most_file_bytes = record_bytes * most_records

-- n bytes can be no table file: none, too many, or no whole number of records
abbrev pub BadBytes : ℕ → Type 0
BadBytes n = (n ≡ 0) ⊎ ((most_file_bytes < n) ⊎ (n % record_bytes ≡ 0 → ⊥))

-- the first n words of a file, each big-endian; past its end they are 0
abbrev pub file_words : List ℕ → ℕ → List ℕ
file_words bytes n = list_of (be32_at bytes) n

-- n bytes can be whole words of a table that is not too long
abbrev pub whole_words : ℕ → Bool
whole_words n = eqb (n % 4) 0 && leb n (4 * most_words)

-- the table of a file
abbrev pub table_of : List ℕ → List ℕ
table_of bytes = file_words bytes (length bytes / 4)

-- what is wrong with a table file
unfoldable pub file_fault : List ℕ → Checked
file_fault bytes = pick (whole_words (length bytes)) (table_fault (table_of bytes)) (Err TableLength)
