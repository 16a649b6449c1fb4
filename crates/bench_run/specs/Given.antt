-- The hashers that lines put on the row.
use Rattle.std.specs.Prelude.{List, ℕ, take, eqb, get_or, Option, Some, None, option_map, option_and_then}
use Rattle.word.specs.Lists.{list_of}
use Rattle.loan.specs.Loan.{Loan, loan_of}
use Rattle.hasher.specs.Hasher.{fresh_of}
use Rattle.hasher.specs.declared.Hasher.{Hasher}
use Rattle.cases.specs.Numbers.{number_at, flags_of_bits}
use Rattle.replay_line.specs.Fields.{word_list, bytes_at, five_at}
use Rattle.replay_line.specs.declared.fields.Words.{Words}
use Rattle.bench_run.specs.Row.{seated_at}
use Rattle.bench_run.specs.declared.row.Row.{Row}

-- byte i, 0 past the end
abbrev pub byte_of : List ℕ → ℕ → ℕ
byte_of bytes i = get_or bytes i 0

-- a hasher with the fields of a line, if its words are five and its pending bytes can be read
unfoldable pub line_hasher : List ℕ → Option Hasher
line_hasher line =
    option_and_then (λ words. option_map (λ bytes. record {
      words = words;
      pending = list_of (byte_of bytes) 64;
      fill = number_at line 3;
      blocks = number_at line 4;
      flags = flags_of_bits (number_at line 2);
      mark = eqb (number_at line 5) 1;
      first = record { block = number_at line 8; place = number_at line 9 };
    }) (bytes_at line 7)) (five_at line 6)

-- the row with a new hasher
abbrev pub seated_new : Row → List ℕ → Row
seated_new row line = seated_at row (number_at line 1) (fresh_of (flags_of_bits (number_at line 2)))

-- the row with a given hasher, if there is one
abbrev pub seated_with : Row → ℕ → Option Hasher → Row
seated_with row at None = row
seated_with row at (Some h) = seated_at row at h

-- the row with the hasher of a line, if it can be read
abbrev pub seated_given : Row → List ℕ → Row
seated_given row line = seated_with row (number_at line 1) (line_hasher line)

-- the loan of the first words of some records, of masks and of conditions
abbrev pub lent_of : List ℕ → ℕ → Words → Words → Loan
lent_of records size masks conditions = loan_of (take size records) (word_list conditions) (word_list masks)
