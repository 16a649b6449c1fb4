-- A row of 17 hashers, the first of which are lent as a bench.
use Rattle.std.specs.Prelude.{List, ℕ, nat_lt, min, slice_set, replicate}
use Rattle.word.specs.Choice.{pick}
use Rattle.flags.specs.Flags.{defaults}
use Rattle.loan.specs.Loan.{Loan}
use Rattle.hasher.specs.Hasher.{fresh_of}
use Rattle.hasher.specs.declared.Hasher.{Hasher}
use Rattle.bench_by_value.specs.ByValue.{updated_through, finished_through, reset_through}
use Rattle.bench_run.specs.declared.row.Row.{Row}

-- so many hashers lent of these
abbrev pub row_of : ℕ → List Hasher → Row
row_of count hashers = record { count = count; hashers = hashers }

-- new hashers, of which 16 are lent
abbrev pub all_new : Row
all_new = row_of 16 (replicate 17 (fresh_of defaults))

-- how many are lent: no more than there are
abbrev pub lent_of : Row → ℕ
lent_of row = min row.count 17

-- the row with another hasher at a seat, if it has the seat
abbrev pub seated_at : Row → ℕ → Hasher → Row
seated_at row at h = pick (nat_lt at 17) (row_of row.count (slice_set row.hashers at h)) row

-- the row that an update of a lane leaves
abbrev pub row_updated : Row → ℕ → List ℕ → Loan → Row
row_updated row lane bytes l = row_of row.count (updated_through row.hashers (lent_of row) lane bytes l).bench

-- the row that a lane's finish leaves
abbrev pub row_finished : Row → ℕ → List ℕ → Loan → Row
row_finished row lane out l = row_of row.count (finished_through row.hashers (lent_of row) lane out l).bench

-- the row that a lane's reset leaves
abbrev pub row_reset : Row → ℕ → Row
row_reset row lane = row_of row.count (reset_through row.hashers (lent_of row) lane).bench
