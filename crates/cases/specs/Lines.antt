-- The fields of a line, in std's words: the pieces between its spaces.
use Rattle.std.specs.Prelude.{List, [], ℕ, zero, suc, ◌==◌, unwrap_or}
use Rattle.std.specs.List.{slice_split, slice_get, after_first}

-- what ends a field: a space, in ASCII
abbrev pub field_end : ℕ
field_end = 0x20

-- field i: the i-th of the pieces between spaces, none where there are not so many
unfoldable pub field_of : List ℕ → ℕ → List ℕ
field_of line i = unwrap_or (slice_get (slice_split (λ b. b == field_end) line) i) []

-- the line from field i to its end: what stands behind the i-th space
unfoldable pub from_field : List ℕ → ℕ → List ℕ
from_field line zero = line
from_field line (suc i) = after_first (λ b. b == field_end) (from_field line i)
