-- What a case gives.
use Rattle.std.specs.Prelude.{List, ℕ, ◌+◌}
use Rattle.word.specs.Lists.{list_of}
use Rattle.cases.specs.Numbers.{word_field}

-- the masks of fields 4 to 11, one for each block
abbrev pub masks_of : List ℕ → List ℕ
masks_of line = list_of (λ k. word_field line (4 + k)) 8
