-- What a case gives.
use Rattle.std.specs.Prelude.{List, ℕ, ◌+◌}
use Rattle.word.specs.Lists.{list_of}
use Rattle.cases.specs.Numbers.{word_field}

-- the condition of fields 3 to 8
abbrev pub condition_of : List ℕ → List ℕ
condition_of line = list_of (λ k. word_field line (3 + k)) 6
