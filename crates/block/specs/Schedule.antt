-- The schedule of a block: FIPS 180-4, sections 5.2.1 and 6.1.2, step 1.
use Rattle.std.specs.Prelude.{List, [], ◌∷◌, ◌++◌, ℕ, zero, suc, ltb, length, get_or}
use Rattle.word.specs.Choice.{pick}
use Rattle.word.specs.Rule.{rule_at}
use Rattle.word.specs.Lists.{list_of}
use Rattle.octets.specs.Octets.{be32_at}

-- the sixteen words of a block of 64 bytes
abbrev pub words_of : List ℕ → List ℕ
words_of block = list_of (be32_at block) 16

-- one word more: one of the sixteen words m while there are any, then what the rule gives
abbrev pub extended : List ℕ → List ℕ → List ℕ
extended m w = w ++ (pick (ltb (length w) 16) (get_or m (length w) 0) (rule_at w (length w)) ∷ [])

-- the first n words of the schedule of the sixteen words m
unfoldable pub scheduled : List ℕ → ℕ → List ℕ
scheduled m zero = []
scheduled m (suc n) = extended m (scheduled m n)

-- the schedule of the sixteen words m
abbrev pub schedule_of : List ℕ → List ℕ
schedule_of m = scheduled m 80
