-- The control record: 01's valid record by which a block's sibling is the block itself.
use Rattle.std.specs.Prelude.{List, [], ◌∷◌, ℕ, replicate}
use Rattle.table.specs.Limits.{dm_words}

-- the table of one record: a mask number, a test step, and difference words that are all 0
abbrev pub control_table : ℕ → ℕ → List ℕ
control_table k t = k ∷ t ∷ replicate dm_words 0

-- the table of one condition: word number, bit, word number, bit, wanted value, clearing mask
abbrev pub one_condition : ℕ → ℕ → ℕ → ℕ → ℕ → ℕ → List ℕ
one_condition i p j q wanted clears = i ∷ p ∷ j ∷ q ∷ wanted ∷ clears ∷ []
