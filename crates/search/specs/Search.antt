-- The search through a table's records, for any selection and any test: the first that is selected and marks ends it.
use Rattle.std.specs.Prelude.{Bool, ℕ, zero, suc, ◌+◌, None, Some, is_some, unwrap_or}
use Rattle.word.specs.Choice.{pick}
use Rattle.search.specs.declared.Found.{Found}

-- the search through the n records from place i on, k of those before having been tried
unfoldable pub search_from : (ℕ → Bool) → (ℕ → Bool) → ℕ → ℕ → ℕ → Found
search_from selected marks i zero k = record { by = None; tried = k }
search_from selected marks i (suc n) k =
    pick (selected i)
    (pick (marks i) (record { by = Some i; tried = suc k }) (search_from selected marks (suc i) n (suc k)))
    (search_from selected marks (suc i) n k)

-- a vector marks the block
abbrev pub is_marked : Found → Bool
is_marked f = is_some f.by

-- the place of the one that does, 0 without one
abbrev pub marking_place : Found → ℕ
marking_place f = unwrap_or f.by 0

-- how many of the first n places are selected
unfoldable pub count_of : (ℕ → Bool) → ℕ → ℕ
count_of selected zero = 0
count_of selected (suc n) = count_of selected n + pick (selected n) 1 0
