-- What a search may end with, for any selection and any test, in the words of 01: the first selected record that marks, or none.
use Rattle.std.specs.Prelude.{◌≡◌, Bool, true, false, ℕ, suc, ◌≤◌, ◌<◌, None, Some}
use Rattle.search.specs.Search.{count_of}
use Rattle.search.specs.declared.Found.{Found}

module _ (selected marks : ℕ → Bool) where
  -- no place from i on and below n is selected and marks
  abbrev pub NoneMarks : ℕ → ℕ → Type 0
  NoneMarks i n = (j : ℕ) → i ≤ j → j < n → selected j ≡ true → marks j ≡ false

  -- what a search through the places from i on and below n may end with
  pub data Ended (n i : ℕ) : Found → Type 0 where
    -- the first selected place that marks, with the selected ones up to it and with it
    hit : (p : ℕ) → i ≤ p → p < n → selected p ≡ true → marks p ≡ true → NoneMarks i p
        → Ended n i (record { by = Some p; tried = count_of selected (suc p) })
    -- no mark, and all selected ones
    miss : NoneMarks i n → Ended n i (record { by = None; tried = count_of selected n })
