-- What a new hasher, an update and a reset give back on a hasher in lent memory, and what they leave there.
use Rattle.std.specs.Prelude.{◌&&◌, List, [], ◌∷◌, ℕ, eqb, length}
use Rattle.loan.specs.Loan.{Loan}
use Rattle.hasher.specs.Hasher.{fresh_of, reset_of}
use Rattle.update.specs.Update.{updated}
use Rattle.layout.specs.Layout.{flags_in, hasher_in, slices_of, hasher_fits, new_fits}
use Rattle.answers.specs.Answers.{Left, left, guarded, updated_left}

-- the call of a new hasher, with the flags of a number
unfoldable pub new_call : ℕ → List ℕ → List ℕ → List ℕ → Left
new_call flags words pending state =
    guarded (new_fits (length words) (length pending) (length state) flags)
    (left 0 (slices_of (fresh_of (flags_in flags))))
    (words ∷ pending ∷ state ∷ [])

-- the call of an update
unfoldable pub update_call : List ℕ → List ℕ → List ℕ → List ℕ → Loan → List ℕ → Left
update_call words pending state bytes l answer =
    guarded (hasher_fits (length words) (length pending) state && eqb (length answer) 2)
    (updated_left (updated (hasher_in words pending state) bytes l))
    (words ∷ pending ∷ state ∷ answer ∷ [])

-- the call of a reset
unfoldable pub reset_call : List ℕ → List ℕ → List ℕ → List ℕ → Left
reset_call words pending state answer =
    guarded (hasher_fits (length words) (length pending) state && eqb (length answer) 2)
    (updated_left (reset_of (hasher_in words pending state)))
    (words ∷ pending ∷ state ∷ answer ∷ [])
