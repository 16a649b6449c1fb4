-- What a finish and a finish-and-reset give back on a hasher in lent memory, and what they leave there.
use Rattle.std.specs.Prelude.{◌&&◌, List, [], ◌∷◌, ℕ, eqb, length}
use Rattle.loan.specs.Loan.{Loan}
use Rattle.finish.specs.Finish.{finished_reset, written_out}
use Rattle.layout.specs.Layout.{hasher_in, hasher_fits}
use Rattle.answers.specs.Answers.{Left, guarded, outcome_left, finish_reset_left}

-- the call of a finish, which only reads the hasher: outcome, first mark and output are those of a finish-and-reset
unfoldable pub finish_call : List ℕ → List ℕ → List ℕ → List ℕ → Loan → List ℕ → Left
finish_call words pending state digest l answer =
    let h = hasher_in words pending state in
    let c = finished_reset h (length digest) l in
    guarded (hasher_fits (length words) (length pending) state && eqb (length answer) 4)
    (outcome_left c.outcome c.first (written_out h digest l))
    (digest ∷ answer ∷ [])

-- the call of a finish-and-reset
unfoldable pub finish_reset_call : List ℕ → List ℕ → List ℕ → List ℕ → Loan → List ℕ → Left
finish_reset_call words pending state out l answer =
    let h = hasher_in words pending state in
    guarded (hasher_fits (length words) (length pending) state && eqb (length answer) 4)
    (finish_reset_left (finished_reset h (length out) l) (written_out h out l))
    (words ∷ pending ∷ state ∷ out ∷ answer ∷ [])
