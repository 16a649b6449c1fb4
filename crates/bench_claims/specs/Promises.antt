-- What the contracts of the lane calls say of the answer, of the bench at exit and of the lent output at exit. 02, request a.
use Rattle.refusal.specs.Refusal.{Checked}
use Rattle.refusal.specs.declared.Refusal.{Refusal}
use Rattle.std.specs.Prelude.{◌≡◌, List, ℕ, Result}
use Rattle.loan.specs.Loan.{Loan}
use Rattle.hasher.specs.declared.Hasher.{Hasher}
use Rattle.bench.specs.Bench.{lane_update_refusal, lane_updated, lane_answer, lane_finished, lane_written, lane_reset_refusal, lane_reset, lane_handed}
use Rattle.bench.specs.declared.LaneAnswer.{LaneAnswer}

-- an update of a lane answers r and leaves the bench `left`
abbrev pub LaneUpdates : List Hasher → ℕ → List ℕ → Loan → Checked → List Hasher → Type 0
LaneUpdates bench lane bytes l r left = (left ≡ lane_updated bench lane bytes l) × (r ≡ lane_update_refusal bench lane bytes l)

-- a finish of a lane answers a, a verdict and the first mark or a refusal, and leaves the bench `left` and the bytes `written` in the lent output
abbrev pub LaneFinishes : List Hasher → ℕ → List ℕ → Loan → Result LaneAnswer Refusal → List Hasher → List ℕ → Type 0
LaneFinishes bench lane out l a left written =
    (left ≡ lane_finished bench lane out l) × (written ≡ lane_written bench lane out l) × (a ≡ lane_handed (lane_answer bench lane out l))

-- a reset of a lane answers r and leaves the bench `left`
abbrev pub LaneResets : List Hasher → ℕ → Checked → List Hasher → Type 0
LaneResets bench lane r left = (left ≡ lane_reset bench lane) × (r ≡ lane_reset_refusal bench lane)
