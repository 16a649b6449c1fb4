-- A bench of hashers, and what a call on one of its lanes answers and leaves.
use Rattle.std.specs.Prelude.{List, ℕ, length, get_or, set, Result, Ok, Err, Err as Refused}
use Rattle.std.specs.Result.{result_map_both}
use Rattle.word.specs.Choice.{pick}
use Rattle.refusal.specs.Refusal.{Checked}
use Rattle.refusal.specs.declared.Refusal.{Refusal}
use Rattle.refusal.specs.declared.Refusal.TheVariants.{NoLane}
use Rattle.flags.specs.Flags.{defaults}
use Rattle.loan.specs.Loan.{Loan}
use Rattle.stream.specs.Fold.{nowhere}
use Rattle.stream.specs.declared.FirstMark.{FirstMark}
use Rattle.hasher.specs.Hasher.{fresh_of, reset_of}
use Rattle.hasher.specs.declared.Hasher.{Hasher}
use Rattle.update.specs.Update.{updated}
use Rattle.finish.specs.Finish.{Outcome, first_told, finished_reset, written_out}
use Rattle.lane.specs.Lane.{has_lane}
use Rattle.bench.specs.declared.LaneAnswer.{LaneAnswer}

-- 10, where a bench of so many hashers has no such lane
abbrev pub lane_check : ℕ → ℕ → Checked
lane_check count lane = pick (has_lane count lane) (Ok tt) (Err NoLane)

-- the hasher on a lane; past the end a new one, which no call gets to
abbrev pub lane_of : List Hasher → ℕ → Hasher
lane_of bench lane = get_or bench lane (fresh_of defaults)

-- what is made of the hasher on a lane, or another value where the bench has no such lane
unfoldable pub on_lane : {A : Type 0} → List Hasher → ℕ → (Hasher → A) → A → A
on_lane bench lane make other = pick (has_lane (length bench) lane) (make (lane_of bench lane)) other

-- the bench where the hasher on a lane alone is changed
abbrev pub changed : List Hasher → ℕ → (Hasher → Hasher) → List Hasher
changed bench lane next = on_lane bench lane (λ h. set bench lane (next h)) bench

-- what an update of a lane refuses: 10, then what the update of its hasher refuses
abbrev pub lane_update_refusal : List Hasher → ℕ → List ℕ → Loan → Checked
lane_update_refusal bench lane bytes l = on_lane bench lane (λ h. (updated h bytes l).refusal) (Err NoLane)

-- the bench that it leaves
abbrev pub lane_updated : List Hasher → ℕ → List ℕ → Loan → List Hasher
lane_updated bench lane bytes l = changed bench lane (λ h. (updated h bytes l).hasher)

-- the outcome of a lane's finish-and-reset into a lent output: 10, then the outcome of the finish-and-reset of its hasher
abbrev pub lane_outcome : List Hasher → ℕ → List ℕ → Loan → Outcome
lane_outcome bench lane out l = on_lane bench lane (λ h. (finished_reset h (length out) l).outcome) (Refused NoLane)

-- the first mark that it hands out: that of the finish-and-reset of the lane's hasher, padding counted; zeros where there is no such lane
abbrev pub lane_first : List Hasher → ℕ → List ℕ → Loan → FirstMark
lane_first bench lane out l = on_lane bench lane (λ h. (finished_reset h (length out) l).first) nowhere

-- the whole account of a lane's finish, beside the bench and the output: zeros for the first mark on a refusal
pub record LaneAccount : Type 0 where
  pub outcome : Outcome
  pub first : FirstMark

-- what a caller is handed of it: the refusal alone, or what stands beside the verdict
abbrev pub lane_handed : LaneAccount → Result LaneAnswer Refusal
lane_handed a = result_map_both (λ v. record { verdict = v; first = first_told v a.first }) (λ r. r) a.outcome

-- what it answers
abbrev pub lane_answer : List Hasher → ℕ → List ℕ → Loan → LaneAccount
lane_answer bench lane out l = record { outcome = lane_outcome bench lane out l; first = lane_first bench lane out l }

-- the bench that it leaves
abbrev pub lane_finished : List Hasher → ℕ → List ℕ → Loan → List Hasher
lane_finished bench lane out l = changed bench lane (λ h. (finished_reset h (length out) l).hasher)

-- and the output
abbrev pub lane_written : List Hasher → ℕ → List ℕ → Loan → List ℕ
lane_written bench lane out l = on_lane bench lane (λ h. written_out h out l) out

-- what a lane's reset refuses
abbrev pub lane_reset_refusal : List Hasher → ℕ → Checked
lane_reset_refusal bench lane = on_lane bench lane (λ h. (reset_of h).refusal) (Err NoLane)

-- the bench that it leaves
abbrev pub lane_reset : List Hasher → ℕ → List Hasher
lane_reset bench lane = changed bench lane (λ h. (reset_of h).hasher)
