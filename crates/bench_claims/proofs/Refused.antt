-- 10 exactly when the lane is past the end or the bench has 0 or more than 16 hashers, before all other tests; in every other case the answer,
-- first mark included, the lane's hasher and the bytes written are those of the by-value call on that lane's hasher. Assumes nothing.
use mathlib.Core.Path.{◌≡◌, refl, sym, ap, ◌∙◌}
use mathlib.Core.Logic.{◌↔◌}
use mathlib.Core.List.{List, [], ◌∷◌}
use Prim.Native.Nat.{ℕ}
use lib.ListN.{length, set}
use Rattle.std.specs.Prelude.{Err, Err as Refused}
use Rattle.refusal.specs.Refusal.{number_of}
use Rattle.refusal.specs.declared.Refusal.TheVariants.{NoLane}
use Rattle.refusal.proofs.Numbers.{apart}
use Rattle.loan.specs.Loan.{Loan, loan_numbers}
use Rattle.hasher.specs.Hasher.{reset_of}
use Rattle.hasher.specs.declared.Hasher.{Hasher}
use Rattle.update.specs.Update.{updated}
use Rattle.finish.specs.Finish.{outcome_number, finished_reset, written_out}
use Rattle.bench.specs.Bench.{lane_of, on_lane, lane_update_refusal, lane_updated, lane_outcome, lane_first, lane_finished, lane_written, lane_reset_refusal, lane_reset}
use Rattle.claims.proofs.Refusals.{update-only, finish-reset-only, reset-only}
use Rattle.bench_claims.specs.Calls.{Call, updating, finishing, resetting, response_number, turned_away, response_of, lane_response, NoSuchLane, LaneThere}
use Rattle.bench_claims.proofs.Lanes.{has-decides, either_lane, there-otherwise, not-both, response-there, response-away}

-- A call by value is never refused with 10.
pub never-10 : (h : Hasher) (c : Call) → response_number (response_of h c) ≡ 10 → ⊥
never-10 h (updating bytes l) e = apart (0 ∷ 1 ∷ 7 ∷ loan_numbers) 10 _ (update-only h bytes l) refl (sym e)
never-10 h (finishing out l) e = apart (0 ∷ 1 ∷ 8 ∷ loan_numbers) 10 _ (finish-reset-only h (length out) l) refl (sym e)
never-10 h resetting e = apart (0 ∷ 1 ∷ []) 10 _ (reset-only h) refl (sym e)

away-10 : (c : Call) → response_number (turned_away c) ≡ 10
away-10 (updating bytes l) = refl
away-10 (finishing out l) = refl
away-10 resetting = refl

module _ (bench : List Hasher) (lane : ℕ) where
  -- Where 10 is not given for the lane and the bench, the bench has the lane.
  pub every-other-case : (NoSuchLane bench lane → ⊥) ↔ LaneThere bench lane
  every-other-case = (there-otherwise bench lane, not-both bench lane)

  -- Any call is refused with 10 exactly when there is no such lane.
  pub call-10 : (c : Call) → (response_number (lane_response bench lane c) ≡ 10) ↔ NoSuchLane bench lane
  call-10 c = (
    λ e. either_lane bench lane (NoSuchLane bench lane) (λ h. absurd (never-10 (lane_of bench lane) c (sym (ap response_number (response-there bench lane h c)) ∙ e))) (λ n. n),
    λ n. ap response_number (response-away bench lane n c) ∙ away-10 c,
  )

  -- Any other number is given exactly when there is such a lane and the by-value call gives it.
  pub call_line : (c : Call) (n : ℕ) → (n ≡ 10 → ⊥)
      → (response_number (lane_response bench lane c) ≡ n) ↔ (LaneThere bench lane × (response_number (response_of (lane_of bench lane) c) ≡ n))
  call_line c n other = (
    λ e.
        either_lane bench lane (LaneThere bench lane × (response_number (response_of (lane_of bench lane) c) ≡ n))
        (λ h. (h, sym (ap response_number (response-there bench lane h c)) ∙ e))
        (λ k. absurd (other (sym e ∙ (call-10 c).1 k))),
    λ k. ap response_number (response-there bench lane k.0 c) ∙ k.1,
  )

  -- An update of a lane: 10, by number and by name.
  module _ (bytes : List ℕ) (l : Loan) where
    pub lane-update-10 : (number_of (lane_update_refusal bench lane bytes l) ≡ 10) ↔ NoSuchLane bench lane
    lane-update-10 = call-10 (updating bytes l)

    pub lane-update-no-lane : (lane_update_refusal bench lane bytes l ≡ (Err NoLane)) ↔ NoSuchLane bench lane
    unfolding on_lane
    lane-update-no-lane = (λ e. lane-update-10.0 (ap number_of e), λ n. rw ((has-decides bench lane).off.1 n))

    -- The other lines of the table are those of the update by value.
    pub lane-update-line : (n : ℕ) → (n ≡ 10 → ⊥)
        → (number_of (lane_update_refusal bench lane bytes l) ≡ n) ↔ (LaneThere bench lane × (number_of (updated (lane_of bench lane) bytes l).refusal ≡ n))
    lane-update-line = call_line (updating bytes l)

    -- In every other case the refusal, number and place, and the lane's hasher are those of the update by value.
    pub lane-update-there : LaneThere bench lane
        → (lane_update_refusal bench lane bytes l ≡ (updated (lane_of bench lane) bytes l).refusal)
        × (lane_updated bench lane bytes l ≡ set bench lane (updated (lane_of bench lane) bytes l).hasher)
    unfolding on_lane
    lane-update-there h = let e = (has-decides bench lane).on.1 h in (rw e, rw e)

  -- A finish of a lane.
  module _ (out : List ℕ) (l : Loan) where
    pub lane-finish-10 : (outcome_number (lane_outcome bench lane out l) ≡ 10) ↔ NoSuchLane bench lane
    lane-finish-10 = call-10 (finishing out l)

    pub lane-finish-no-lane : (lane_outcome bench lane out l ≡ Refused NoLane) ↔ NoSuchLane bench lane
    unfolding on_lane
    lane-finish-no-lane = (λ e. lane-finish-10.0 (ap outcome_number e), λ n. rw ((has-decides bench lane).off.1 n))

    pub lane-finish-line : (n : ℕ) → (n ≡ 10 → ⊥)
        → (outcome_number (lane_outcome bench lane out l) ≡ n) ↔ (LaneThere bench lane × (outcome_number (finished_reset (lane_of bench lane) (length out) l).outcome ≡ n))
    lane-finish-line = call_line (finishing out l)

    -- In every other case the outcome, the lane's hasher, the bytes left in the output and the first mark are those of the finish-and-reset by value.
    pub lane-finish-there : LaneThere bench lane
        → (lane_outcome bench lane out l ≡ (finished_reset (lane_of bench lane) (length out) l).outcome)
        × (lane_finished bench lane out l ≡ set bench lane (finished_reset (lane_of bench lane) (length out) l).hasher)
        × (lane_written bench lane out l ≡ written_out (lane_of bench lane) out l)
        × (lane_first bench lane out l ≡ (finished_reset (lane_of bench lane) (length out) l).first)
    unfolding on_lane
    lane-finish-there h = let e = (has-decides bench lane).on.1 h in (rw e, rw e, rw e, rw e)

  -- A reset of a lane.
  pub lane-reset-10 : (number_of (lane_reset_refusal bench lane) ≡ 10) ↔ NoSuchLane bench lane
  lane-reset-10 = call-10 resetting

  pub lane-reset-no-lane : (lane_reset_refusal bench lane ≡ (Err NoLane)) ↔ NoSuchLane bench lane
  unfolding on_lane
  lane-reset-no-lane = (λ e. lane-reset-10.0 (ap number_of e), λ n. rw ((has-decides bench lane).off.1 n))

  pub lane-reset-line : (n : ℕ) → (n ≡ 10 → ⊥)
      → (number_of (lane_reset_refusal bench lane) ≡ n) ↔ (LaneThere bench lane × (number_of (reset_of (lane_of bench lane)).refusal ≡ n))
  lane-reset-line = call_line resetting

  -- In every other case the refusal and the lane's hasher are those of the reset by value.
  pub lane-reset-there : LaneThere bench lane
      → (lane_reset_refusal bench lane ≡ (reset_of (lane_of bench lane)).refusal)
      × (lane_reset bench lane ≡ set bench lane (reset_of (lane_of bench lane)).hasher)
  unfolding on_lane
  lane-reset-there h = let e = (has-decides bench lane).on.1 h in (rw e, rw e)
