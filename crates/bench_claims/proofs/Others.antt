-- Every other lane and the bench's length stay as they were, and a refused call leaves all lanes and its output as they were. Assumes nothing.
use mathlib.Core.Path.{◌≡◌, ap, ◌∙◌}
use mathlib.Core.List.{List}
use Prim.Native.Nat.{ℕ}
use lib.ListN.{length, set, length-set}
use lib.Seq.{get_or-set_same, get_or-set_other, set-get_or}
use Rattle.std.specs.Prelude.{Err, IsErrAnd, Ok as Done, Err as Refused}
use Rattle.std.specs.Result.{result_map_both}
use Rattle.refusal.specs.Refusal.{number_of}
use Rattle.refusal.specs.declared.Refusal.{Refusal}
use Rattle.refusal.proofs.Chains.{refuses, refused_and}
use Rattle.verdict.specs.declared.Verdict.TheVariants.{Mitigated}
use Rattle.flags.specs.Flags.{defaults}
use Rattle.loan.specs.Loan.{Loan}
use Rattle.stream.specs.Fold.{nowhere}
use Rattle.hasher.specs.Hasher.{fresh_of, UpdateAccount}
use Rattle.hasher.specs.declared.Hasher.{Hasher}
use Rattle.finish.specs.Finish.{outcome_refusal, outcome_number, Outcome}
use Rattle.bench.specs.Bench.{lane_of, lane_update_refusal, lane_updated, lane_outcome, lane_first, lane_finished, lane_written, lane_reset_refusal, lane_reset, on_lane}
use Rattle.claims.proofs.Refusals.{update-refused, finish-reset-kept, reset-0, reset-refused}
use Rattle.bench_claims.specs.Calls.{Call, updating, finishing, resetting, of_refusal, response_number, refusal_in, refused_with, response_of, after_call, lane_response, bench_after, NoSuchLane, LaneThere}
use Rattle.bench_claims.proofs.Lanes.{same-response, as-long-there, either_lane, has-decides, response-there, after-there, after-away}
use Rattle.bench_claims.proofs.Refused.{lane-finish-there}

-- A refused call by value gives the hasher back as it was.
pub call_kept : (h : Hasher) (c : Call) → (response_number (response_of h c) ≡ 0 → ⊥) → after_call h c ≡ h
call_kept h (updating bytes l) n = update-refused h bytes l n
call_kept h (finishing out l) n = (finish-reset-kept h out l n).0
call_kept h resetting n = ap (λ (u : UpdateAccount). u.hasher) (reset-refused h (λ w. n ((reset-0 h).1 w)))

module _ (bench : List Hasher) (lane : ℕ) (c : Call) where
  -- The bench has as many hashers as before.
  pub call_length : length (bench_after bench lane c) ≡ length bench
  call_length =
      either_lane bench lane (length (bench_after bench lane c) ≡ length bench)
      (λ h. ap length (after-there bench lane h c) ∙ length-set bench lane _) (λ n. ap length (after-away bench lane n c))

  -- Every other lane is as before.
  pub call-others : (other : ℕ) → (other ≡ lane → ⊥) → lane_of (bench_after bench lane c) other ≡ lane_of bench other
  call-others other apart =
      either_lane bench lane (lane_of (bench_after bench lane c) other ≡ lane_of bench other)
      (λ h. ap (λ (b : List Hasher). lane_of b other) (after-there bench lane h c) ∙ get_or-set_other bench lane other _ (fresh_of defaults) apart)
      (λ n. ap (λ (b : List Hasher). lane_of b other) (after-away bench lane n c))

  -- The lane itself, where the bench has it, is as after the by-value call.
  pub call-own : LaneThere bench lane → lane_of (bench_after bench lane c) lane ≡ after_call (lane_of bench lane) c
  call-own h = ap (λ (b : List Hasher). lane_of b lane) (after-there bench lane h c) ∙ get_or-set_same bench lane _ (fresh_of defaults) h.inside

  -- A refused call leaves the whole bench as it was.
  pub refused-keeps : (response_number (lane_response bench lane c) ≡ 0 → ⊥) → bench_after bench lane c ≡ bench
  refused-keeps n =
      either_lane bench lane (bench_after bench lane c ≡ bench)
      (λ h.
      let k = call_kept (lane_of bench lane) c (λ e. n (ap response_number (response-there bench lane h c) ∙ e)) in
      after-there bench lane h c ∙ ap (set bench lane) k ∙ set-get_or bench lane (fresh_of defaults))
      (λ k. after-away bench lane k c)

-- What a bench has before a call, it has after it.
pub still-there : (bench : List Hasher) (lane at : ℕ) (c : Call) → LaneThere bench lane → LaneThere (bench_after bench at c) lane
still-there bench lane at c = as-long-there bench (bench_after bench at c) lane (call_length bench at c)

pub none_after : (bench : List Hasher) (lane at : ℕ) (c : Call) → NoSuchLane bench lane → NoSuchLane (bench_after bench at c) lane
none_after bench lane at c n = rw (call_length bench at c) n

-- The same of each of the three calls. A refused update:
pub lane-update-refused : (bench : List Hasher) (lane : ℕ) (bytes : List ℕ) (l : Loan) → (number_of (lane_update_refusal bench lane bytes l) ≡ 0 → ⊥)
    → lane_updated bench lane bytes l ≡ bench
lane-update-refused bench lane bytes l = refused-keeps bench lane (updating bytes l)

-- A refused finish, which writes nothing and hands out zeros:
pub lane-finish-refused : (bench : List Hasher) (lane : ℕ) (out : List ℕ) (l : Loan) → (outcome_number (lane_outcome bench lane out l) ≡ 0 → ⊥)
    → (lane_finished bench lane out l ≡ bench) × (lane_written bench lane out l ≡ out) × (lane_first bench lane out l ≡ nowhere)
unfolding on_lane
lane-finish-refused bench lane out l n = (
  refused-keeps bench lane (finishing out l) n,
  either_lane bench lane (lane_written bench lane out l ≡ out)
      (λ h.
      let w = lane-finish-there bench lane out l h in
      w.2 ∙ (finish-reset-kept (lane_of bench lane) out l (λ e. n (ap outcome_number w.0 ∙ e))).2)
      (λ k. rw ((has-decides bench lane).off.1 k)),
  either_lane bench lane (lane_first bench lane out l ≡ nowhere)
      (λ h.
      let w = lane-finish-there bench lane out l h in
      w.3 ∙ (finish-reset-kept (lane_of bench lane) out l (λ e. n (ap outcome_number w.0 ∙ e))).1)
      (λ k. rw ((has-decides bench lane).off.1 k)),
)

-- A refused reset:
pub lane-reset-refused : (bench : List Hasher) (lane : ℕ) → (number_of (lane_reset_refusal bench lane) ≡ 0 → ⊥) → lane_reset bench lane ≡ bench
lane-reset-refused bench lane = refused-keeps bench lane resetting

-- an outcome that refuses is the refusal that it carries
outcome-refused : (o : Outcome) (r : Refusal) → outcome_refusal o ≡ Err r → o ≡ Refused r
outcome-refused (Done v) r e = cc e
outcome-refused (Refused s) r e = ap (result_map_both (λ u. Mitigated) (λ (q : Refusal). q)) e

-- So any refused call gets the refusal that its response carries, zeros for a first mark, and its output as it was lent, and nothing else.
pub refused-gets : (bench : List Hasher) (lane : ℕ) (c : Call) → (response_number (lane_response bench lane c) ≡ 0 → ⊥)
    → IsErrAnd (refusal_in (lane_response bench lane c)) (λ r. lane_response bench lane c ≡ refused_with r c)
refused-gets bench lane (updating bytes l) n = refused_and _ _ (refuses _ n) (λ r e. ap of_refusal e)
refused-gets bench lane (finishing out l) n =
    let k = lane-finish-refused bench lane out l n in
    refused_and _ _ (refuses _ n) (λ r e. same-response (outcome-refused (lane_outcome bench lane out l) r e) k.2 k.1)
refused-gets bench lane resetting n = refused_and _ _ (refuses _ n) (λ r e. ap of_refusal e)
