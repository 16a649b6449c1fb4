-- Demands 2 and 3 for a message anywhere in a run: what its finish gets there is what Demands speaks of, on the bench as it was when the lane was
-- new, or left as new by an accepted reset or finish. Assumes nothing.
use mathlib.Core.Path.{◌≡◌, refl, ap, ap₂, ◌∙◌}
use mathlib.Core.List.{List, [], ◌∷◌, ◌++◌}
use Prim.Native.Nat.{ℕ, suc}
use lib.ListN.{length}
use Rattle.flags.specs.declared.Flags.{Flags}
use Rattle.loan.specs.Loan.{Tables, Loan, lend}
use Rattle.hasher.specs.Hasher.{fresh_of}
use Rattle.hasher.specs.declared.Hasher.{Hasher}
use Rattle.bench.specs.Bench.{lane_of}
use Rattle.claims.specs.Pieces.{Piece, hashed}
use Rattle.bench_claims.specs.Calls.{finishing, resetting, Response, of_outcome, response_number, bench_after, LaneCall, run_responses, run_bench, gets_after, LaneThere}
use Rattle.bench_claims.specs.OwnMessage.{last_outcome, last_first, last_written, LaneMessage}
use Rattle.bench_claims.specs.Several.{finish_of}
use Rattle.bench_claims.proofs.Lanes.{same-response}
use Rattle.bench_claims.proofs.Order.{run-append, responses-append}
use Rattle.bench_claims.proofs.OwnMessage.{lane_outcome_lem, lane_first_lem, lane-digest}
use Rattle.bench_claims.proofs.EveryCall.{reset-leaves-new, finish-leaves-new, lane-flags}

-- A run gets a response for each of its calls,
pub responses-length : (run : List LaneCall) (bench : List Hasher) → length (run_responses bench run) ≡ length run
responses-length [] bench = refl
responses-length (c ∷ cs) bench = ap suc (responses-length cs (bench_after bench c.lane c.call))

-- and the one at a call's place is what the call gets right after those before it.
pub response-at : (bench : List Hasher) (before : List LaneCall) (c : LaneCall) (after : List LaneCall)
    → run_responses bench (before ++ c ∷ after)
    ≡ run_responses bench before ++ gets_after bench before c ∷ run_responses (bench_after (run_bench bench before) c.lane c.call) after
response-at bench before c after = responses-append before (c ∷ after) bench

module _ (bench : List Hasher) (before run : List LaneCall) (lane : ℕ) (t : Tables) (out last : List ℕ) where
  -- a lane's finish
  abbrev ending : LaneCall
  ending = finish_of lane out t last

  -- What it gets after two parts of a run is what it gets after the second on the bench that the first leaves.
  pub finish-anywhere : gets_after bench (before ++ run) ending
      ≡ of_outcome (last_outcome (run_bench bench before) run lane out t last) (last_first (run_bench bench before) run lane out t last) (last_written (run_bench bench before) run lane out t last)
  finish-anywhere = ap (λ (b : List Hasher). gets_after b [] ending) (run-append before run bench)

  -- So where a lane's message begins after the first part, all theorems on messages hold of what the finish gets: here, what it gets by value.
  pub message-anywhere : (f : Flags) (ps : List Piece) → LaneMessage (run_bench bench before) run lane f t ps out last
      → gets_after bench (before ++ run) ending ≡ of_outcome (hashed f t ps last).outcome (hashed f t ps last).first (hashed f t ps last).digest
  message-anywhere f ps m =
      let met = run_bench bench before in
      finish-anywhere
      ∙ same-response (lane_outcome_lem met run lane f t ps out last m) (lane_first_lem met run lane f t ps out last m) (lane-digest met run lane f t ps out last m)

  -- And that is the response at its place in the whole run, with any calls after it.
  pub message-response : (after : List LaneCall) → run_responses bench (before ++ run ++ ending ∷ after)
      ≡ run_responses bench before
      ++ run_responses (run_bench bench before) run
      ++ of_outcome (last_outcome (run_bench bench before) run lane out t last) (last_first (run_bench bench before) run lane out t last) (last_written (run_bench bench before) run lane out t last)
      ∷ run_responses (bench_after (run_bench bench (before ++ run)) lane (finishing out (lend t last))) after
  message-response after =
      response-at bench (before ++ run) ending after
      ∙ ap₂ (λ (rs : List Response) (r : Response). rs ++ r ∷ run_responses (bench_after (run_bench bench (before ++ run)) lane (finishing out (lend t last))) after)
      (responses-append before run bench) finish-anywhere

module _ (bench : List Hasher) (before : List LaneCall) (lane : ℕ) (has : LaneThere bench lane) where
  -- Right after an accepted reset, anywhere in a run, a lane is as new, with the flags that it had at first, so that a message may begin.
  pub reset-begins : let c : LaneCall = record { lane = lane; call = resetting } in
      response_number (gets_after bench before c) ≡ 0 → lane_of (run_bench bench (before ++ c ∷ [])) lane ≡ fresh_of (lane_of bench lane).flags
  reset-begins e =
      ap (λ (b : List Hasher). lane_of b lane) (run-append before (record { lane = lane; call = resetting } ∷ []) bench)
      ∙ reset-leaves-new (run_bench bench before) lane e
      ∙ ap fresh_of (lane-flags bench before lane has)

  -- So it is right after an accepted finish.
  pub finish-begins : (out : List ℕ) (l : Loan) → let c : LaneCall = record { lane = lane; call = finishing out l } in
      response_number (gets_after bench before c) ≡ 0 → lane_of (run_bench bench (before ++ c ∷ [])) lane ≡ fresh_of (lane_of bench lane).flags
  finish-begins out l e =
      ap (λ (b : List Hasher). lane_of b lane) (run-append before (record { lane = lane; call = finishing out l } ∷ []) bench)
      ∙ finish-leaves-new (run_bench bench before) lane out l e
      ∙ ap fresh_of (lane-flags bench before lane has)
