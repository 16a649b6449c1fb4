-- The message of a lane: that of its accepted updates, with one table for that lane.
use Rattle.std.specs.Prelude.{◌≡◌, List, [], ◌∷◌, ℕ, eqb, Ok}
use Rattle.word.specs.Choice.{pick}
use Rattle.flags.specs.declared.Flags.{Flags}
use Rattle.loan.specs.Loan.{Tables, lend}
use Rattle.stream.specs.declared.FirstMark.{FirstMark}
use Rattle.hasher.specs.Hasher.{fresh_of}
use Rattle.hasher.specs.declared.Hasher.{Hasher}
use Rattle.finish.specs.Finish.{outcome_number, Outcome}
use Rattle.bench.specs.Bench.{lane_of, lane_outcome, lane_first, lane_written}
use Rattle.claims.specs.Pieces.{Piece}
use Rattle.bench_claims.specs.Calls.{Call, updating, Response, of_refusal, response_number, LaneCall, run_responses, run_bench, own_calls, own_responses, LaneThere}

-- an update for each piece, all with the same tables
abbrev pub updates_with : Tables → List Piece → List Call
updates_with t [] = []
updates_with t (p ∷ ps) = updating p.bytes (lend t p.masks) ∷ updates_with t ps

-- what they get where all are taken
abbrev pub taken_each : List Piece → List Response
taken_each [] = []
taken_each (p ∷ ps) = of_refusal (Ok tt) ∷ taken_each ps

-- those of some calls that were accepted, by what each of them got
abbrev pub accepted_calls : List Call → List Response → List Call
accepted_calls [] rs = []
accepted_calls (c ∷ cs) [] = []
accepted_calls (c ∷ cs) (r ∷ rs) = pick (eqb (response_number r) 0) (c ∷ accepted_calls cs rs) (accepted_calls cs rs)

-- the calls that a lane accepted in a run
abbrev pub accepted_on : List Hasher → List LaneCall → ℕ → List Call
accepted_on bench run lane = accepted_calls (own_calls lane run) (own_responses lane run (run_responses bench run))

-- the outcome of a lane's finish right after a run
abbrev pub last_outcome : List Hasher → List LaneCall → ℕ → List ℕ → Tables → List ℕ → Outcome
last_outcome bench run lane out t last = lane_outcome (run_bench bench run) lane out (lend t last)

-- the first mark that it hands out
abbrev pub last_first : List Hasher → List LaneCall → ℕ → List ℕ → Tables → List ℕ → FirstMark
last_first bench run lane out t last = lane_first (run_bench bench run) lane out (lend t last)

-- the bytes that it leaves in the lent output
abbrev pub last_written : List Hasher → List LaneCall → ℕ → List ℕ → Tables → List ℕ → List ℕ
last_written bench run lane out t last = lane_written (run_bench bench run) lane out (lend t last)

-- the start of a message on a lane that is new or reset: in a run of any calls on any lanes those that the lane accepts are updates with the tables t,
-- one for each piece
pub record LaneTaking (bench : List Hasher) (run : List LaneCall) (lane : ℕ) (f : Flags) (t : Tables) (ps : List Piece) : Type 0 where
  pub has : LaneThere bench lane
  pub starts : lane_of bench lane ≡ fresh_of f
  pub updates : accepted_on bench run lane ≡ updates_with t ps

-- a message on a lane that is new or reset: in a run of any calls on any lanes those that the lane accepts are updates with the tables t, one
-- for each piece, and the lane's finish after the run, with the same tables and the masks `last`, is accepted too
pub record LaneMessage (bench : List Hasher) (run : List LaneCall) (lane : ℕ) (f : Flags) (t : Tables) (ps : List Piece) (out last : List ℕ) : Type 0 where
  pub starts : lane_of bench lane ≡ fresh_of f
  pub updates : accepted_on bench run lane ≡ updates_with t ps
  pub finish : outcome_number (last_outcome bench run lane out t last) ≡ 0
