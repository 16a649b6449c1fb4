-- Calls on one hasher by value, and calls on the lanes of a bench: what each answers and leaves, and what a run of them does. 02, request a.
use Rattle.std.specs.Prelude.{◌≡◌, ◌⊎◌, List, [], ◌∷◌, ℕ, ◌≤◌, ◌<◌, eqb, length, Err, Err as Refused}
use Rattle.word.specs.Choice.{pick}
use Rattle.word.specs.Lists.{AllBytes}
use Rattle.refusal.specs.Refusal.{number_of, Checked}
use Rattle.refusal.specs.declared.Refusal.{Refusal}
use Rattle.refusal.specs.declared.Refusal.TheVariants.{NoLane}
use Rattle.lane.specs.Lane.{most_lanes}
use Rattle.loan.specs.Loan.{Loan}
use Rattle.stream.specs.Fold.{nowhere}
use Rattle.stream.specs.declared.FirstMark.{FirstMark}
use Rattle.hasher.specs.Hasher.{reset_of}
use Rattle.hasher.specs.declared.Hasher.{Hasher}
use Rattle.update.specs.Update.{updated}
use Rattle.finish.specs.Finish.{outcome_refusal, outcome_number, finished_reset, written_out, Outcome}
use Rattle.bench.specs.Bench.{lane_of, lane_update_refusal, lane_updated, lane_outcome, lane_first, lane_finished, lane_written, lane_reset_refusal, lane_reset}

-- a call: an update with some bytes, a finish-and-reset into a lent output, as it is when lent, or a reset
pub data Call : Type 0 where
  updating : List ℕ → Loan → Call
  finishing : List ℕ → Loan → Call
  resetting : Call

-- what a caller gets: a refusal or, from a finish, an outcome, the first mark and the bytes that are left in the output
pub data Response : Type 0 where
  of_refusal : Checked → Response
  of_outcome : Outcome → FirstMark → List ℕ → Response

-- the number of a response in the table of 01, as amended; 0 where nothing is refused
abbrev pub response_number : Response → ℕ
response_number (of_refusal r) = number_of r
response_number (of_outcome o first out) = outcome_number o

-- what a response says of a refusal: that nothing is refused, or which
abbrev pub refusal_in : Response → Checked
refusal_in (of_refusal r) = r
refusal_in (of_outcome o first out) = outcome_refusal o

-- what a refused call gets: the refusal, zeros for a first mark, and the output as it was lent
abbrev pub refused_with : Refusal → Call → Response
refused_with r (updating bytes l) = of_refusal (Err r)
refused_with r (finishing out l) = of_outcome (Refused r) nowhere out
refused_with r resetting = of_refusal (Err r)

-- what a call refused with 10 gets
abbrev pub turned_away : Call → Response
turned_away c = refused_with NoLane c

-- what a call on a hasher gets, by value
abbrev pub response_of : Hasher → Call → Response
response_of h (updating bytes l) = of_refusal (updated h bytes l).refusal
response_of h (finishing out l) = of_outcome (finished_reset h (length out) l).outcome (finished_reset h (length out) l).first (written_out h out l)
response_of h resetting = of_refusal (reset_of h).refusal

-- the hasher that it gives
abbrev pub after_call : Hasher → Call → Hasher
after_call h (updating bytes l) = (updated h bytes l).hasher
after_call h (finishing out l) = (finished_reset h (length out) l).hasher
after_call h resetting = (reset_of h).hasher

-- what calls on a hasher get, one after the other, refused ones included
abbrev pub responses_of : Hasher → List Call → List Response
responses_of h [] = []
responses_of h (c ∷ cs) = response_of h c ∷ responses_of (after_call h c) cs

-- the hasher after them
abbrev pub after_calls : Hasher → List Call → Hasher
after_calls h [] = h
after_calls h (c ∷ cs) = after_calls (after_call h c) cs

-- what a call on a lane of a bench gets, as the contracts of the lane calls say
abbrev pub lane_response : List Hasher → ℕ → Call → Response
lane_response bench lane (updating bytes l) = of_refusal (lane_update_refusal bench lane bytes l)
lane_response bench lane (finishing out l) = of_outcome (lane_outcome bench lane out l) (lane_first bench lane out l) (lane_written bench lane out l)
lane_response bench lane resetting = of_refusal (lane_reset_refusal bench lane)

-- the bench that it leaves, as they say
abbrev pub bench_after : List Hasher → ℕ → Call → List Hasher
bench_after bench lane (updating bytes l) = lane_updated bench lane bytes l
bench_after bench lane (finishing out l) = lane_finished bench lane out l
bench_after bench lane resetting = lane_reset bench lane

-- a call and the lane that it names
pub record LaneCall : Type 0 where
  pub lane : ℕ
  pub call : Call

-- what the calls of a run get, one after the other, refused ones included
abbrev pub run_responses : List Hasher → List LaneCall → List Response
run_responses bench [] = []
run_responses bench (c ∷ cs) = lane_response bench c.lane c.call ∷ run_responses (bench_after bench c.lane c.call) cs

-- the bench after a run
abbrev pub run_bench : List Hasher → List LaneCall → List Hasher
run_bench bench [] = bench
run_bench bench (c ∷ cs) = run_bench (bench_after bench c.lane c.call) cs

-- what a call gets right after the calls of a run
abbrev pub gets_after : List Hasher → List LaneCall → LaneCall → Response
gets_after bench before c = lane_response (run_bench bench before) c.lane c.call

-- the calls of a run that name a lane, in order
abbrev pub own_calls : ℕ → List LaneCall → List Call
own_calls lane [] = []
own_calls lane (c ∷ cs) = pick (eqb c.lane lane) (c.call ∷ own_calls lane cs) (own_calls lane cs)

-- the run cut down to them
abbrev pub only_of : ℕ → List LaneCall → List LaneCall
only_of lane [] = []
only_of lane (c ∷ cs) = pick (eqb c.lane lane) (c ∷ only_of lane cs) (only_of lane cs)

-- the calls of a run that name another lane
abbrev pub other_calls : ℕ → List LaneCall → List LaneCall
other_calls lane [] = []
other_calls lane (c ∷ cs) = pick (eqb c.lane lane) (other_calls lane cs) (c ∷ other_calls lane cs)

-- what a lane's own calls get, out of what all calls of the run get
abbrev pub own_responses : ℕ → List LaneCall → List Response → List Response
own_responses lane [] rs = []
own_responses lane (c ∷ cs) [] = []
own_responses lane (c ∷ cs) (r ∷ rs) = pick (eqb c.lane lane) (r ∷ own_responses lane cs rs) (own_responses lane cs rs)

-- a response for each of some calls that are all refused with 10
abbrev pub all_turned_away : List Call → List Response
all_turned_away [] = []
all_turned_away (c ∷ cs) = turned_away c ∷ all_turned_away cs

-- what an update takes are bytes, as its type says
abbrev pub TypedCall : Call → Type 0
TypedCall (updating bytes l) = AllBytes bytes
TypedCall (finishing out l) = Unit
TypedCall resetting = Unit

-- and so for each of some calls
abbrev pub TypedCalls : List Call → Type 0
TypedCalls [] = Unit
TypedCalls (c ∷ cs) = TypedCall c × TypedCalls cs

-- a bench that can be used: of 1 to 16 hashers
pub record OneToSixteen (bench : List Hasher) : Type 0 where
  pub some : 1 ≤ length bench
  pub most : length bench ≤ most_lanes

-- 10: the lane is past the end, or the bench has no hasher, or more than 16
abbrev pub NoSuchLane : List Hasher → ℕ → Type 0
NoSuchLane bench lane = (length bench ≤ lane) ⊎ ((length bench ≡ 0) ⊎ (most_lanes < length bench))

-- a bench that can be used, and a lane that it has
pub record LaneThere (bench : List Hasher) (lane : ℕ) : Type 0 where
  pub usable : OneToSixteen bench
  pub inside : lane < length bench

-- independence of a lane in a run: its hasher at the end, and what its calls get in order, first marks and bytes written included, are those that its own
-- calls alone give, by value, from its own start
pub record GoesAlone (bench : List Hasher) (run : List LaneCall) (lane : ℕ) : Type 0 where
  pub hasher : lane_of (run_bench bench run) lane ≡ after_calls (lane_of bench lane) (own_calls lane run)
  pub responses : own_responses lane run (run_responses bench run) ≡ responses_of (lane_of bench lane) (own_calls lane run)
