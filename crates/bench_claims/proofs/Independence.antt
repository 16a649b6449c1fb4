-- Independence: in any run of calls on a bench of 1 to 16 hashers, well formed or not, each lane's hasher at the end, and the answers and written
-- bytes of its calls in order, are those that its own calls alone give, by value, from its own start. What was done on other lanes, and that
-- anything was done there, can't be told. Assumes nothing.
use mathlib.Core.Path.{◌≡◌, refl, sym, ap, ap₂, ◌∙◌}
use mathlib.Core.Bool.{Bool, true, false}
use mathlib.Core.List.{List, [], ◌∷◌}
use Prim.Native.Nat.{ℕ, ◌<◌}
use borrow.Author.Tests.{eqb-true, eqb-false}
use lib.Dec.{eqb}
use lib.ListN.{length}
use Rattle.word.specs.Choice.{pick}
use Rattle.hasher.specs.declared.Hasher.{Hasher}
use Rattle.bench.specs.Bench.{lane_of}
use Rattle.bench_claims.specs.Calls.{Call, Response, responses_of, after_calls, lane_response, bench_after, LaneCall, run_responses, run_bench, own_calls, only_of, own_responses, other_calls, all_turned_away, OneToSixteen, NoSuchLane, LaneThere, GoesAlone}
use Rattle.bench_claims.proofs.Lanes.{as-long-there, response-there, response-away, after-away}
use Rattle.bench_claims.proofs.Others.{call_length, call-others, call-own, still-there, none_after}

-- The bench keeps its length in any run.
pub run_length : (run : List LaneCall) (bench : List Hasher) → length (run_bench bench run) ≡ length bench
run_length [] bench = refl
run_length (c ∷ cs) bench = run_length cs (bench_after bench c.lane c.call) ∙ call_length bench c.lane c.call

-- So the lanes that it has before, it has after.
pub still-there-run : (run : List LaneCall) (bench : List Hasher) (lane : ℕ) → LaneThere bench lane → LaneThere (run_bench bench run) lane
still-there-run run bench lane = as-long-there bench (run_bench bench run) lane (run_length run bench)

-- what the first call of a run leaves on a lane: what it makes of it, if it names the lane
first-leaves : (bench : List Hasher) (lane : ℕ) (c : LaneCall) (cs : List Call) → LaneThere bench lane → (b : Bool) → eqb c.lane lane ≡ b
    → after_calls (lane_of (bench_after bench c.lane c.call) lane) cs ≡ after_calls (lane_of bench lane) (pick b (c.call ∷ cs) cs)
first-leaves bench lane c cs h true e =
    let k = eqb-true c.lane lane e in
    ap (λ (g : Hasher). after_calls g cs) (ap (λ (i : ℕ). lane_of (bench_after bench i c.call) lane) k ∙ call-own bench lane c.call h)
first-leaves bench lane c cs h false e =
    ap (λ (g : Hasher). after_calls g cs) (call-others bench c.lane c.call lane (λ k. eqb-false c.lane lane e (sym k)))

-- The hasher on a lane after any run is that after the lane's own calls alone.
pub lane-alone : (run : List LaneCall) (bench : List Hasher) (lane : ℕ) → LaneThere bench lane
    → lane_of (run_bench bench run) lane ≡ after_calls (lane_of bench lane) (own_calls lane run)
lane-alone [] bench lane h = refl
lane-alone (c ∷ cs) bench lane h =
    lane-alone cs (bench_after bench c.lane c.call) lane (still-there bench lane c.lane c.call h)
    ∙ first-leaves bench lane c (own_calls lane cs) h (eqb c.lane lane) refl

-- what the first call of a run gets, if it names the lane, and what it leaves to those after it
first-gets : (bench : List Hasher) (lane : ℕ) (c : LaneCall) (cs : List Call) → LaneThere bench lane → (b : Bool) → eqb c.lane lane ≡ b
    → (rs : List Response) → rs ≡ responses_of (lane_of (bench_after bench c.lane c.call) lane) cs
    → pick b (lane_response bench c.lane c.call ∷ rs) rs ≡ responses_of (lane_of bench lane) (pick b (c.call ∷ cs) cs)
first-gets bench lane c cs h true e rs same =
    let k = eqb-true c.lane lane e in
    ap₂ (λ (x : Response) (xs : List Response). x ∷ xs)
    (ap (λ (i : ℕ). lane_response bench i c.call) k ∙ response-there bench lane h c.call)
    (same ∙ ap (λ (g : Hasher). responses_of g cs) (ap (λ (i : ℕ). lane_of (bench_after bench i c.call) lane) k ∙ call-own bench lane c.call h))
first-gets bench lane c cs h false e rs same =
    same ∙ ap (λ (g : Hasher). responses_of g cs) (call-others bench c.lane c.call lane (λ k. eqb-false c.lane lane e (sym k)))

-- What a lane's calls get in any run, in order, is what they get alone.
pub responses-alone : (run : List LaneCall) (bench : List Hasher) (lane : ℕ) → LaneThere bench lane
    → own_responses lane run (run_responses bench run) ≡ responses_of (lane_of bench lane) (own_calls lane run)
responses-alone [] bench lane h = refl
responses-alone (c ∷ cs) bench lane h =
    first-gets bench lane c (own_calls lane cs) h (eqb c.lane lane) refl _
    (responses-alone cs (bench_after bench c.lane c.call) lane (still-there bench lane c.lane c.call h))

-- Each lane of a bench of 1 to 16 hashers goes alone in any run.
pub independent : (bench : List Hasher) → OneToSixteen bench → (run : List LaneCall) (lane : ℕ) → lane < length bench → GoesAlone bench run lane
independent bench usable run lane inside =
    let h : LaneThere bench lane = record { usable = usable; inside = inside } in
    record { hasher = lane-alone run bench lane h; responses = responses-alone run bench lane h }

-- What others did can't be told: two runs, on two benches, in which a lane starts with the same hasher and gets the same calls, give its calls
-- the same answers and leave it with the same hasher.
module _ (bench other-bench : List Hasher) (run other-run : List LaneCall) (lane other-lane : ℕ)
    (has : LaneThere bench lane) (other-has : LaneThere other-bench other-lane)
    (start : lane_of bench lane ≡ lane_of other-bench other-lane) (calls : own_calls lane run ≡ own_calls other-lane other-run) where
  pub unseen-hasher : lane_of (run_bench bench run) lane ≡ lane_of (run_bench other-bench other-run) other-lane
  unseen-hasher =
      lane-alone run bench lane has
      ∙ ap₂ (λ (h : Hasher) (cs : List Call). after_calls h cs) start calls
      ∙ sym (lane-alone other-run other-bench other-lane other-has)

  pub unseen-responses : own_responses lane run (run_responses bench run) ≡ own_responses other-lane other-run (run_responses other-bench other-run)
  unseen-responses =
      responses-alone run bench lane has
      ∙ ap₂ (λ (h : Hasher) (cs : List Call). responses_of h cs) start calls
      ∙ sym (responses-alone other-run other-bench other-lane other-has)

-- one more call in front of a run, cut down to a lane's calls
first-only : (lane : ℕ) (c : LaneCall) (cs : List LaneCall) (ds : List Call) → own_calls lane cs ≡ ds → (b : Bool) → eqb c.lane lane ≡ b
    → own_calls lane (pick b (c ∷ cs) cs) ≡ pick b (c.call ∷ ds) ds
first-only lane c cs ds same true e = rw (e, same)
first-only lane c cs ds same false e = same

first-all : (lane : ℕ) (c : LaneCall) (cs : List LaneCall) → ((bench : List Hasher) → own_responses lane cs (run_responses bench cs) ≡ run_responses bench cs)
    → (b : Bool) → eqb c.lane lane ≡ b → (bench : List Hasher)
    → own_responses lane (pick b (c ∷ cs) cs) (run_responses bench (pick b (c ∷ cs) cs)) ≡ run_responses bench (pick b (c ∷ cs) cs)
first-all lane c cs all true e bench = rw (e, all (bench_after bench c.lane c.call))
first-all lane c cs all false e bench = all bench

-- the run cut down to a lane's calls has them all, and what it gets is what they get
only_calls : (run : List LaneCall) (lane : ℕ) → own_calls lane (only_of lane run) ≡ own_calls lane run
only_calls [] lane = refl
only_calls (c ∷ cs) lane = first-only lane c (only_of lane cs) (own_calls lane cs) (only_calls cs lane) (eqb c.lane lane) refl

only-responses : (run : List LaneCall) (lane : ℕ) (bench : List Hasher)
    → own_responses lane (only_of lane run) (run_responses bench (only_of lane run)) ≡ run_responses bench (only_of lane run)
only-responses [] lane bench = refl
only-responses (c ∷ cs) lane bench = first-all lane c (only_of lane cs) (only-responses cs lane) (eqb c.lane lane) refl bench

-- That others did anything can't be told: the run cut down to a lane's calls leaves it with the same hasher, and gets what its calls get in the whole run.
pub others-unseen : (bench : List Hasher) (run : List LaneCall) (lane : ℕ) → LaneThere bench lane
    → (lane_of (run_bench bench (only_of lane run)) lane ≡ lane_of (run_bench bench run) lane)
    × (run_responses bench (only_of lane run) ≡ own_responses lane run (run_responses bench run))
others-unseen bench run lane has = (
  unseen-hasher bench bench (only_of lane run) run lane lane has has refl (only_calls run lane),
  sym (only-responses run lane bench) ∙ unseen-responses bench bench (only_of lane run) run lane lane has has refl (only_calls run lane),
)

-- what the first call of a run gets, if it names a lane that is not there
first-away : (bench : List Hasher) (lane : ℕ) (c : LaneCall) (cs : List Call) → NoSuchLane bench lane → (b : Bool) → eqb c.lane lane ≡ b
    → (rs : List Response) → rs ≡ all_turned_away cs → pick b (lane_response bench c.lane c.call ∷ rs) rs ≡ all_turned_away (pick b (c.call ∷ cs) cs)
first-away bench lane c cs n true e rs same =
    ap₂ (λ (x : Response) (xs : List Response). x ∷ xs)
    (ap (λ (i : ℕ). lane_response bench i c.call) (eqb-true c.lane lane e) ∙ response-away bench lane n c.call) same
first-away bench lane c cs n false e rs same = same

-- The calls that name a lane past the end, or any lane of a bench of 0 or more than 16, are all refused with 10, in any run.
pub away-responses : (run : List LaneCall) (bench : List Hasher) (lane : ℕ) → NoSuchLane bench lane
    → own_responses lane run (run_responses bench run) ≡ all_turned_away (own_calls lane run)
away-responses [] bench lane n = refl
away-responses (c ∷ cs) bench lane n =
    first-away bench lane c (own_calls lane cs) n (eqb c.lane lane) refl _
    (away-responses cs (bench_after bench c.lane c.call) lane (none_after bench lane c.lane c.call n))

-- and what they leave
away-leaves : (bench : List Hasher) (lane : ℕ) (c : LaneCall) (cs : List LaneCall) → NoSuchLane bench lane → (b : Bool) → eqb c.lane lane ≡ b
    → run_bench (bench_after bench c.lane c.call) cs ≡ run_bench bench (pick b cs (c ∷ cs))
away-leaves bench lane c cs n true e =
    ap (λ (k : List Hasher). run_bench k cs)
    (ap (λ (i : ℕ). bench_after bench i c.call) (eqb-true c.lane lane e) ∙ after-away bench lane n c.call)
away-leaves bench lane c cs n false e = refl

-- They leave everything: the run without them ends with the same bench.
pub away-bench : (run : List LaneCall) (bench : List Hasher) (lane : ℕ) → NoSuchLane bench lane → run_bench bench run ≡ run_bench bench (other_calls lane run)
away-bench [] bench lane n = refl
away-bench (c ∷ cs) bench lane n =
    away-bench cs (bench_after bench c.lane c.call) lane (none_after bench lane c.lane c.call n)
    ∙ away-leaves bench lane c (other_calls lane cs) n (eqb c.lane lane) refl
