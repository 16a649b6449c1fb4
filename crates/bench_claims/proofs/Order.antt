-- Calls on two different lanes may change places: the same answer to each, and the same bench. Assumes nothing.
use mathlib.Core.Path.{◌≡◌, refl, sym, ap, ap₂, ◌∙◌}
use mathlib.Core.List.{List, [], ◌∷◌, ◌++◌}
use Prim.Native.Nat.{ℕ, ◌<◌}
use lib.ListN.{length, set}
use lib.Seq.{set_comm, ext_get_or}
use Rattle.flags.specs.Flags.{defaults}
use Rattle.hasher.specs.Hasher.{fresh_of}
use Rattle.hasher.specs.declared.Hasher.{Hasher}
use Rattle.bench.specs.Bench.{lane_of}
use Rattle.bench_claims.specs.Calls.{Call, Response, response_of, after_call, after_calls, lane_response, bench_after, LaneCall, run_responses, run_bench, gets_after, own_calls, OneToSixteen, NoSuchLane, LaneThere}
use Rattle.bench_claims.proofs.Lanes.{either_lane, response-there, response-away, after-there, after-away}
use Rattle.bench_claims.proofs.Others.{call-others, still-there, none_after}
use Rattle.bench_claims.proofs.Independence.{run_length, lane-alone}

-- A call on one lane doesn't change what a call on another gets.
pub swap-response : (bench : List Hasher) (i j : ℕ) (c d : Call) → (i ≡ j → ⊥) → lane_response (bench_after bench i c) j d ≡ lane_response bench j d
swap-response bench i j c d apart =
    let after = bench_after bench i c in
    either_lane bench j (lane_response after j d ≡ lane_response bench j d)
    (λ h.
    response-there after j (still-there bench j i c h) d
    ∙ ap (λ (g : Hasher). response_of g d) (call-others bench i c j (λ e. apart (sym e)))
    ∙ sym (response-there bench j h d))
    (λ n. response-away after j (none_after bench j i c n) d ∙ sym (response-away bench j n d))

-- a call that names no lane of the bench, before or after another
swap-none : (bench : List Hasher) (i j : ℕ) (c d : Call) → NoSuchLane bench i → bench_after (bench_after bench i c) j d ≡ bench_after (bench_after bench j d) i c
swap-none bench i j c d n =
    ap (λ (b : List Hasher). bench_after b j d) (after-away bench i n c) ∙ sym (after-away (bench_after bench j d) i (none_after bench i j d n) c)

-- calls on two lanes, one after the other
both-there : (bench : List Hasher) (i j : ℕ) (c d : Call) → (i ≡ j → ⊥) → LaneThere bench i → LaneThere bench j
    → bench_after (bench_after bench i c) j d ≡ set (set bench i (after_call (lane_of bench i) c)) j (after_call (lane_of bench j) d)
both-there bench i j c d apart hi hj =
    after-there (bench_after bench i c) j (still-there bench j i c hj) d
    ∙ ap₂ (λ (b : List Hasher) (g : Hasher). set b j (after_call g d)) (after-there bench i hi c) (call-others bench i c j (λ e. apart (sym e)))

-- They leave the same bench in both orders.
pub swap-bench : (bench : List Hasher) (i j : ℕ) (c d : Call) → (i ≡ j → ⊥) → bench_after (bench_after bench i c) j d ≡ bench_after (bench_after bench j d) i c
swap-bench bench i j c d apart =
    let Goal : Type 0 = bench_after (bench_after bench i c) j d ≡ bench_after (bench_after bench j d) i c in
    either_lane bench i Goal
    (λ hi.
    either_lane bench j Goal
    (λ hj.
    both-there bench i j c d apart hi hj
    ∙ set_comm bench i j (after_call (lane_of bench i) c) (after_call (lane_of bench j) d) apart
    ∙ sym (both-there bench j i d c (λ e. apart (sym e)) hj hi))
    (λ nj. sym (swap-none bench j i d c nj)))
    (λ ni. swap-none bench i j c d ni)

-- a run in two parts
pub run-append : (xs ys : List LaneCall) (bench : List Hasher) → run_bench bench (xs ++ ys) ≡ run_bench (run_bench bench xs) ys
run-append [] ys bench = refl
run-append (x ∷ xs) ys bench = run-append xs ys (bench_after bench x.lane x.call)

pub responses-append : (xs ys : List LaneCall) (bench : List Hasher)
    → run_responses bench (xs ++ ys) ≡ run_responses bench xs ++ run_responses (run_bench bench xs) ys
responses-append [] ys bench = refl
responses-append (x ∷ xs) ys bench = ap (λ (rs : List Response). lane_response bench x.lane x.call ∷ rs) (responses-append xs ys (bench_after bench x.lane x.call))

-- what the calls of a run get after two calls on the bench that another run leaves
abbrev pub later_get : List Hasher → List LaneCall → LaneCall → LaneCall → List LaneCall → List Response
later_get bench before c d after = run_responses (run_bench (run_bench bench before) (c ∷ d ∷ [])) after

-- Two neighbours on different lanes, anywhere in a run on any bench, in one order and in the other.
module _ (bench : List Hasher) (before after : List LaneCall) (c d : LaneCall) (apart : c.lane ≡ d.lane → ⊥) where
  both-leave : run_bench (run_bench bench before) (c ∷ d ∷ []) ≡ run_bench (run_bench bench before) (d ∷ c ∷ [])
  both-leave = swap-bench (run_bench bench before) c.lane d.lane c.call d.call apart

  -- The run leaves the same bench.
  pub order-bench : run_bench bench (before ++ c ∷ d ∷ after) ≡ run_bench bench (before ++ d ∷ c ∷ after)
  order-bench =
      run-append before (c ∷ d ∷ after) bench ∙ ap (λ (b : List Hasher). run_bench b after) both-leave ∙ sym (run-append before (d ∷ c ∷ after) bench)

  -- Every call gets the same: those before the two, each of the two, and those after them.
  pub order-responses
      : (run_responses bench (before ++ c ∷ d ∷ after) ≡ run_responses bench before ++ gets_after bench before c ∷ gets_after bench before d ∷ later_get bench before c d after)
      × (run_responses bench (before ++ d ∷ c ∷ after) ≡ run_responses bench before ++ gets_after bench before d ∷ gets_after bench before c ∷ later_get bench before c d after)
  order-responses =
      let met = run_bench bench before in
      let rs = run_responses bench before in
      let x = gets_after bench before c in
      let y = gets_after bench before d in
      let ss = later_get bench before c d after in (
        responses-append before (c ∷ d ∷ after) bench
            ∙ ap (λ (r : Response). rs ++ x ∷ r ∷ ss) (swap-response met c.lane d.lane c.call d.call apart),
        responses-append before (d ∷ c ∷ after) bench
            ∙ ap₂ (λ (r : Response) (b : List Hasher). rs ++ y ∷ r ∷ run_responses b after)
            (swap-response met d.lane c.lane d.call c.call (λ e. apart (sym e))) (sym both-leave),
      )

-- So a bench goes by what each lane gets: two runs that have the same calls for every lane, in the same order, leave the same bench.
pub interleaved-bench : (bench : List Hasher) (run other-run : List LaneCall) → OneToSixteen bench
    → ((lane : ℕ) → lane < length bench → own_calls lane run ≡ own_calls lane other-run) → run_bench bench run ≡ run_bench bench other-run
interleaved-bench bench run other-run usable same =
    let m = run_length run bench in
    ext_get_or (fresh_of defaults) (run_bench bench run) (run_bench bench other-run) (m ∙ sym (run_length other-run bench))
    (λ i l.
    let k : i < length bench = rw m at l in
    let h : LaneThere bench i = record { usable = usable; inside = k } in
    lane-alone run bench i h ∙ ap (after_calls (lane_of bench i)) (same i k) ∙ sym (lane-alone other-run bench i h))
