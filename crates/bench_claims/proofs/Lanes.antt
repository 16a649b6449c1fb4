-- A call on a lane that the bench has is the by-value call on its hasher, and any other is turned away. Assumes nothing.
use mathlib.Core.Path.{◌≡◌, refl}
use mathlib.Core.Logic.{inl, inr, ⊎_elim}
use mathlib.Core.Bool.{Bool, true, false}
use mathlib.Core.List.{List}
use Prim.Native.Nat.{ℕ, ◌≤◌, ◌<◌}
use native.Mathlib.Omega.{arith}
use borrow.Author.Tests.{ltb-true, ltb-false, lt-ltb, leb-true, leb-false, le-leb}
use lib.Dec.{leb}
use lib.ListN.{length, set}
use Rattle.finish.specs.Finish.{Outcome}
use Rattle.word.proofs.Tests.{both_true, one-false, unless-true}
use Rattle.refusal.proofs.Chains.{Decides}
use Rattle.lane.specs.Lane.{most_lanes, has_lane}
use Rattle.stream.specs.declared.FirstMark.{FirstMark}
use Rattle.hasher.specs.declared.Hasher.{Hasher}
use Rattle.bench.specs.Bench.{lane_of, on_lane}
use Rattle.bench_claims.specs.Calls.{Call, updating, finishing, resetting, of_outcome, turned_away, response_of, after_call, lane_response, bench_after, NoSuchLane, LaneThere}

-- what a finish gets, part by part
pub same-response : {o p : Outcome} {a b : FirstMark} {xs ys : List ℕ} → o ≡ p → a ≡ b → xs ≡ ys → of_outcome o a xs ≡ of_outcome p b ys
same-response e f g = rw (e, f, g)

-- a bench as long as one that has a lane has it too
pub as-long-there : (bench other : List Hasher) (lane : ℕ) → length other ≡ length bench → LaneThere bench lane → LaneThere other lane
as-long-there bench other lane e h =
    record { usable = record { some = rw e h.usable.some; most = rw e h.usable.most }; inside = rw e h.inside }

-- the test of a call says whether the bench has the lane
test_on : (count lane : ℕ) → has_lane count lane ≡ true → (1 ≤ count) × (count ≤ most_lanes) × (lane < count)
unfolding has_lane
test_on count lane e =
    let a = both_true (leb 1 count) _ e in
    let b = both_true (leb count most_lanes) _ a.1 in
    (leb-true 1 count a.0, leb-true count most_lanes b.0, ltb-true lane count b.1)

on_test : (count lane : ℕ) → 1 ≤ count → count ≤ most_lanes → lane < count → has_lane count lane ≡ true
unfolding has_lane
on_test count lane a b c = simp (le-leb 1 count a, le-leb count most_lanes b, lt-ltb lane count c)

module _ (bench : List Hasher) (lane : ℕ) where
  test-off : has_lane (length bench) lane ≡ false → NoSuchLane bench lane
  unfolding has_lane
  test-off e =
      ⊎_elim (λ a. let x = leb-false 1 (length bench) a in inr (inl (omega arith)))
      (λ e. ⊎_elim (λ b. inr (inr (leb-false (length bench) most_lanes b))) (λ c. inl (ltb-false lane (length bench) c)) (one-false (leb (length bench) most_lanes) _ e))
      (one-false (leb 1 (length bench)) _ e)

  pub not-both : LaneThere bench lane → NoSuchLane bench lane → ⊥
  not-both h =
      let u = h.usable in
      ⊎_elim (λ a. omega arith) (⊎_elim (λ a. omega arith) (λ a. omega arith))

  test-there : has_lane (length bench) lane ≡ true → LaneThere bench lane
  test-there e = let t = test_on (length bench) lane e in record { usable = record { some = t.0; most = t.1 }; inside = t.2 }

  there-test : LaneThere bench lane → has_lane (length bench) lane ≡ true
  there-test h = on_test (length bench) lane h.usable.some h.usable.most h.inside

  pub has-decides : Decides (has_lane (length bench) lane) (LaneThere bench lane) (NoSuchLane bench lane)
  has-decides =
      record {
        on = (test-there, there-test);
        off = (test-off, λ n. unless-true (has_lane (length bench) lane) (λ e. not-both (test-there e) n));
      }

  -- the bench has the lane or has it not
  pub either_lane : (P : Type 0) → (LaneThere bench lane → P) → (NoSuchLane bench lane → P) → P
  either_lane P yes-has not-has = by (has_lane (length bench) lane) refl
    where
      by : (b : Bool) → has_lane (length bench) lane ≡ b → P
      by true e = yes-has (test-there e)
      by false e = not-has (test-off e)

  pub there-otherwise : (NoSuchLane bench lane → ⊥) → LaneThere bench lane
  there-otherwise no_such = either_lane (LaneThere bench lane) (λ h. h) (λ n. absurd (no_such n))

  module _ (has : LaneThere bench lane) where
    pub response-there : (c : Call) → lane_response bench lane c ≡ response_of (lane_of bench lane) c
    unfolding on_lane
    response-there (updating bytes l) = rw (there-test has)
    response-there (finishing out l) = rw (there-test has)
    response-there resetting = rw (there-test has)

    pub after-there : (c : Call) → bench_after bench lane c ≡ set bench lane (after_call (lane_of bench lane) c)
    unfolding on_lane
    after-there (updating bytes l) = rw (there-test has)
    after-there (finishing out l) = rw (there-test has)
    after-there resetting = rw (there-test has)

  module _ (none : NoSuchLane bench lane) where
    pub response-away : (c : Call) → lane_response bench lane c ≡ turned_away c
    unfolding on_lane
    response-away (updating bytes l) = rw (has-decides.off.1 none)
    response-away (finishing out l) = rw (has-decides.off.1 none)
    response-away resetting = rw (has-decides.off.1 none)

    pub after-away : (c : Call) → bench_after bench lane c ≡ bench
    unfolding on_lane
    after-away (updating bytes l) = rw (has-decides.off.1 none)
    after-away (finishing out l) = rw (has-decides.off.1 none)
    after-away resetting = rw (has-decides.off.1 none)
