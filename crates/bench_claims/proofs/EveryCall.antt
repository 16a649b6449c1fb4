-- For each call on a lane: which leave the lane as new, that its flags stay, and demand 3. Assumes nothing.
use mathlib.Core.Path.{◌≡◌, refl, sym, ap, ◌∙◌, subst}
use mathlib.Core.Logic.{◌↔◌}
use mathlib.Core.Bool.{true}
use mathlib.Core.List.{List, [], ◌∷◌}
use Prim.Native.Nat.{ℕ}
use native.Mathlib.Omega.{arith}
use lib.ListN.{length}
use Rattle.std.specs.Prelude.{Ok, is_ok}
use Rattle.word.specs.Lists.{AllBytes}
use Rattle.word.proofs.Tests.{of_either}
use Rattle.refusal.specs.Refusal.{number_of, Checked}
use Rattle.refusal.proofs.Chains.{nothing_is, passes}
use Rattle.loan.specs.Loan.{Loan}
use Rattle.hasher.specs.Hasher.{well_formed, fresh_of, reset_of, UpdateAccount}
use Rattle.hasher.specs.declared.Hasher.{Hasher}
use Rattle.absorb.specs.Absorb.{stream_of}
use Rattle.finish.specs.Finish.{finish_refusal, outcome_number, finished_reset, Outcome}
use Rattle.bench.specs.Bench.{lane_of, lane_update_refusal, lane_updated, lane_outcome, lane_finished, lane_reset_refusal, lane_reset}
use Rattle.claims.specs.Sound.{Typed, TypedVectors}
use Rattle.claims.specs.EveryCall.{MarkedAfter, last_blocks, VerdictBy}
use Rattle.claims.proofs.EveryCall.{update-met, finish-reset-met}
use Rattle.claims.proofs.Kept.{update-flags}
use Rattle.claims.proofs.Several.{reset-fresh, finish-reset-fresh}
use Rattle.bench_claims.specs.Calls.{Call, updating, finishing, resetting, after_call, after_calls, LaneCall, run_bench, own_calls, LaneThere}
use Rattle.bench_claims.proofs.Refused.{lane-update-line, lane-finish-line, lane-finish-there, lane-reset-line}
use Rattle.bench_claims.proofs.Others.{call-own}
use Rattle.bench_claims.proofs.Independence.{lane-alone}
use Rattle.bench_claims.proofs.OwnMessage.{not-refused}

-- no number but 0 is that of no refusal
pub number-0 : (r : Checked) → number_of r ≡ 0 → r ≡ Ok tt
number-0 r e = nothing_is r (passes r e)

module _ (bench : List Hasher) (lane : ℕ) where
  -- An accepted reset leaves the lane as new, with its flags.
  pub reset-leaves-new : number_of (lane_reset_refusal bench lane) ≡ 0 → lane_of (lane_reset bench lane) lane ≡ fresh_of (lane_of bench lane).flags
  reset-leaves-new e =
      let k = (lane-reset-line bench lane 0 (λ z. omega arith)).0 e in
      call-own bench lane resetting k.0 ∙ reset-fresh (lane_of bench lane) (number-0 _ k.1)

  -- So does an accepted finish.
  pub finish-leaves-new : (out : List ℕ) (l : Loan) → outcome_number (lane_outcome bench lane out l) ≡ 0
      → lane_of (lane_finished bench lane out l) lane ≡ fresh_of (lane_of bench lane).flags
  finish-leaves-new out l e =
      let k = (lane-finish-line bench lane out l 0 (λ z. omega arith)).0 e in
      call-own bench lane (finishing out l) k.0
      ∙ finish-reset-fresh (lane_of bench lane) (length out) l (not-refused (lane_of bench lane) (length out) l k.1)

-- A call by value keeps the flags.
call_flags : (h : Hasher) (c : Call) → (after_call h c).flags ≡ h.flags
unfolding finished_reset reset_of
call_flags h (updating bytes l) = update-flags h bytes l
call_flags h (finishing out l) = of_either (λ (g : Hasher). g.flags ≡ h.flags) (is_ok (finish_refusal h (length out) l)) _ h refl refl
call_flags h resetting = of_either (λ (u : UpdateAccount). u.hasher.flags ≡ h.flags) (well_formed h) _ _ refl refl

-- So do calls one after the other, so a lane keeps its flags in any run.
calls-flags : (cs : List Call) (h : Hasher) → (after_calls h cs).flags ≡ h.flags
calls-flags [] h = refl
calls-flags (c ∷ cs) h = calls-flags cs (after_call h c) ∙ call_flags h c

pub lane-flags : (bench : List Hasher) (run : List LaneCall) (lane : ℕ) → LaneThere bench lane
    → (lane_of (run_bench bench run) lane).flags ≡ (lane_of bench lane).flags
lane-flags bench run lane h = ap (λ (g : Hasher). g.flags) (lane-alone run bench lane h) ∙ calls-flags (own_calls lane run) (lane_of bench lane)

module _ (bench : List Hasher) (lane : ℕ) (l : Loan) (typed : Typed (lane_of bench lane)) (words : TypedVectors l.tables) where
  -- An accepted update leaves a mark on its lane exactly when there was one or, with detection on, a selected sibling meets a block that it fills.
  pub lane-update-met : (bytes : List ℕ) → AllBytes bytes → number_of (lane_update_refusal bench lane bytes l) ≡ 0
      → ((lane_of (lane_updated bench lane bytes l) lane).mark ≡ true) ↔ MarkedAfter (lane_of bench lane) l (stream_of (lane_of bench lane) bytes)
  lane-update-met bytes b e =
      let k = (lane-update-line bench lane bytes l 0 (λ z. omega arith)).0 e in
      subst (λ (g : Hasher). (g.mark ≡ true) ↔ MarkedAfter (lane_of bench lane) l (stream_of (lane_of bench lane) bytes))
      (sym (call-own bench lane (updating bytes l) k.0))
      (update-met (lane_of bench lane) l typed words bytes b (number-0 _ k.1))

  -- An accepted finish gives its verdict by whether its lane was marked or, with detection on, a selected sibling meets one of the last blocks.
  pub lane-finish-met : (out : List ℕ) → outcome_number (lane_outcome bench lane out l) ≡ 0
      → VerdictBy (lane_outcome bench lane out l) (lane_of bench lane).flags.mitigate (MarkedAfter (lane_of bench lane) l (last_blocks (lane_of bench lane)))
  lane-finish-met out e =
      let h = lane_of bench lane in
      let k = (lane-finish-line bench lane out l 0 (λ z. omega arith)).0 e in
      subst (λ (o : Outcome). VerdictBy o h.flags.mitigate (MarkedAfter h l (last_blocks h)))
      (sym (lane-finish-there bench lane out l k.0).0)
      (finish-reset-met h l typed words (length out) (not-refused h (length out) l k.1))
