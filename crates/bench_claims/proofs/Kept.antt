-- What stays in any run: a lane's hasher that is well formed stays so, and one that holds words and bytes, as its type says, does. Assumes nothing.
use mathlib.Core.Path.{sym, subst}
use mathlib.Core.List.{List, [], ◌∷◌}
use Prim.Native.Nat.{ℕ}
use lib.ListN.{length}
use Rattle.hasher.specs.declared.Hasher.{Hasher}
use Rattle.bench.specs.Bench.{lane_of}
use Rattle.claims.specs.Sound.{Sound, Typed}
use Rattle.claims.proofs.Kept.{update-sound, reset-sound, finish-reset-sound}
use Rattle.claims.proofs.Typed.{update-typed, reset-typed, finish-reset-typed}
use Rattle.bench_claims.specs.Calls.{Call, updating, finishing, resetting, after_call, after_calls, LaneCall, run_bench, own_calls, TypedCall, TypedCalls, LaneThere}
use Rattle.bench_claims.proofs.Independence.{lane-alone}

-- a call by value on a sound hasher gives one, refused or not
call-sound : (h : Hasher) → Sound h → (c : Call) → Sound (after_call h c)
call-sound h s (updating bytes l) = update-sound h s bytes l
call-sound h s (finishing out l) = finish-reset-sound h s (length out) l
call-sound h s resetting = reset-sound h s

calls-sound : (cs : List Call) (h : Hasher) → Sound h → Sound (after_calls h cs)
calls-sound [] h s = s
calls-sound (c ∷ cs) h s = calls-sound cs (after_call h c) (call-sound h s c)

-- so does one on a hasher that holds words and bytes
call-typed : (h : Hasher) → Typed h → (c : Call) → TypedCall c → Typed (after_call h c)
call-typed h typed (updating bytes l) b = update-typed h typed bytes l b
call-typed h typed (finishing out l) b = finish-reset-typed h typed (length out) l
call-typed h typed resetting b = reset-typed h typed

calls-typed : (cs : List Call) (h : Hasher) → Typed h → TypedCalls cs → Typed (after_calls h cs)
calls-typed [] h typed b = typed
calls-typed (c ∷ cs) h typed b = calls-typed cs (after_call h c) (call-typed h typed c b.0) b.1

module _ (bench : List Hasher) (run : List LaneCall) (lane : ℕ) (has : LaneThere bench lane) where
  -- A lane whose hasher is well formed has a well formed one after any run, whatever its other lanes hold.
  pub lane-sound : Sound (lane_of bench lane) → Sound (lane_of (run_bench bench run) lane)
  lane-sound s = subst Sound (sym (lane-alone run bench lane has)) (calls-sound (own_calls lane run) (lane_of bench lane) s)

  -- A lane whose hasher holds words and bytes has such a one after any run in which its own updates are of bytes.
  pub lane-typed : Typed (lane_of bench lane) → TypedCalls (own_calls lane run) → Typed (lane_of (run_bench bench run) lane)
  lane-typed typed b = subst Typed (sym (lane-alone run bench lane has)) (calls-typed (own_calls lane run) (lane_of bench lane) typed b)
