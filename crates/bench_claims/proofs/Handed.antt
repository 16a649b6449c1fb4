-- What a caller of a lane is handed, in place or by value, is what the account of the call says, which the theorems are about. Assumes nothing.
use mathlib.Core.Path.{◌≡◌, refl, sym, ap}
use mathlib.Core.Logic.{◌↔◌}
use mathlib.Core.List.{List}
use Rattle.std.specs.Prelude.{Ok}
use Rattle.hasher.specs.declared.Hasher.{Hasher}
use Rattle.bench.specs.Bench.{LaneAccount, lane_handed}
use Rattle.bench.specs.declared.LaneAnswer.{LaneAnswer}
use Rattle.bench_by_value.specs.ByValue.{BenchAccount, BenchFinishAccount, bench_handed, bench_finish_handed}
use Rattle.bench_by_value.specs.declared.BenchFinished.{BenchFinished}
use Rattle.claims.specs.Handed.{RefusesAlike, TellsFirst}
use Rattle.claims.proofs.Handed.{alike, hands, tells}

-- A lane's finish: its refusal, else the verdict and the first mark, which is none beside ok.
pub lane-handed : (a : LaneAccount) → RefusesAlike (lane_handed a) a.outcome
    × ((f : LaneAnswer) → (lane_handed a ≡ Ok f) ↔ ((a.outcome ≡ Ok f.verdict) × TellsFirst f.verdict a.first f.first))
lane-handed a = (
  alike _ a.outcome,
  λ f. let h = hands _ (λ (x : LaneAnswer). x.verdict) (λ v. refl) a.outcome f in let t = tells f.verdict a.first f.first in (
    λ e. let k = h.0 e in (k.0, t.0 (ap (λ (x : LaneAnswer). x.first) (sym k.1))),
    λ k. let m = t.1 k.1 in h.1 (k.0, rw (← m)),
  ),
)

-- An update or a reset of a lane of a bench by value: its refusal, else all hashers.
pub bench-handed : (a : BenchAccount) → RefusesAlike (bench_handed a) a.refusal
    × ((ys : List Hasher) → (bench_handed a ≡ Ok ys) ↔ ((a.refusal ≡ Ok tt) × (ys ≡ a.bench)))
bench-handed a = (
  alike _ a.refusal,
  λ ys. let h = hands _ (λ (x : List Hasher). tt) (λ v. refl) a.refusal ys in
      (λ e. ((h.0 e).0, sym (h.0 e).1), λ k. h.1 (k.0, sym k.1)),
)

-- A finish of a lane of a bench by value: its refusal, else the verdict, the first mark, which is none beside ok, and all hashers.
pub bench-finish-handed : (a : BenchFinishAccount) → RefusesAlike (bench_finish_handed a) a.outcome
    × ((f : BenchFinished) → (bench_finish_handed a ≡ Ok f)
    ↔ ((a.outcome ≡ Ok f.verdict) × TellsFirst f.verdict a.first f.first × (f.bench ≡ a.bench)))
bench-finish-handed a = (
  alike _ a.outcome,
  λ f. let h = hands _ (λ (x : BenchFinished). x.verdict) (λ v. refl) a.outcome f in let t = tells f.verdict a.first f.first in (
    λ e. let k = h.0 e in (k.0, t.0 (ap (λ (x : BenchFinished). x.first) (sym k.1)), ap (λ (x : BenchFinished). x.bench) (sym k.1)),
    λ k. let m = t.1 k.1 in h.1 (k.0, rw (← m, ← k.2)),
  ),
)
