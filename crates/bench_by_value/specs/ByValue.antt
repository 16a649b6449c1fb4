-- What a lane call answers where the first of some hashers are the bench, and the hashers that it leaves.
use Rattle.std.specs.Prelude.{List, ◌++◌, ℕ, take, drop, Result}
use Rattle.std.specs.Result.{result_map_both}
use Rattle.refusal.specs.Refusal.{Checked}
use Rattle.refusal.specs.declared.Refusal.{Refusal}
use Rattle.loan.specs.Loan.{Loan}
use Rattle.stream.specs.declared.FirstMark.{FirstMark}
use Rattle.hasher.specs.declared.Hasher.{Hasher}
use Rattle.finish.specs.Finish.{Outcome, first_told}
use Rattle.bench.specs.Bench.{lane_update_refusal, lane_updated, lane_outcome, lane_first, lane_finished, lane_written, lane_reset_refusal, lane_reset}
use Rattle.bench_by_value.specs.declared.BenchFinished.{BenchFinished}

-- the whole account of a lane call: what it refuses, and all hashers afterwards, which a refusal leaves as they were
pub record BenchAccount : Type 0 where
  pub refusal : Checked
  pub bench : List Hasher

-- what a caller is handed of it: the hashers, or the refusal alone
abbrev pub bench_handed : BenchAccount → Result (List Hasher) Refusal
bench_handed a = result_map_both (λ _. a.bench) (λ r. r) a.refusal

-- the whole account of a lane's finish, beside the output, and all hashers afterwards
pub record BenchFinishAccount : Type 0 where
  pub outcome : Outcome
  pub first : FirstMark
  pub bench : List Hasher

-- what a caller is handed of it: the refusal alone, or what stands beside the verdict
abbrev pub bench_finish_handed : BenchFinishAccount → Result BenchFinished Refusal
bench_finish_handed a =
    result_map_both (λ v. record { verdict = v; first = first_told v a.first; bench = a.bench }) (λ r. r) a.outcome

-- some hashers where others stand in for the first ones
abbrev pub refronted : List Hasher → ℕ → List Hasher → List Hasher
refronted bench count front = front ++ drop count bench

-- an update of a lane
abbrev pub updated_through : List Hasher → ℕ → ℕ → List ℕ → Loan → BenchAccount
updated_through bench count lane bytes l = record {
  refusal = lane_update_refusal (take count bench) lane bytes l;
  bench = refronted bench count (lane_updated (take count bench) lane bytes l);
}

-- a lane's finish-and-reset into a lent output
abbrev pub finished_through : List Hasher → ℕ → ℕ → List ℕ → Loan → BenchFinishAccount
finished_through bench count lane out l = record {
  outcome = lane_outcome (take count bench) lane out l;
  first = lane_first (take count bench) lane out l;
  bench = refronted bench count (lane_finished (take count bench) lane out l);
}

-- and the output
abbrev pub written_through : List Hasher → ℕ → ℕ → List ℕ → Loan → List ℕ
written_through bench count lane out l = lane_written (take count bench) lane out l

-- a lane's reset
abbrev pub reset_through : List Hasher → ℕ → ℕ → BenchAccount
reset_through bench count lane = record {
  refusal = lane_reset_refusal (take count bench) lane;
  bench = refronted bench count (lane_reset (take count bench) lane);
}
