-- 01, "Nothing vague in a contract": any two results that the contract of a lane call allows on the same arguments agree, the bench at exit
-- and the lent output at exit included. Assumes nothing.
use mathlib.Core.Path.{◌≡◌, refl}
use mathlib.Core.List.{List}
use mathlib.Core.Logic.{◌↔◌}
use Prim.Native.Nat.{ℕ}
use borrow.Fn.Kinds.{Dens, res_t, ended_of}
use contract.Lifetimes.{Lfts}
use denote.Triple.Clauses.{AtExit}
use Rattle.std.specs.Prelude.{Result}
use Rattle.bench.specs.declared.LaneAnswer.{LaneAnswer}
use Rattle.refusal.specs.Refusal.{Checked}
use Rattle.refusal.specs.declared.Refusal.{Refusal}
use Rattle.loan.specs.Loan.{Loan, loan_in}
use Rattle.hasher.specs.declared.Hasher.{Hasher}
use Rattle.bench.proofs.lane_update.Kinds as update-kinds
use Rattle.bench.proofs.lane_update.Reads as update-contract
use Rattle.bench.proofs.lane_finish.Kinds as finish-kinds
use Rattle.bench.proofs.lane_finish.Reads as finish-contract
use Rattle.bench.proofs.lane_reset.Kinds as reset-kinds
use Rattle.bench.proofs.lane_reset.Reads as reset-contract
use Rattle.claims.proofs.Settled.{same}
use Rattle.bench_claims.specs.Promises.{LaneUpdates, LaneFinishes, LaneResets}

-- What the contracts say of the answer and of what is lent, at exit, is `LaneUpdates`, `LaneFinishes` and `LaneResets`.
pub lane-update-says : (κs : Lfts 3) (a : Dens κs update-kinds.ps) (r : (res_t update-kinds.r κs).Denot) (e : AtExit (ended_of 3 update-kinds.ps update-kinds.r) κs)
    → update-contract.Post κs a r e ≡ LaneUpdates a.0.now a.1.0 a.1.1.0.now (loan_in a.1.1.1.0) r e.0.now
lane-update-says κs a r e = refl

pub lane-finish-says : (κs : Lfts 3) (a : Dens κs finish-kinds.ps) (r : (res_t finish-kinds.r κs).Denot) (e : AtExit (ended_of 3 finish-kinds.ps finish-kinds.r) κs)
    → finish-contract.Post κs a r e ↔ LaneFinishes a.0.now a.1.0 a.1.1.0.now (loan_in a.1.1.1.0) r e.0.now e.1.1.0.now
lane-finish-says κs a r e = (λ p. (p.0, p.1.0, p.1.1), λ q. (q.0, (q.1, q.2)))

pub lane-reset-says : (κs : Lfts 1) (a : Dens κs reset-kinds.ps) (r : (res_t reset-kinds.r κs).Denot) (e : AtExit (ended_of 1 reset-kinds.ps reset-kinds.r) κs)
    → reset-contract.Post κs a r e ≡ LaneResets a.0.now a.1.0 r e.0.now
lane-reset-says κs a r e = refl

-- An update of a lane: its refusal, and the bench that it leaves.
pub lane-update-settled : (bench : List Hasher) (lane : ℕ) (bytes : List ℕ) (l : Loan) (r s : Checked) (left other : List Hasher)
    → LaneUpdates bench lane bytes l r left → LaneUpdates bench lane bytes l s other → (r ≡ s) × (left ≡ other)
lane-update-settled bench lane bytes l r s left other p q = (same p.1 q.1, same p.0 q.0)

-- A finish of a lane: its outcome and first mark, the bench that it leaves, and the bytes in the lent output.
pub lane-finish-settled : (bench : List Hasher) (lane : ℕ) (out : List ℕ) (l : Loan) (o p : Result LaneAnswer Refusal) (left other : List Hasher) (written others : List ℕ)
    → LaneFinishes bench lane out l o left written → LaneFinishes bench lane out l p other others → (o ≡ p) × (left ≡ other) × (written ≡ others)
lane-finish-settled bench lane out l o p left other written others x y =
    (same x.2 y.2, same x.0 y.0, same x.1 y.1)

-- A reset of a lane: its refusal, and the bench that it leaves.
pub lane-reset-settled : (bench : List Hasher) (lane : ℕ) (r s : Checked) (left other : List Hasher)
    → LaneResets bench lane r left → LaneResets bench lane s other → (r ≡ s) × (left ≡ other)
lane-reset-settled bench lane r s left other p q = (same p.1 q.1, same p.0 q.0)
