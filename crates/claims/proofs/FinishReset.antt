-- Demand 2: a finish-and-reset is a finish and a reset. Assumes nothing.
use mathlib.Core.Path.{◌≡◌}
use mathlib.Core.List.{List}
use Prim.Native.Nat.{ℕ}
use lib.ListN.{length}
use Rattle.std.specs.Prelude.{Ok}
use Rattle.verdict.specs.Verdict.{digest_size}
use Rattle.loan.specs.Loan.{Loan}
use Rattle.hasher.specs.Hasher.{reset_of}
use Rattle.hasher.specs.declared.Hasher.{Hasher}
use Rattle.finish.specs.Finish.{finish_refusal, finished, finished_reset, written_out}
use Rattle.finish.proofs.Finishing.{finish-finishing}
use Rattle.claims.proofs.Kept.{reset-restores}

module _ (h : Hasher) (out : List ℕ) (l : Loan) (size : length out ≡ digest_size) where
  -- With an output of 20 bytes the outcome is that of a finish, refused or not.
  pub finish-reset-outcome : (finished_reset h (length out) l).outcome ≡ (finished h l).outcome
  unfolding finished_reset finished
  finish-reset-outcome = rw size

  -- So is the first mark that it hands out.
  pub finish-reset-first : (finished_reset h (length out) l).first ≡ (finished h l).first
  unfolding finished_reset finished
  finish-reset-first = rw size

  -- Where it is not refused, the bytes written are the finish's digest.
  pub finish-reset-writes : finish_refusal h digest_size l ≡ (Ok tt) → written_out h out l ≡ (finished h l).digest
  unfolding written_out finished
  finish-reset-writes e = rw (size, e)

  -- And the hasher is that of a reset.
  pub finish-reset-resets : finish_refusal h digest_size l ≡ (Ok tt) → (finished_reset h (length out) l).hasher ≡ (reset_of h).hasher
  unfolding finished_reset
  finish-reset-resets e = rw (size, e, reset-restores h (finish-finishing h digest_size l e).well)
