-- Demand 3 for one call: what its blocks are, and what its mark and its verdict go by.
use Rattle.finish.specs.Finish.{Outcome}
use Rattle.std.specs.Prelude.{◌≡◌, ◌⊎◌, ◌↔◌, Bool, true, false, List, ℕ, Ok as Done}
use Rattle.verdict.specs.declared.Verdict.TheVariants.{Ok, Mitigated, Collision}
use Rattle.step.specs.Step.{regs_of}
use Rattle.fips.specs.Fips.{padding_for}
use Rattle.loan.specs.Loan.{Loan}
use Rattle.hasher.specs.Hasher.{taken}
use Rattle.hasher.specs.declared.Hasher.{Hasher}
use Rattle.absorb.specs.Absorb.{stream_of}
use Rattle.claims.specs.Message.{OneMetIn}

-- the hasher was marked or, with detection on, a selected sibling meets a whole block of the call's stream
abbrev pub MarkedAfter : Hasher → Loan → List ℕ → Type 0
MarkedAfter h l xs = (h.mark ≡ true) ⊎ ((h.flags.detect ≡ true) × OneMetIn h.flags l (regs_of h.words) xs)

-- the last blocks: what is pending, and the standard's padding of all bytes taken
abbrev pub last_blocks : Hasher → List ℕ
last_blocks h = stream_of h (padding_for (taken h))

-- a verdict that goes by whether P holds: ok exactly when not, else mitigated with mitigation on and collision with it off
pub record VerdictBy (o : Outcome) (mitigate : Bool) (P : Type 0) : Type 0 where
  pub ok : (o ≡ Done Ok) ↔ (P → ⊥)
  pub mitigated : (o ≡ Done Mitigated) ↔ (P × (mitigate ≡ true))
  pub collision : (o ≡ Done Collision) ↔ (P × (mitigate ≡ false))
