-- What the work of an update may lean on: what its refusals have ruled out.
use Rattle.std.specs.Prelude.{◌≡◌, true, List, ℕ, ◌+◌, ◌≤◌, length, drop}
use Rattle.fips.specs.Fips.{most_bytes}
use Rattle.conditions.specs.Good.{GoodConditions}
use Rattle.loan.specs.Loan.{conditions_for}
use Rattle.hasher.specs.Hasher.{all_zero, taken}
use Rattle.hasher.specs.declared.Hasher.{Hasher}

-- the hasher is well formed, the message stays short enough, and where a block is filled the conditions that are looked at are good
pub record Ready (h : Hasher) (bytes conditions : List ℕ) : Type 0 where
  pub fill-le : h.fill ≤ 63
  pub zeros : all_zero (drop h.fill h.pending) ≡ true
  pub fits : taken h + length bytes ≤ most_bytes
  pub selects : 64 ≤ h.fill + length bytes → GoodConditions (conditions_for h.flags conditions)
