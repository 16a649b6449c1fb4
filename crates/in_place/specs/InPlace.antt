-- An update where the hasher lies: what is promised of it.
use Rattle.refusal.specs.Refusal.{Checked}
use Rattle.std.specs.Prelude.{◌≡◌, List, ℕ}
use Rattle.loan.specs.Loan.{Loan}
use Rattle.hasher.specs.declared.Hasher.{Hasher}
use Rattle.update.specs.Update.{updated}

-- the refusal r, and the hasher g that is left where h was, are those of the update by value
abbrev pub InPlace : Hasher → List ℕ → Loan → Checked → Hasher → Type 0
InPlace h bytes l r g = (g ≡ (updated h bytes l).hasher) × (r ≡ (updated h bytes l).refusal)
