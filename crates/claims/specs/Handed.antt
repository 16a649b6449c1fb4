-- What a caller by value is handed, beside the account of its call.
use Rattle.std.specs.Prelude.{◌≡◌, Option, Some, None, Result, Err}
use mathlib.Core.Logic.{◌↔◌}
use Rattle.refusal.specs.declared.Refusal.{Refusal}
use Rattle.verdict.specs.declared.Verdict.{Verdict}
use Rattle.verdict.specs.declared.Verdict.TheVariants.{Ok}
use Rattle.stream.specs.declared.FirstMark.{FirstMark}

-- a caller is handed a refusal exactly where the account has it
abbrev pub RefusesAlike : {F V : Type 0} → Result F Refusal → Result V Refusal → Type 0
RefusesAlike given outcome = (r : Refusal) → (given ≡ Err r) ↔ (outcome ≡ Err r)

-- it is told no first mark exactly where the verdict is ok, and else the account's
abbrev pub TellsFirst : Verdict → FirstMark → Option FirstMark → Type 0
TellsFirst verdict first told = ((told ≡ None) ↔ (verdict ≡ Ok)) × ((verdict ≡ Ok → ⊥) → told ≡ Some first)
