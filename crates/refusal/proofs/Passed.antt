-- A refusal that is not given: what follows from the tests before it. Assumes nothing.
use mathlib.Core.Path.{◌≡◌, refl, ap}
use mathlib.Core.Bool.{Bool, true, false}
use Prim.Native.Nat.{◌<◌}
use native.Mathlib.Omega.{arith}
use Rattle.std.specs.Prelude.{Result, Ok, Err, is_ok, IsErrAnd}
use Rattle.word.specs.Choice.{pick}
use Rattle.refusal.specs.Refusal.{number_of, Checked}
use Rattle.refusal.specs.declared.Refusal.{Refusal}
use Rattle.refusal.proofs.Chains.{nothing_is}

-- a test in front of the other refusals did not refuse
pub passed : (b : Bool) (x r : Checked) → 0 < number_of x → pick b x r ≡ (Ok tt) → (b ≡ false) × (r ≡ (Ok tt))
passed false x r n e = (refl, e)
passed true x r n e = absurd (omega (arith, ap number_of e))

-- of what is given with a refusal or without one: what holds in both cases holds
pub of_refusal_lem : {A : Type 0} (P : A → Type 0) (r : Checked) (x y : A) → (r ≡ (Ok tt) → P x) → (is_ok r ≡ false → P y) → P (pick (is_ok r) x y)
of_refusal_lem {A = A} P r x y p q = by (is_ok r) refl
  where
    by : (b : Bool) → is_ok r ≡ b → P (pick b x y)
    by true e = p (nothing_is r e)
    by false e = q e

-- what a `?` hands on is the refusal that it met
pub handed_on : {A : Type 0} (r : Result A Refusal) (e : Refusal) → IsErrAnd r (λ (x : Refusal). x ≡ e) → r ≡ Err e
handed_on (Ok x) e h = absurd h
handed_on (Err x) e h = ap Err h
