-- Facts from tests that are joined or negated, and of what a test picks. Assumes nothing.
use Rattle.std.proofs.Common.{◌≡◌, Bool, true, false, ◌&&◌, ◌||◌, ◌⊎◌, sym, refl, inl, inr, true≢false}
use Rattle.word.specs.Choice.{pick}

pub unless-false : (a : Bool) → (a ≡ false → ⊥) → a ≡ true
unless-false true h = refl
unless-false false h = absurd (h refl)

pub unless-true : (a : Bool) → (a ≡ true → ⊥) → a ≡ false
unless-true true h = absurd (h refl)
unless-true false h = refl

pub both_true : (a b : Bool) → (a && b) ≡ true → (a ≡ true) × (b ≡ true)
both_true true b h = (refl, h)
both_true false b h = absurd (true≢false (sym h))

pub one-false : (a b : Bool) → (a && b) ≡ false → (a ≡ false) ⊎ (b ≡ false)
one-false true b h = inr h
one-false false b h = inl refl

pub one-true : (a b : Bool) → (a || b) ≡ true → (a ≡ true) ⊎ (b ≡ true)
one-true true b h = inl refl
one-true false b h = inr h

-- what holds of both values holds of the one that is picked
pub of_either : {A : Type 0} (P : A → Type 0) (a : Bool) (x y : A) → P x → P y → P (pick a x y)
of_either P true x y p q = p
of_either P false x y p q = q
