-- A chain of tests, each with its refusal: which number comes out, and exactly when. Assumes nothing.
use mathlib.Core.Path.{◌≡◌, refl, sym, ap, ◌∙◌}
use mathlib.Core.Logic.Iff
use mathlib.Core.Logic.{◌↔◌, ◌⊎◌, inl, inr, ⊎_elim}
use mathlib.Core.Bool.{Bool, true, false, not, false≢true, true≢false}
use Prim.Native.Nat.{ℕ, ◌≤◌, ◌<◌}
use borrow.Author.Tests.{ltb-true, ltb-false, lt-ltb, le-ltb, eqb-true, eqb-false, eq-eqb, ne_eqb}
use lib.Dec.{ltb, eqb}
use Rattle.std.specs.Prelude.{Err, Ok, is_ok, IsErrAnd}
use Rattle.word.specs.Choice.{pick}
use Rattle.refusal.specs.Refusal.{number_of, place_of, placed_numbers, one_of, Checked}
use Rattle.refusal.specs.declared.Refusal.{Refusal}
use Rattle.refusal.specs.declared.Refusal.TheVariants.{HasherForm, TableLength, MaskNumber, TestStep, DmRule, MaskCount, MessageLength, Size, SheetLength, NoLane, MaskRepeated, ConditionLength, Condition}

-- a test is true exactly when P holds, and false exactly when Q does
pub record Decides (b : Bool) (P Q : Type 0) : Type 0 where
  pub on : (b ≡ true) ↔ P
  pub off : (b ≡ false) ↔ Q

pub decided : (b : Bool) (P : Type 0) → (b ≡ true) ↔ P → Decides b P (P → ⊥)
decided true P d = record { on = d; off = (λ e. absurd (true≢false e), λ n. absurd (n (d.0 refl))) }
decided false P d = record { on = d; off = (λ e p. false≢true (d.1 p), λ n. refl) }

pub itself : (b : Bool) → Decides b (b ≡ true) (b ≡ false)
itself b = record { on = Iff.rfl; off = Iff.rfl }

pub negated : {b : Bool} {P Q : Type 0} → Decides b P Q → Decides (not b) Q P
negated {b = true} d = record { on = (λ e. absurd (false≢true e), λ q. absurd (true≢false (d.off.1 q))); off = (λ e. d.on.0 refl, λ p. refl) }
negated {b = false} d = record { on = (λ e. d.off.0 refl, λ q. refl); off = (λ e. absurd (true≢false e), λ p. absurd (false≢true (d.on.1 p))) }

pub less : (a b : ℕ) → Decides (ltb a b) (a < b) (b ≤ a)
less a b = record { on = (ltb-true a b, lt-ltb a b); off = (ltb-false a b, le-ltb a b) }

pub equal : (a b : ℕ) → Decides (eqb a b) (a ≡ b) (a ≡ b → ⊥)
equal a b = record { on = (eqb-true a b, eq-eqb a b); off = (eqb-false a b, ne_eqb a b) }

-- a refusal whose number comes no later in the chain is given exactly when its test is true
pub first-exactly : {b : Bool} {P Q : Type 0} → Decides b P Q → (r s : Checked) (n : ℕ) → number_of r ≡ n → (number_of s ≡ n → ⊥)
    → (number_of (pick b r s) ≡ n) ↔ P
first-exactly {b = true} d r s n p q = (λ e. d.on.0 refl, λ x. p)
first-exactly {b = false} d r s n p q = (λ e. absurd (q e), λ x. absurd (false≢true (d.on.1 x)))

-- any other number is given exactly when that test is false and the rest of the chain gives it
pub later-exactly : {b : Bool} {P Q : Type 0} → Decides b P Q → (r s : Checked) (n : ℕ) (R : Type 0) → (number_of r ≡ n → ⊥)
    → (number_of s ≡ n) ↔ R → (number_of (pick b r s) ≡ n) ↔ (Q × R)
later-exactly {b = true} d r s n R p q = (λ e. absurd (p e), λ x. absurd (true≢false (d.off.1 x.0)))
later-exactly {b = false} d r s n R p q = (λ e. (d.off.0 refl, q.0 e), λ x. q.1 x.1)

-- what is looked at only where a test is true gives its numbers only there
pub inside-exactly : {b : Bool} {P Q : Type 0} → Decides b P Q → (r s : Checked) (n : ℕ) → (number_of s ≡ n → ⊥)
    → (number_of (pick b r s) ≡ n) ↔ (P × (number_of r ≡ n))
inside-exactly {b = true} d r s n p = (λ e. (d.on.0 refl, e), λ x. x.1)
inside-exactly {b = false} d r s n p = (λ e. absurd (p e), λ x. absurd (false≢true (d.on.1 x.0)))

-- a refusal at the end of the chain is given exactly when the test before it is false
pub last-exactly : {b : Bool} {P Q : Type 0} → Decides b P Q → (r s : Checked) (n : ℕ) → (number_of r ≡ n → ⊥) → number_of s ≡ n
    → (number_of (pick b r s) ≡ n) ↔ Q
last-exactly {b = true} d r s n p q = (λ e. absurd (p e), λ x. absurd (true≢false (d.off.1 x)))
last-exactly {b = false} d r s n p q = (λ e. d.off.0 refl, λ x. q)

-- a number that neither has is not given
pub never : (b : Bool) (r s : Checked) (n : ℕ) → (number_of r ≡ n → ⊥) → (number_of s ≡ n → ⊥) → number_of (pick b r s) ≡ n → ⊥
never true r s n p q = p
never false r s n p q = q

-- a test that is passed leaves the rest of the chain, number and place
pub later-is : {b : Bool} {P Q : Type 0} → Decides b P Q → (r s : Checked) → Q → pick b r s ≡ s
later-is {b = true} d r s q = absurd (true≢false (d.off.1 q))
later-is {b = false} d r s q = refl

pub inside_is : {b : Bool} {P Q : Type 0} → Decides b P Q → (r s : Checked) → P → pick b r s ≡ r
inside_is {b = true} d r s p = refl
inside_is {b = false} d r s p = absurd (false≢true (d.on.1 p))

-- a refusal is none, or has a number and either no place or one of the numbers that name a place
kind : (r : Checked) → (r ≡ (Ok tt)) ⊎ ((is_ok r ≡ false) × ((place_of r ≡ 0) ⊎ (one_of placed_numbers (number_of r) ≡ true)))
kind (Ok tt) = inl refl
kind (Err HasherForm) = inr (refl, inl refl)
kind (Err TableLength) = inr (refl, inl refl)
kind (Err (MaskNumber i)) = inr (refl, inr refl)
kind (Err (TestStep i)) = inr (refl, inr refl)
kind (Err (DmRule i)) = inr (refl, inr refl)
kind (Err MaskCount) = inr (refl, inl refl)
kind (Err MessageLength) = inr (refl, inl refl)
kind (Err Size) = inr (refl, inl refl)
kind (Err SheetLength) = inr (refl, inl refl)
kind (Err NoLane) = inr (refl, inl refl)
kind (Err (MaskRepeated i)) = inr (refl, inr refl)
kind (Err ConditionLength) = inr (refl, inl refl)
kind (Err (Condition i)) = inr (refl, inr refl)

-- only one refusal has the number 0
pub nothing_is : (r : Checked) → is_ok r ≡ true → r ≡ Ok tt
nothing_is r e = ⊎_elim (λ n. n) (λ k. absurd (true≢false (sym e ∙ k.0))) (kind r)

-- the place is 0 for every number but those that name one
pub place_none : (r : Checked) → one_of placed_numbers (number_of r) ≡ false → place_of r ≡ 0
place_none r h = ⊎_elim (λ n. ap place_of n) (λ k. ⊎_elim (λ z. z) (λ m. absurd (true≢false (sym m ∙ h))) k.1) (kind r)

-- a check that passes, and no other, has the number 0
pub numbered : (r : Checked) → Decides (is_ok r) (number_of r ≡ 0) (number_of r ≡ 0 → ⊥)
numbered (Ok tt) = equal 0 0
numbered (Err HasherForm) = equal 1 0
numbered (Err TableLength) = equal 2 0
numbered (Err (MaskNumber i)) = equal 3 0
numbered (Err (TestStep i)) = equal 4 0
numbered (Err (DmRule i)) = equal 5 0
numbered (Err MaskCount) = equal 6 0
numbered (Err MessageLength) = equal 7 0
numbered (Err Size) = equal 8 0
numbered (Err SheetLength) = equal 9 0
numbered (Err NoLane) = equal 10 0
numbered (Err (MaskRepeated i)) = equal 11 0
numbered (Err ConditionLength) = equal 12 0
numbered (Err (Condition i)) = equal 13 0

pub passes : (r : Checked) → number_of r ≡ 0 → is_ok r ≡ true
passes r = (numbered r).on.1

pub numberless : (r : Checked) → is_ok r ≡ true → number_of r ≡ 0
numberless r = (numbered r).on.0

pub refuses : (r : Checked) → (number_of r ≡ 0 → ⊥) → is_ok r ≡ false
refuses r = (numbered r).off.1

-- what holds of each refusal that a check can have given holds of the one that it gave
pub refused_and : (P : Refusal → Type 0) (c : Checked) → is_ok c ≡ false → ((r : Refusal) → c ≡ Err r → P r) → IsErrAnd c P
refused_and P (Ok tt) e f = absurd (true≢false e)
refused_and P (Err r) e f = f r refl
