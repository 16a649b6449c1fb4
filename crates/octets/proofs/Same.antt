-- Lists with the same bytes: `same_bytes` is equality, and it is what `==` of two slices tests. Assumes nothing.
use mathlib.Core.Path.{◌≡◌, refl, ap, ap₂}
use mathlib.Core.Bool.{Bool, true, false, ◌&&◌, and-eq-true_iff, false≢true}
use mathlib.Core.List.{List, [], ◌∷◌}
use mathlib.Core.Logic.{◌↔◌}
use Prim.Native.Nat.{ℕ}
use lib.Dec.{eqb}
use lib.Pointwise.{pointwise}
use lib.ListN.{length}
use borrow.Author.Tests.{eqb-true, eq-eqb}
use Rattle.word.proofs.Tests.{unless-true}
use Rattle.octets.specs.Octets.{same_bytes}

same-equal : (x y : List ℕ) → same_bytes x y ≡ true → x ≡ y
unfolding same_bytes
same-equal [] [] h = refl
same-equal [] (b ∷ y) h = absurd (false≢true h)
same-equal (a ∷ x) [] h = absurd (false≢true h)
same-equal (a ∷ x) (b ∷ y) h =
    let p = (and-eq-true_iff (eqb a b) (same_bytes x y)).0 h in
    ap₂ (λ (c : ℕ) (z : List ℕ). c ∷ z) (eqb-true a b p.0) (same-equal x y p.1)

same_self : (x : List ℕ) → same_bytes x x ≡ true
unfolding same_bytes
same_self [] = refl
same_self (a ∷ x) = rw (eq-eqb a a refl) (same_self x)

-- two lists have the same bytes exactly when they are equal
pub same-exactly : (x y : List ℕ) → same_bytes x y ≡ true ↔ x ≡ y
same-exactly x y = (same-equal x y, λ e. rw e (same_self y))

pub other-lengths : (x y : List ℕ) → (length x ≡ length y → ⊥) → same_bytes x y ≡ false
other-lengths x y h = unless-true (same_bytes x y) (λ e. h (ap length (same-equal x y e)))

-- what `==` of two slices gives
pub pointwise_same : (x y : List ℕ) → pointwise eqb x y ≡ same_bytes x y
unfolding same_bytes
pointwise_same [] [] = refl
pointwise_same [] (b ∷ y) = refl
pointwise_same (a ∷ x) [] = refl
pointwise_same (a ∷ x) (b ∷ y) = ap (λ (s : Bool). eqb a b && s) (pointwise_same x y)
