-- The numbers that a refusal can have, and a test in front of other refusals. Assumes nothing.
use mathlib.Core.Path.{◌≡◌, refl, sym, ap, ◌∙◌, subst}
use mathlib.Core.Logic.Iff
use mathlib.Core.Logic.{◌↔◌, ⊎_elim}
use mathlib.Core.Bool.{Bool, true, false, not, ◌&&◌, or-true, true≢false, false≢true}
use mathlib.Core.List.{List, [], ◌∷◌}
use Prim.Native.Nat.{ℕ}
use borrow.Author.Tests.{eqb-true, eq-eqb, not-true}
use lib.Dec.{eqb}
use Rattle.std.specs.Prelude.{is_ok}
use Rattle.word.specs.Choice.{pick}
use Rattle.word.proofs.Tests.{both_true, one-true, of_either}
use Rattle.refusal.specs.Refusal.{number_of, first_of, one_of, Checked}
use Rattle.refusal.proofs.Chains.{Decides, numbered, first-exactly, later-exactly, inside-exactly, later-is, inside_is}

-- each number of the second list is in the first
abbrev pub all_of : List ℕ → List ℕ → Bool
all_of l [] = true
all_of l (x ∷ xs) = one_of l x && all_of l xs

-- so what is in the second is in the first
pub within : (l m : List ℕ) (n : ℕ) → all_of l m ≡ true → one_of m n ≡ true → one_of l n ≡ true
within l [] n a o = absurd (false≢true o)
within l (x ∷ xs) n a o =
    let b = both_true (one_of l x) _ a in
    ⊎_elim (λ e. subst (λ (k : ℕ). one_of l k ≡ true) (eqb-true x n e) b.0) (λ e. within l xs n b.1 e) (one-true (eqb x n) _ o)

-- no number of the second list is in the first
abbrev pub none_in : List ℕ → List ℕ → Bool
none_in l [] = true
none_in l (x ∷ xs) = not (one_of l x) && none_in l xs

-- so what is in the second is not in the first
pub outside : (l m : List ℕ) (n : ℕ) → none_in l m ≡ true → one_of m n ≡ true → one_of l n ≡ false
outside l [] n a o = absurd (false≢true o)
outside l (x ∷ xs) n a o =
    let b = both_true (not (one_of l x)) _ a in
    ⊎_elim (λ e. subst (λ (k : ℕ). one_of l k ≡ false) (eqb-true x n e) (not-true (one_of l x) b.0)) (λ e. outside l xs n b.1 e) (one-true (eqb x n) _ o)

-- a number of a list is not one outside it
pub apart : (l : List ℕ) (m n : ℕ) → one_of l n ≡ true → one_of l m ≡ false → m ≡ n → ⊥
apart l m n p q e = true≢false (sym p ∙ ap (one_of l) (sym e) ∙ q)

-- a refusal whose number is one of those listed
abbrev pub Among : List ℕ → Checked → Type 0
Among l r = one_of l (number_of r) ≡ true

-- what is said of a refusal is said of the one that a call gives
pub over : {r s : Checked} (n : ℕ) (P : Type 0) → r ≡ s → (number_of s ≡ n) ↔ P → (number_of r ≡ n) ↔ P
over n P e d = (λ p. d.0 (ap number_of (sym e) ∙ p), λ x. ap number_of e ∙ d.1 x)

-- the refusal r is `own` where P holds and, where Q does, s, whose number is one of ns
pub record InFront (r own s : Checked) (P Q : Type 0) (ns : List ℕ) : Type 1 where
  pub at_own : (number_of r ≡ number_of own) ↔ P
  pub behind : (n : ℕ) (R : Type 0) → one_of ns n ≡ true → (number_of s ≡ n) ↔ R → (number_of r ≡ n) ↔ (Q × R)
  pub is : Q → r ≡ s
  pub among : Among (number_of own ∷ ns) r

-- so it is of a test with a refusal of its own in front of s, whose number that is not
pub in-front : {b : Bool} {P Q : Type 0} → Decides b P Q → (r own s : Checked) (ns : List ℕ) → r ≡ pick b own s → Among ns s → one_of ns (number_of own) ≡ false
    → InFront r own s P Q ns
in-front {b = b} {P = P} {Q = Q} says r own s ns e a o =
    record {
      at_own =
          over (number_of own) P e (first-exactly says own s (number_of own) refl (λ x. apart ns (number_of own) (number_of s) a o (sym x)));
      behind = λ n R i d. over n (Q × R) e (later-exactly says own s n R (apart ns (number_of own) n i o) d);
      is = λ q. e ∙ later-is says own s q;
      among =
          subst (Among (number_of own ∷ ns)) (sym e)
          (of_either (Among (number_of own ∷ ns)) b own s (rw (eq-eqb (number_of own) (number_of own) refl)) (rw a (or-true (eqb (number_of own) (number_of s)))));
    }

-- The first of two refusals.
module _ (r s : Checked) where
  none : Decides (is_ok r) (number_of r ≡ 0) (number_of r ≡ 0 → ⊥)
  none = numbered r

  -- there is none exactly when there is neither
  pub first-of-0 : (number_of (first_of r s) ≡ 0) ↔ ((number_of r ≡ 0) × (number_of s ≡ 0))
  first-of-0 = by (is_ok r) none
    where
      by : (b : Bool) → Decides b (number_of r ≡ 0) (number_of r ≡ 0 → ⊥) → (number_of (pick b s r) ≡ 0) ↔ ((number_of r ≡ 0) × (number_of s ≡ 0))
      by true d = (λ e. (d.on.0 refl, e), λ e. e.1)
      by false d = (λ e. absurd (d.off.0 refl e), λ e. e.0)

  -- a number that the second does not have is the first's
  pub first-of-own : (n : ℕ) → (n ≡ 0 → ⊥) → (number_of s ≡ n → ⊥) → (number_of (first_of r s) ≡ n) ↔ (number_of r ≡ n)
  first-of-own n z p =
      let d = later-exactly none s r n (number_of r ≡ n) p Iff.rfl in
      (λ e. (d.0 e).1, λ e. d.1 (λ o. z (sym e ∙ o), e))

  -- and one that the first does not have is the second's, where the first is none
  pub first-of-behind : (n : ℕ) → (number_of r ≡ n → ⊥) → (number_of (first_of r s) ≡ n) ↔ ((number_of r ≡ 0) × (number_of s ≡ n))
  first-of-behind n p = inside-exactly none s r n p

  -- its number is one of those that either has
  pub first-of-among : (l : List ℕ) → Among l r → Among l s → Among l (first_of r s)
  first-of-among l a b = of_either (Among l) (is_ok r) s r b a

  -- where the first is none it is the second, number and place
  pub first-of-second : number_of r ≡ 0 → first_of r s ≡ s
  first-of-second e = inside_is none s r e

  -- else the first
  pub first-of-first : (number_of r ≡ 0 → ⊥) → first_of r s ≡ r
  first-of-first n = later-is none s r n
