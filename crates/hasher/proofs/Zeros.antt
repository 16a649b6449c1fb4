-- Lists of zeros, and lists that end in them. Assumes nothing.
use mathlib.Core.Path.{◌≡◌, refl, ap, ◌∙◌}
use mathlib.Core.Bool.{true, ◌&&◌, and_assoc}
use mathlib.Core.List.{List, [], ◌∷◌}
use Prim.Native.Nat.{ℕ, zero, suc, ◌+◌, ◌≤◌, ◌<◌}
use native.Mathlib.Numerals.{add-one}
use borrow.Author.Tests.{eqb-true}
use lib.Bits.{bit_or}
use lib.Dec.{eqb}
use lib.ListN.{length, get_or, drop, replicate, drop_of_length-le}
use lib.Seq.{drop-cons}
use Rattle.word.proofs.Tests.{both_true}
use Rattle.word.proofs.Zero.{or-none}
use Rattle.hasher.specs.Hasher.{all_zero}

pub zero-nil : all_zero [] ≡ true
unfolding all_zero
zero-nil = refl

pub zero-cons : (x : ℕ) (xs : List ℕ) → all_zero (x ∷ xs) ≡ (eqb x 0 && all_zero xs)
unfolding all_zero
zero-cons x xs = refl

-- a turn of a loop that puts together the bits of all bytes from a place on, and its end
module _ (p : List ℕ) (i : ℕ) where
  pub zero_turn : (seen : ℕ) → i < length p → (eqb (bit_or seen (get_or p i 0)) 0 && all_zero (drop (i + 1) p)) ≡ (eqb seen 0 && all_zero (drop i p))
  zero_turn seen h =
      rw (drop-cons p i 0 h, zero-cons, or-none seen (get_or p i 0), add-one i) (and_assoc (eqb seen 0) (eqb (get_or p i 0) 0) (all_zero (drop (suc i) p)))

  pub zero_end : length p ≤ i → all_zero (drop i p) ≡ true
  zero_end h = rw (drop_of_length-le p h, zero-nil)

-- what is all zero is a list of zeros, and the other way round
pub zero-all : (xs : List ℕ) → all_zero xs ≡ true → xs ≡ replicate (length xs) 0
zero-all [] h = refl
zero-all (x ∷ xs) h =
    let g = both_true (eqb x 0) (all_zero xs) (rw (zero-cons x xs) at h) in
    ap (λ (y : ℕ). y ∷ xs) (eqb-true x 0 g.0) ∙ ap (λ (ys : List ℕ). 0 ∷ ys) (zero-all xs g.1)

pub zeros-are : (n : ℕ) → all_zero (replicate n 0) ≡ true
zeros-are zero = zero-nil
zeros-are (suc n) = rw zero-cons (zeros-are n)
