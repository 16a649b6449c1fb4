-- The digits of bytes, one byte after the other. Assumes nothing.
use mathlib.Core.Path.{◌≡◌, refl, ap}
use mathlib.Core.List.{List, [], ◌∷◌, ◌++◌}
use Prim.Native.Nat.{ℕ, ◌+◌, ◌*◌, ◌/◌, ◌%◌, ◌<◌}
use native.Mathlib.Numerals.{add-one}
use native.Mathlib.Omega.{arith}
use lib.ListN.{length, get_or, take}
use lib.Seq.{take-suc}
use Rattle.line.specs.Line.{hex_digit, hex_of}

hex-append : (xs ys : List ℕ) → hex_of (xs ++ ys) ≡ hex_of xs ++ hex_of ys
unfolding hex_of
hex-append [] ys = refl
hex-append (x ∷ xs) ys = ap (λ (l : List ℕ). hex_digit (x / 16) ∷ hex_digit (x % 16) ∷ l) (hex-append xs ys)

pub hex_length : (xs : List ℕ) → length (hex_of xs) ≡ 2 * length xs
unfolding hex_of
hex_length [] = refl
hex_length (x ∷ xs) = omega (arith, hex_length xs)

pub hex_none : hex_of [] ≡ []
unfolding hex_of
hex_none = refl

-- one byte more
pub hex_more : (d : List ℕ) (i : ℕ) → i < length d
    → hex_of (take (i + 1) d) ≡ hex_of (take i d) ++ (hex_digit (get_or d i 0 / 16) ∷ hex_digit (get_or d i 0 % 16) ∷ [])
unfolding hex_of
hex_more d i l = rw (add-one i, take-suc d i 0 l) (hex-append (take i d) (get_or d i 0 ∷ []))
