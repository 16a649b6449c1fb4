-- The bits of a number: one by one, of `or` and of a power of 2. Assumes nothing.
use mathlib.Core.Path.{◌≡◌, refl, ap, ◌∙◌}
use mathlib.Core.Bool.{Bool, true, false, ◌||◌}
use Prim.Native.Nat.{ℕ, zero, suc, ◌/◌, ◌%◌, ◌^◌, ◌<◌}
use native.Mathlib.Nat.{pow-suc, pow-succ', div-one, div-div-eq-div-mul, mod-lt, zero-lt-suc}
use native.Mathlib.Omega.{arith}
use lib.Bits.{bit_or, or_shr, or_mod}
use lib.Dec.{eqb, eqb-zero-suc, eqb-suc-zero, eqb-suc-suc}
use Rattle.word.specs.Choice.{pick}
use Rattle.table.specs.Bits.{bit_at, has_bit}

pub bit-lt : (x b : ℕ) → bit_at x b < 2
bit-lt x b = mod-lt (x / 2 ^ b) (zero-lt-suc 1)

-- bit b + 1 of a number is bit b of its half
pub half-bit : (x b : ℕ) → bit_at x (suc b) ≡ bit_at (x / 2) b
half-bit x b = rw (pow-succ' 2 b, ← div-div-eq-div-mul)

pub low_bit : (x : ℕ) → bit_at x 0 ≡ x % 2
low_bit x = rw (div-one x)

pub no-bit : (b : ℕ) → bit_at 0 b ≡ 0
no-bit zero = refl
no-bit (suc b) = half-bit 0 b ∙ no-bit b

pub or-bit : (x y b : ℕ) → bit_at (bit_or x y) b ≡ bit_or (bit_at x b) (bit_at y b)
or-bit x y b = ap (λ (n : ℕ). n % 2) (or_shr x y b) ∙ or_mod (x / 2 ^ b) (y / 2 ^ b) 1

-- a power of 2 has its own bit and no other
pub own-bit : (m k : ℕ) → bit_at (2 ^ m) k ≡ pick (eqb m k) 1 0
own-bit zero zero = refl
own-bit zero (suc k) = rw (half-bit 1 k, eqb-zero-suc k) (no-bit k)
own-bit (suc m) zero = rw (low_bit (2 ^ suc m), eqb-suc-zero m, pow-suc 2 m) (omega arith)
own-bit (suc m) (suc k) =
    let e : 2 ^ suc m / 2 ≡ 2 ^ m = omega (arith, pow-suc 2 m) in
    rw (half-bit (2 ^ suc m) k, e, eqb-suc-suc m k) (own-bit m k)

-- whether one of two bits is set
either-bit : (x y : ℕ) → x < 2 → y < 2 → eqb (bit_or x y) 1 ≡ (eqb x 1 || eqb y 1)
either-bit zero y hx hy = refl
either-bit (suc zero) zero hx hy = refl
either-bit (suc zero) (suc zero) hx hy = refl
either-bit (suc zero) (suc (suc y)) hx hy = absurd (omega arith)
either-bit (suc (suc x)) y hx hy = absurd (omega arith)

pub or-has : (x y b : ℕ) → has_bit (bit_or x y) b ≡ (has_bit x b || has_bit y b)
or-has x y b = ap (λ (n : ℕ). eqb n 1) (or-bit x y b) ∙ either-bit (bit_at x b) (bit_at y b) (bit-lt x b) (bit-lt y b)

pub own-has : (m k : ℕ) → has_bit (2 ^ m) k ≡ eqb m k
own-has m k = ap (λ (n : ℕ). eqb n 1) (own-bit m k) ∙ by (eqb m k)
  where
    by : (b : Bool) → eqb (pick b 1 0) 1 ≡ b
    by true = refl
    by false = refl
