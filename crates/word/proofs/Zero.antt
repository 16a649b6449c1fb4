-- When bits put together are all zero. Assumes nothing.
use Rattle.std.proofs.Common.{◌≡◌, ℕ, ◌≤◌, Bool, true, false, ◌&&◌, eqb, refl, arith, eq-eqb, ne_eqb, eqb-true}
use borrow.Author.Tests.{eqb-false}
use lib.Bits.{bit_or, bit_xor, or_comm, or_add_and, and_le_r, and_le_l, xor_add_and, xor_self}

-- `or` takes nothing away
pub or-more : (a b : ℕ) → a ≤ bit_or a b
or-more a b = omega (arith, or_add_and a b, and_le_r a b)

-- two numbers joined by `or` are 0 exactly when both are
pub or-none : (a b : ℕ) → eqb (bit_or a b) 0 ≡ (eqb a 0 && eqb b 0)
or-none a b = by (eqb a 0) (eqb b 0) refl refl
  where
    by : (x y : Bool) → eqb a 0 ≡ x → eqb b 0 ≡ y → eqb (bit_or a b) 0 ≡ (x && y)
    by true true p q = rw (eqb-true a 0 p, eqb-true b 0 q)
    by true false p q = ne_eqb (bit_or a b) 0 (λ e. eqb-false b 0 q (let m = or-more b a in omega (arith, or_comm a b)))
    by false y p q = ne_eqb (bit_or a b) 0 (λ e. eqb-false a 0 p (let m = or-more a b in omega arith))

-- and two joined by `xor` exactly when they are equal
pub xor-none : (a b : ℕ) → eqb (bit_xor a b) 0 ≡ eqb a b
xor-none a b = by (eqb a b) refl
  where
    by : (x : Bool) → eqb a b ≡ x → eqb (bit_xor a b) 0 ≡ x
    by true p = eq-eqb (bit_xor a b) 0 (rw (eqb-true a b p) (xor_self b))
    by false p = ne_eqb (bit_xor a b) 0 (λ e. eqb-false a b p (omega (arith, xor_add_and a b, and_le_l a b, and_le_r a b)))
