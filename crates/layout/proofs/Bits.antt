-- A number has the bit that is worth so much exactly where `&` with it is not 0. Assumes nothing.
use Rattle.std.proofs.Common.{◌≡◌, ℕ, zero, suc, ◌*◌, ◌/◌, ◌%◌, ◌^◌, ◌<◌, not, eqb, arith}
use Rattle.std.proofs.lemmas.Nat.Bits.{and_pow}
use borrow.Author.Tests.{ne_eqb}
use lib.Bits.{bit_and}
use Rattle.layout.specs.Layout.{has_worth}

-- a bit times its worth is 0 exactly where the bit is
worth-bit : (b w : ℕ) → b < 2 → 0 < w → not (eqb (b * w) 0) ≡ eqb b 1
worth-bit zero w l p = grind arith
worth-bit (suc zero) w l p = rw (ne_eqb (1 * w) 0 (omega arith))
worth-bit (suc (suc b)) w l p = absurd (omega arith)

has-bit : (x k : ℕ) → 0 < 2 ^ k → not (eqb (bit_and x (2 ^ k)) 0) ≡ eqb (x / 2 ^ k % 2) 1
has-bit x k p = rw (and_pow x k) (worth-bit (x / 2 ^ k % 2) (2 ^ k) (omega arith) p)

-- the test of a bit, as the truth value that it gives
pub has_1 : (x : ℕ) → not (eqb (bit_and x 1) 0) ≡ has_worth x 1
has_1 x = has-bit x 0 (omega arith)

pub has_2 : (x : ℕ) → not (eqb (bit_and x 2) 0) ≡ has_worth x 2
has_2 x = has-bit x 1 (omega arith)

pub has_8 : (x : ℕ) → not (eqb (bit_and x 8) 0) ≡ has_worth x 8
has_8 x = has-bit x 3 (omega arith)

-- the number that `&` with a bit gives, for a test that decides between cases
pub and_4 : (x : ℕ) → bit_and x 4 ≡ x / 4 % 2 * 4
and_4 x = and_pow x 2

pub and_16 : (x : ℕ) → bit_and x 16 ≡ x / 16 % 2 * 16
and_16 x = and_pow x 4

-- what a number of flags is read by
pub ruleset bits = (has_1, has_2, has_8, and_4, and_16)
