-- Words of 32 bits, as numbers below 2 ^ 32: FIPS 180-4, sections 2.2.2, 3.1, 3.2 and 4.1.1.
use Rattle.std.specs.Prelude.{ℕ, ◌+◌, ◌-◌, ◌*◌, ◌/◌, ◌%◌, ◌^◌, bit_and, bit_or, bit_xor}

-- ROTL: x shifted left by n places, with the n bits that fall off put in below
unfoldable pub rotl : ℕ → ℕ → ℕ
rotl n x = bit_or ((x * 2 ^ n) % 2 ^ 32) (x / 2 ^ (32 - n))

-- the sum modulo 2 ^ 32
abbrev pub ◌⊞◌ : ℕ → ℕ → ℕ
x ⊞ y = (x + y) % 2 ^ 32

infixl 65 ◌⊞◌
-- the difference modulo 2 ^ 32
unfoldable pub ◌⊟◌ : ℕ → ℕ → ℕ
x ⊟ y = (x + (2 ^ 32 - y)) % 2 ^ 32

infixl 65 ◌⊟◌
-- every bit of a word turned over
unfoldable pub not32 : ℕ → ℕ
not32 x = 2 ^ 32 - 1 - x

-- choose: the bit of y where x has a bit, else the bit of z
unfoldable pub ch : ℕ → ℕ → ℕ → ℕ
ch x y z = bit_xor (bit_and x y) (bit_and (not32 x) z)

-- parity: the bits that an odd number of the three have
abbrev pub parity : ℕ → ℕ → ℕ → ℕ
parity x y z = bit_xor (bit_xor x y) z

-- majority: the bits that at least two of the three have
unfoldable pub maj : ℕ → ℕ → ℕ → ℕ
maj x y z = bit_xor (bit_xor (bit_and x y) (bit_and x z)) (bit_and y z)
