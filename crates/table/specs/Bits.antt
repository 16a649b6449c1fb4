-- The bits of a mask, of any width.
use Rattle.std.specs.Prelude.{Bool, ℕ, ◌/◌, ◌%◌, ◌^◌, eqb}

-- bit b of x
abbrev pub bit_at : ℕ → ℕ → ℕ
bit_at x b = x / 2 ^ b % 2

-- the mask has bit k
abbrev pub has_bit : ℕ → ℕ → Bool
has_bit mask k = eqb (bit_at mask k) 1
