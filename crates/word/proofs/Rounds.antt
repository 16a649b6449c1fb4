-- The round functions as the code computes them are those of FIPS 180-4, and so is the Rust's majority. Assumes nothing.
use Rattle.std.proofs.Common.{◌≡◌, ℕ, ◌+◌, ◌%◌, ◌^◌, ◌<◌, sym, ap, ◌∙◌, mod-eq_of_lt}
use lib.Bits.{bit_and, bit_or, bit_xor, xor_disjoint}
use Rattle.word.specs.Word.{ch, maj, not32}
use Rattle.word.proofs.Digits.{b, c, d, nil, and, or, xor, non, tabled, word_lt}

module _ (x y z : ℕ) (hx : x < 2 ^ 32) (hy : y < 2 ^ 32) (hz : z < 2 ^ 32) where
  pub choose : bit_xor z (bit_and x (bit_xor y z)) ≡ ch x y z
  unfolding ch not32
  choose = tabled (xor d (and b (xor c d))) (xor (and b c) (and (non b) d)) (search) 32 x y z hx hy hz

  pub maj_lt : maj x y z < 2 ^ 32
  unfolding maj
  maj_lt = word_lt 32 x y z hx hy hz (xor (xor (and b c) (and b d)) (and c d))

  pub majority-by-or : bit_or (bit_and x y) (bit_and z (bit_or x y)) ≡ maj x y z
  unfolding maj
  majority-by-or =
      tabled (or (and b c) (and d (or b c))) (xor (xor (and b c) (and b d)) (and c d)) (search) 32 x y z hx hy hz

  -- the Rust's: the two terms have no bit in common, so the sum is their xor, and does not wrap
  pub majority : (bit_and x y + bit_and z (bit_xor x y)) % 2 ^ 32 ≡ maj x y z
  unfolding maj
  majority =
      ap (λ (s : ℕ). s % 2 ^ 32)
      (sym (xor_disjoint (bit_and x y) (bit_and z (bit_xor x y))
      (tabled (and (and b c) (and d (xor b c))) nil (search) 32 x y z hx hy hz))
      ∙ tabled (xor (and b c) (and d (xor b c))) (xor (xor (and b c) (and b d)) (and c d)) (search) 32 x y z hx hy hz)
      ∙ mod-eq_of_lt maj_lt
