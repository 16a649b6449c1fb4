-- Laws of `xor` that the logic's library lacks, at every number, and that the schedule's rule is linear. Assumes nothing.
use Rattle.std.proofs.Common.{◌≡◌, ℕ, zero, suc, ◌+◌, ◌^◌, ◌<◌, ◌≤◌, sym, ap, ◌∙◌, lt_of_lt_of_le, pow-suc, arith, pow_mono}
use lib.Bits.{bit_xor, xor_comm, xor_lt}
use Rattle.word.specs.Word.{rotl}
use Rattle.word.specs.Rule.{rule}
use Rattle.word.proofs.Digits.{b, c, d, xor, tabled}
use Rattle.word.proofs.Rotate.{rotl1-xor, rotl-lt}

small : (n : ℕ) → n < 2 ^ n
small zero = omega arith
small (suc n) = omega (arith, small n, pow-suc 2 n)

-- every number is a word of enough bits
fits : (n k : ℕ) → n ≤ k → n < 2 ^ k
fits n k h = lt_of_lt_of_le (small n) (pow_mono h)

pub xor_assoc : (x y z : ℕ) → bit_xor (bit_xor x y) z ≡ bit_xor x (bit_xor y z)
xor_assoc x y z =
    tabled (xor (xor b c) d) (xor b (xor c d)) (search) (x + y + z) x y z (fits x (x + y + z) (omega arith))
    (fits y (x + y + z) (omega arith)) (fits z (x + y + z) (omega arith))

pub xor-swap : (x y z u : ℕ) → bit_xor (bit_xor x y) (bit_xor z u) ≡ bit_xor (bit_xor x z) (bit_xor y u)
xor-swap x y z u =
    xor_assoc x y (bit_xor z u)
    ∙ ap (bit_xor x) (sym (xor_assoc y z u) ∙ ap (λ (n : ℕ). bit_xor n u) (xor_comm y z) ∙ xor_assoc z y u)
    ∙ sym (xor_assoc x z (bit_xor y u))

-- the rule is linear: what it gives for `xor` of two rows of words is `xor` of what it gives for each
module _ (x₁ x₂ x₃ x₄ : ℕ) (p₁ : x₁ < 2 ^ 32) (p₂ : x₂ < 2 ^ 32) (p₃ : x₃ < 2 ^ 32) (p₄ : x₄ < 2 ^ 32) where
  abbrev all : ℕ
  all = bit_xor (bit_xor (bit_xor x₁ x₂) x₃) x₄

  all-lt : all < 2 ^ 32
  all-lt = xor_lt 32 _ x₄ (xor_lt 32 _ x₃ (xor_lt 32 x₁ x₂ p₁ p₂) p₃) p₄

  pub rule-lt : rule x₁ x₂ x₃ x₄ < 2 ^ 32
  rule-lt = rotl-lt 1 (omega arith) all all-lt

pub rule_xor : (x₁ x₂ x₃ x₄ y₁ y₂ y₃ y₄ : ℕ) → x₁ < 2 ^ 32 → x₂ < 2 ^ 32 → x₃ < 2 ^ 32 → x₄ < 2 ^ 32
    → y₁ < 2 ^ 32 → y₂ < 2 ^ 32 → y₃ < 2 ^ 32 → y₄ < 2 ^ 32
    → rule (bit_xor x₁ y₁) (bit_xor x₂ y₂) (bit_xor x₃ y₃) (bit_xor x₄ y₄) ≡ bit_xor (rule x₁ x₂ x₃ x₄) (rule y₁ y₂ y₃ y₄)
rule_xor x₁ x₂ x₃ x₄ y₁ y₂ y₃ y₄ p₁ p₂ p₃ p₄ q₁ q₂ q₃ q₄ =
    let x = all x₁ x₂ x₃ x₄ p₁ p₂ p₃ p₄ in
    let y = all y₁ y₂ y₃ y₄ q₁ q₂ q₃ q₄ in
    ap (rotl 1)
    (ap (λ (n : ℕ). bit_xor (bit_xor n (bit_xor x₃ y₃)) (bit_xor x₄ y₄)) (xor-swap x₁ y₁ x₂ y₂)
    ∙ ap (λ (n : ℕ). bit_xor n (bit_xor x₄ y₄)) (xor-swap (bit_xor x₁ x₂) (bit_xor y₁ y₂) x₃ y₃)
    ∙ xor-swap (bit_xor (bit_xor x₁ x₂) x₃) (bit_xor (bit_xor y₁ y₂) y₃) x₄ y₄)
    ∙ rotl1-xor x y (all-lt x₁ x₂ x₃ x₄ p₁ p₂ p₃ p₄) (all-lt y₁ y₂ y₃ y₄ q₁ q₂ q₃ q₄)
