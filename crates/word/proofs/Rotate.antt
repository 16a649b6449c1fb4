-- Rotations: the two shifted parts have no bit in common; rotating on by what is left of 32 gives the word again; and a rotation
-- goes through `xor`. Assumes nothing.
use Rattle.std.proofs.Common.{◌≡◌, ℕ, ◌+◌, ◌-◌, ◌*◌, ◌/◌, ◌%◌, ◌^◌, ◌<◌, sym, ap, ◌∙◌, subst, ap₂, add-zero, mod-lt, add_comm, arith, pow_pos, pow-add, shr_lt}
use native.Mathlib.Nat.{mul-mod_left}
use lib.Arith.{digits_lt}
use lib.Bits.{bit_or, bit_xor, or_shifted, xor_mod, xor_shr, xor_block, xor_lt}
use lib.Pow.{mod-pow-add, shl-shr, high, low, split}
use Rattle.word.specs.Word.{rotl}

-- x of j + k bits, rotated left by k
abbrev turn : ℕ → ℕ → ℕ → ℕ
turn j k x = bit_or ((x * 2 ^ k) % 2 ^ (j + k)) (x / 2 ^ j)

-- what a shift by k keeps of j + k bits: the j low ones
shl-low : (x j k : ℕ) → (x * 2 ^ k) % 2 ^ (j + k) ≡ x % 2 ^ j * 2 ^ k
shl-low x j k =
    mod-pow-add (x * 2 ^ k) j k
    ∙ ap₂ (λ (a b : ℕ). a % 2 ^ j * 2 ^ k + b) (shl-shr x k) (mul-mod_left x (2 ^ k))
    ∙ add-zero (x % 2 ^ j * 2 ^ k)

module _ (j k x : ℕ) (h : x < 2 ^ (j + k)) where
  top : x / 2 ^ j < 2 ^ k
  top = shr_lt k j (rw (add_comm k j) h)

  -- the low part stands above the high one
  parts : turn j k x ≡ x % 2 ^ j * 2 ^ k + x / 2 ^ j
  parts = rw (shl-low x j k) (or_shifted (x % 2 ^ j) k (x / 2 ^ j) top)

  turn-lt : turn j k x < 2 ^ (j + k)
  turn-lt = rw (parts, pow-add 2 j k) (digits_lt (mod-lt x (pow_pos j)) top)

turn-turn : (j k x : ℕ) → x < 2 ^ (j + k) → turn k j (turn j k x) ≡ x
turn-turn j k x h =
    let g : turn j k x < 2 ^ (k + j) = rw (add_comm k j) (turn-lt j k x h) in
    parts k j (turn j k x) g
    ∙ ap (λ (y : ℕ). y % 2 ^ k * 2 ^ j + y / 2 ^ k) (parts j k x h)
    ∙ rw (low (x % 2 ^ j) k (top j k x h), high (x % 2 ^ j) k (top j k x h)) (split x j)

turn-xor : (j k x y : ℕ) → x < 2 ^ (j + k) → y < 2 ^ (j + k) → turn j k (bit_xor x y) ≡ bit_xor (turn j k x) (turn j k y)
turn-xor j k x y hx hy =
    parts j k (bit_xor x y) (xor_lt (j + k) x y hx hy)
    ∙ rw (parts j k x hx, parts j k y hy, xor_mod x y j, xor_shr x y j)
    (sym (xor_block k (x % 2 ^ j) (y % 2 ^ j) (x / 2 ^ j) (y / 2 ^ j) (top j k x hx) (top j k y hy)))

-- at 32 bits
pub rotl-lt : (n : ℕ) → n < 32 → (x : ℕ) → x < 2 ^ 32 → rotl n x < 2 ^ 32
unfolding rotl
rotl-lt n hn x h =
    let rest : 32 - n + n ≡ 32 = omega arith in
    let wide : x < 2 ^ (32 - n + n) = rw rest h in
    subst (λ (w : ℕ). bit_or ((x * 2 ^ n) % 2 ^ w) (x / 2 ^ (32 - n)) < 2 ^ w) rest (turn-lt (32 - n) n x wide)

-- the two rotations of a step undo each other
pub rotl-back : (x : ℕ) → x < 2 ^ 32 → rotl 2 (rotl 30 x) ≡ x
unfolding rotl
rotl-back = turn-turn 2 30

pub rotl-again : (x : ℕ) → x < 2 ^ 32 → rotl 30 (rotl 2 x) ≡ x
unfolding rotl
rotl-again = turn-turn 30 2

pub rotl1-xor : (x y : ℕ) → x < 2 ^ 32 → y < 2 ^ 32 → rotl 1 (bit_xor x y) ≡ bit_xor (rotl 1 x) (rotl 1 y)
unfolding rotl
rotl1-xor = turn-xor 31 1
