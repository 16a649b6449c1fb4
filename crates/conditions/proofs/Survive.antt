-- A bit survives exactly when every condition naming it holds, for any width of a mask. Assumes nothing.
use mathlib.Core.Path.{◌≡◌, refl, sym, ap, ◌∙◌}
use mathlib.Core.Logic.{◌↔◌, ⊎_elim}
use mathlib.Core.Bool.{Bool, true, false, false≢true}
use mathlib.Core.List.{List, []}
use Prim.Native.Nat.{ℕ, zero, suc, ◌+◌, ◌-◌, ◌/◌, ◌%◌, ◌^◌, ◌<◌}
use native.Mathlib.Nat.{pow-suc, eq-or-lt_of_le, sub-zero}
use native.Mathlib.Omega.{arith}
use lib.Bits.{bit_or, or_lt}
use lib.ListN.{length}
use lib.Pow.{pow_pos, ones_sub-lt}
use Rattle.word.specs.Choice.{pick}
use Rattle.word.specs.Lists.{AllWords}
use Rattle.table.specs.Limits.{mask_bits}
use Rattle.table.specs.Bits.{bit_at}
use Rattle.table.proofs.Bits.{bit-lt, half-bit, low_bit, no-bit, or-bit}
use Rattle.conditions.specs.Conditions.{conditions_in, clearing_at, holds_at, surviving_of}
use Rattle.conditions.specs.Good.{Same, AllIn}
use Rattle.conditions.specs.Survivors.{dropped_by, dropped_below, survivors, AllHold, Within, EachStands}

-- the complement has the bits that the number lacks
lacks : (n b d : ℕ) → b < n → d < 2 ^ n → bit_at (2 ^ n - 1 - d) b + bit_at d b ≡ 1
lacks zero b d h l = absurd (omega arith)
lacks (suc n) zero d h l = rw (low_bit (2 ^ suc n - 1 - d), low_bit d, pow-suc 2 n) (omega (arith, pow-suc 2 n))
lacks (suc n) (suc b) d h l =
    let e : (2 ^ suc n - 1 - d) / 2 ≡ 2 ^ n - 1 - d / 2 = omega (arith, pow-suc 2 n) in
    rw (half-bit (2 ^ suc n - 1 - d) b, half-bit d b, e) (lacks n b (d / 2) (omega arith) (omega (arith, pow-suc 2 n)))

-- numbers of n bits with the same bits are equal
pub same_bits : (n x y : ℕ) → x < 2 ^ n → y < 2 ^ n → ((b : ℕ) → b < n → bit_at x b ≡ bit_at y b) → x ≡ y
same_bits zero x y hx hy h = omega arith
same_bits (suc n) x y hx hy h =
    let p = pow-suc 2 n in
    let up : x / 2 ≡ y / 2 = same_bits n (x / 2) (y / 2) (omega arith) (omega arith)
    (λ b l. sym (half-bit x b) ∙ h (suc b) (omega arith) ∙ half-bit y b) in
    let lo : x % 2 ≡ y % 2 = sym (low_bit x) ∙ h 0 (omega arith) ∙ low_bit y in
    omega arith

-- no bit in `or` of two exactly when in neither
or-none : (x y : ℕ) → x < 2 → y < 2 → (bit_or x y ≡ 0) ↔ ((x ≡ 0) × (y ≡ 0))
or-none zero y hx hy = (λ e. (refl, e), λ p. p.1)
or-none (suc zero) zero hx hy = (λ e. absurd (omega arith), λ p. absurd (omega (arith, p.0)))
or-none (suc zero) (suc zero) hx hy = (λ e. absurd (omega arith), λ p. absurd (omega (arith, p.0)))
or-none (suc zero) (suc (suc y)) hx hy = absurd (omega arith)
or-none (suc (suc x)) y hx hy = absurd (omega arith)

clear-bit : (x : ℕ) → x < 2 → (x ≡ 1 → ⊥) → x ≡ 0
clear-bit zero h n = refl
clear-bit (suc zero) h n = absurd (n refl)
clear-bit (suc (suc x)) h n = absurd (omega arith)

module _ (holds : ℕ → Bool) (clears : ℕ → ℕ) where
  -- one condition leaves bit b exactly when it holds or does not name it
  one-leaves : (b k : ℕ) (t : Bool) → (bit_at (pick t 0 (clears k)) b ≡ 0) ↔ (bit_at (clears k) b ≡ 1 → t ≡ true)
  one-leaves b k true = (λ z n. refl, λ f. no-bit b)
  one-leaves b k false =
      (λ z n. absurd (omega arith), λ f. clear-bit (bit_at (clears k) b) (bit-lt (clears k) b) (λ n. false≢true (f n)))

  not-dropped : (b n : ℕ) → (bit_at (dropped_below holds clears n) b ≡ 0) ↔ AllHold holds clears b n
  unfolding dropped_below
  not-dropped b zero = (λ e k h. absurd (omega arith), λ f. no-bit b)
  not-dropped b (suc n) =
      let d = dropped_below holds clears n in
      let o = or-bit d (dropped_by holds clears n) b in
      let m = or-none (bit_at d b) (bit_at (dropped_by holds clears n) b) (bit-lt d b) (bit-lt (dropped_by holds clears n) b) in
      let l = one-leaves b n (holds n) in (
        λ e k h.
            ⊎_elim (λ (q : k ≡ n). rw q (l.0 (m.0 (sym o ∙ e)).1)) (λ (q : k < n). (not-dropped b n).0 (m.0 (sym o ∙ e)).0 k q)
            (eq-or-lt_of_le (omega arith)),
        λ f. o ∙ m.1 ((not-dropped b n).1 (λ k h. f k (omega arith)), l.1 (f n (omega arith))),
      )

  one-lt : (width k : ℕ) (t : Bool) → clears k < 2 ^ width → pick t 0 (clears k) < 2 ^ width
  one-lt width k true h = pow_pos width
  one-lt width k false h = h

  dropped-lt : (width n : ℕ) → Within holds clears width n → dropped_below holds clears n < 2 ^ width
  unfolding dropped_below
  dropped-lt width zero h = pow_pos width
  dropped-lt width (suc n) h =
      or_lt width _ _ (dropped-lt width n (λ k l. h k (omega arith))) (one-lt width n (holds n) (h n (omega arith)))

  -- THE LAW: a bit survives exactly when every condition naming it holds
  pub survives : (width n b : ℕ) → Within holds clears width n → b < width → (bit_at (survivors holds clears width n) b ≡ 1) ↔ AllHold holds clears b n
  survives width n b h l =
      let s = lacks width b (dropped_below holds clears n) l (dropped-lt width n h) in
      (λ e. (not-dropped b n).0 (omega arith), λ f. omega (arith, (not-dropped b n).1 f))

  -- and no bit beyond the width does
  pub survivors-lt : (width n : ℕ) → survivors holds clears width n < 2 ^ width
  survivors-lt width n = ones_sub-lt width (dropped_below holds clears n)

  -- with no condition all survive
  pub survive-all : (width : ℕ) → survivors holds clears width 0 ≡ 2 ^ width - 1
  unfolding dropped_below
  survive-all width = sub-zero (2 ^ width - 1)

module _ (holds holds' : ℕ → Bool) (clears clears' : ℕ → ℕ) (n m : ℕ) where
  all_among : EachStands holds clears n holds' clears' m → (b : ℕ) → AllHold holds' clears' b m → AllHold holds clears b n
  all_among a b f k h e =
      let j = a k h in
      sym j.2 ∙ f j.0 j.1 (ap (λ (x : ℕ). bit_at x b) j.3 ∙ e)

-- two bits, one set exactly when the other is
bit-same : (x y : ℕ) → x < 2 → y < 2 → (x ≡ 1 → y ≡ 1) → (y ≡ 1 → x ≡ 1) → x ≡ y
bit-same zero y hx hy f g = sym (clear-bit y hy (λ e. absurd (omega (arith, g e))))
bit-same (suc zero) y hx hy f g = sym (f refl)
bit-same (suc (suc x)) y hx hy f g = absurd (omega arith)

-- order and repetition don't matter: tables with the same conditions leave the same vectors
module _ (holds holds' : ℕ → Bool) (clears clears' : ℕ → ℕ) (n m width : ℕ) where
  pub same-survivors : Within holds clears width n → Within holds' clears' width m
      → EachStands holds clears n holds' clears' m → EachStands holds' clears' m holds clears n
      → survivors holds clears width n ≡ survivors holds' clears' width m
  same-survivors h h' a a' =
      same_bits width _ _ (survivors-lt holds clears width n) (survivors-lt holds' clears' width m) (λ b l.
      let s = survives holds clears width n b h l in
      let s' = survives holds' clears' width m b h' l in
      bit-same _ _ (bit-lt _ b) (bit-lt _ b)
      (λ e. s'.1 (all_among holds' holds clears' clears m n a' b (s.0 e)))
      (λ e. s.1 (all_among holds holds' clears clears' n m a b (s'.0 e))))

-- the same at the width of a mask, for a schedule and a table of words
module _ (w conditions : List ℕ) (words : AllWords conditions) where
  within : Within (holds_at w conditions) (clearing_at conditions) mask_bits (conditions_in (length conditions))
  within k h = words _

  pub bit-survives : (b : ℕ) → b < mask_bits
      → (bit_at (surviving_of w conditions) b ≡ 1)
      ↔ ((k : ℕ) → k < conditions_in (length conditions) → bit_at (clearing_at conditions k) b ≡ 1 → holds_at w conditions k ≡ true)
  unfolding surviving_of
  bit-survives b h = survives (holds_at w conditions) (clearing_at conditions) mask_bits (conditions_in (length conditions)) b within h

pub surviving-lt : (w conditions : List ℕ) → surviving_of w conditions < 2 ^ mask_bits
unfolding surviving_of
surviving-lt w conditions = survivors-lt (holds_at w conditions) (clearing_at conditions) mask_bits (conditions_in (length conditions))

-- a table of no conditions selects every vector
pub no-conditions : (w : List ℕ) → surviving_of w [] ≡ 2 ^ mask_bits - 1
unfolding surviving_of
no-conditions w = survive-all (holds_at w []) (clearing_at []) mask_bits

-- tables with the same conditions, in any order and however often, leave the same vectors in every block
module _ (w conditions others : List ℕ) where
  pub holds_same : (k j : ℕ) → Same conditions k others j → holds_at w others j ≡ holds_at w conditions k
  holds_same k j s = rw (s.first_word, s.first_bit, s.second_word, s.second-bit, s.wanted)

  among : AllIn conditions others
      → EachStands (holds_at w conditions) (clearing_at conditions) (conditions_in (length conditions)) (holds_at w others) (clearing_at others) (conditions_in (length others))
  among a k h =
      let f = a k h in
      (f.0, f.1, holds_same k f.0 f.2, f.2.clearing)

pub same-conditions : (w conditions others : List ℕ) → AllWords conditions → AllWords others → AllIn conditions others → AllIn others conditions
    → surviving_of w conditions ≡ surviving_of w others
unfolding surviving_of
same-conditions w conditions others p q a b =
    same-survivors (holds_at w conditions) (holds_at w others) (clearing_at conditions) (clearing_at others)
    (conditions_in (length conditions)) (conditions_in (length others)) mask_bits (within w conditions p) (within w others q)
    (among w conditions others a) (among w others conditions b)
