-- The test of the rule, one word at a time, and what it says of each word. Assumes nothing.
use mathlib.Core.Path.{◌≡◌, refl}
use mathlib.Core.Logic.{◌↔◌, ⊎_elim}
use mathlib.Core.Bool.{true, false, ◌&&◌, true≢false, and_assoc}
use mathlib.Core.List.{List}
use Prim.Native.Nat.{ℕ, zero, suc, ◌+◌, ◌-◌, ◌≤◌, ◌<◌}
use native.Mathlib.Nat.{eq-or-lt_of_le}
use native.Mathlib.Numerals.{add-one}
use native.Mathlib.Omega.{arith}
use lib.Bits.{bit_or, bit_xor}
use lib.Dec.{eqb}
use lib.ListN.{get_or}
use borrow.Author.Tests.{eq-eqb, eqb-true, eqb-false}
use Rattle.word.specs.Rule.{rule_at}
use Rattle.table.specs.Limits.{dm_words}
use Rattle.table.specs.Table.{obeys_from, obeys}
use Rattle.table.specs.Good.{Obeys, Breaks}
use Rattle.word.proofs.Tests.{both_true, one-false, unless-true}
use Rattle.word.proofs.Zero.{or-none, xor-none}

-- a turn of the loop up to place n, which puts together the bits by which the words are off, and its end
module _ (dm : List ℕ) (t n : ℕ) where
  pub obeys-turn : (off : ℕ) → t < n
      → (eqb (bit_or off (bit_xor (get_or dm t 0) (rule_at dm t))) 0 && obeys_from dm (t + 1) (n - (t + 1))) ≡ (eqb off 0 && obeys_from dm t (n - t))
  unfolding obeys_from
  obeys-turn off h =
      let k : n - t ≡ suc (n - (t + 1)) = omega arith in
      rw (k, add-one t, or-none off (bit_xor (get_or dm t 0) (rule_at dm t)), xor-none (get_or dm t 0) (rule_at dm t))
      (and_assoc (eqb off 0) (eqb (get_or dm t 0) (rule_at dm t)) _)

  pub obeys-done : n ≤ t → obeys_from dm t (n - t) ≡ true
  unfolding obeys_from
  obeys-done h =
      let k : n - t ≡ 0 = omega arith in
      rw k

-- the test is passed exactly when each word is what the rule gives
obeys_from_lem : (dm : List ℕ) (n k : ℕ) → obeys_from dm k n ≡ true → (t : ℕ) → k ≤ t → t < k + n → get_or dm t 0 ≡ rule_at dm t
unfolding obeys_from
obeys_from_lem dm zero k o t h l = absurd (omega arith)
obeys_from_lem dm (suc n) k o t h l =
    let b = both_true (eqb (get_or dm k 0) (rule_at dm k)) _ o in
    ⊎_elim (λ e. rw (← e) (eqb-true _ _ b.0)) (λ g. obeys_from_lem dm n (suc k) b.1 t g (omega arith)) (eq-or-lt_of_le h)

from_all : (dm : List ℕ) (n k : ℕ) → ((t : ℕ) → k ≤ t → t < k + n → get_or dm t 0 ≡ rule_at dm t) → obeys_from dm k n ≡ true
unfolding obeys_from
from_all dm zero k h = refl
from_all dm (suc n) k h =
    rw (eq-eqb (get_or dm k 0) (rule_at dm k) (h k (omega arith) (omega arith)))
    (from_all dm n (suc k) (λ t g l. h t (omega arith) (omega arith)))

breaks-from : (dm : List ℕ) (n k : ℕ) → obeys_from dm k n ≡ false → (t : ℕ) × (k ≤ t) × (t < k + n) × (get_or dm t 0 ≡ rule_at dm t → ⊥)
unfolding obeys_from
breaks-from dm zero k o = absurd (true≢false o)
breaks-from dm (suc n) k o =
    ⊎_elim (λ e. (k, omega arith, omega arith, eqb-false (get_or dm k 0) (rule_at dm k) e))
    (λ e. let b = breaks-from dm n (suc k) e in (b.0, omega arith, omega arith, b.3))
    (one-false (eqb (get_or dm k 0) (rule_at dm k)) _ o)

module _ (dm : List ℕ) where
  pub rule-true : (obeys dm ≡ true) ↔ Obeys dm
  rule-true = (obeys_from_lem dm (dm_words - 16) 16, from_all dm (dm_words - 16) 16)

  pub rule-false : (obeys dm ≡ false) ↔ Breaks dm
  rule-false = (
    breaks-from dm (dm_words - 16) 16,
    λ b. unless-true (obeys dm) (λ o. b.3 (rule-true.0 o b.0 b.1 b.2)),
  )
