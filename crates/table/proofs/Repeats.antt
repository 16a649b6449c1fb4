-- Which places repeat an earlier one's number: as a fact, and by the numbers seen so far as bits of a word of any width. Assumes nothing.
use mathlib.Core.Path.{◌≡◌, refl, sym, ap, ap₂, ◌∙◌}
use mathlib.Core.Logic.{◌↔◌, ⊎_elim}
use mathlib.Core.Bool.{Bool, true, false, ◌||◌, or-true, or_comm, true≢false, false≢true}
use mathlib.Core.List.{List}
use Prim.Native.Nat.{ℕ, zero, suc, ◌+◌, ◌^◌, ◌<◌}
use native.Mathlib.Nat.{eq-or-lt_of_le}
use native.Mathlib.Numerals.{add-one}
use native.Mathlib.Omega.{arith}
use lib.Bits.{bit_or}
use lib.Dec.{eqb}
use borrow.Author.Tests.{eqb-true, eq-eqb}
use Rattle.std.specs.Prelude.{Err, Ok, is_ok}
use Rattle.word.specs.Choice.{pick}
use Rattle.word.proofs.Tests.{one-true, unless-true, of_either}
use Rattle.refusal.specs.Refusal.{Checked}
use Rattle.refusal.specs.declared.Refusal.TheVariants.{MaskRepeated}
use Rattle.table.specs.Bits.{has_bit}
use Rattle.table.specs.Table.{mask_number_at, among, repeat_fault}
use Rattle.table.specs.Good.{Repeats}
use Rattle.table.proofs.Bits.{no-bit, or-has, own-has}

module _ (number : ℕ → ℕ) where
  -- the test is true exactly when an earlier place has the number
  pub among-true : (k n : ℕ) → (among number k n ≡ true) ↔ ((j : ℕ) × (j < n) × (number j ≡ k))
  unfolding among
  among-true k zero = (λ e. absurd (false≢true e), λ f. absurd (omega arith))
  among-true k (suc n) = (
    λ e.
        ⊎_elim (λ h. (n, omega arith, eqb-true (number n) k h)) (λ h. let f = (among-true k n).0 h in (f.0, omega arith, f.2))
        (one-true (eqb (number n) k) _ e),
    λ f.
        ⊎_elim (λ (q : f.0 ≡ n). rw (eq-eqb (number n) k (ap number (sym q) ∙ f.2)))
        (λ (q : f.0 < n). rw ((among-true k n).1 (f.0, q, f.2), or-true (eqb (number n) k)))
        (eq-or-lt_of_le (omega arith)),
  )

  -- the numbers of the first n places, as bits
  unfoldable pub seen_of : ℕ → ℕ
  seen_of zero = 0
  seen_of (suc n) = bit_or (seen_of n) (2 ^ number n)

  pub seen_none : seen_of 0 ≡ 0
  unfolding seen_of
  seen_none = refl

  pub seen_more : (n : ℕ) → seen_of (n + 1) ≡ bit_or (seen_of n) (2 ^ number n)
  unfolding seen_of
  seen_more n = rw (add-one n)

  -- a bit is set exactly when one of them has its number
  pub seen-has : (k n : ℕ) → has_bit (seen_of n) k ≡ among number k n
  unfolding seen_of among
  seen-has k zero = ap (λ (x : ℕ). eqb x 1) (no-bit k)
  seen-has k (suc n) =
      or-has (seen_of n) (2 ^ number n) k ∙ ap₂ ◌||◌ (seen-has k n) (own-has (number n) k) ∙ or_comm (among number k n) (eqb (number n) k)

module _ (table : List ℕ) (i : ℕ) where
  -- a record that repeats is a fault with its place, and one that does not is none
  pub repeat_fault_lem : Repeats table i → repeat_fault table i ≡ Err (MaskRepeated i)
  unfolding repeat_fault
  repeat_fault_lem r = rw ((among-true (mask_number_at table) (mask_number_at table i) i).1 r)

  pub no-repeat : (Repeats table i → ⊥) → repeat_fault table i ≡ Ok tt
  unfolding repeat_fault
  no-repeat n =
      rw (unless-true (among (mask_number_at table) (mask_number_at table i) i) (λ e. n ((among-true (mask_number_at table) (mask_number_at table i) i).0 e)))

  -- what holds of both faults that it can have holds of its fault
  pub of-repeat : (P : Checked → Type 0) → P (Err (MaskRepeated i)) → P (Ok tt) → P (repeat_fault table i)
  unfolding repeat_fault
  of-repeat P p q = of_either P (among (mask_number_at table) (mask_number_at table i) i) (Err (MaskRepeated i)) (Ok tt) p q

  -- where there is a fault the record repeats
  pub repeat-is : is_ok (repeat_fault table i) ≡ false → Repeats table i
  unfolding repeat_fault
  repeat-is e = by (among (mask_number_at table) (mask_number_at table i) i) refl e
    where
      by : (b : Bool) → among (mask_number_at table) (mask_number_at table i) i ≡ b → is_ok (pick {A = Checked} b (Err (MaskRepeated i)) (Ok tt)) ≡ false → Repeats table i
      by true h e = (among-true (mask_number_at table) (mask_number_at table i) i).0 h
      by false h e = absurd (true≢false e)

  pub none-repeats : repeat_fault table i ≡ (Ok tt) → Repeats table i → ⊥
  none-repeats e r = true≢false (sym (ap is_ok e) ∙ ap is_ok (repeat_fault_lem r))
