-- The first fault in a row of places: which it is, and where there is none. Assumes nothing.
use mathlib.Core.Path.{◌≡◌, refl, sym, ap, ◌∙◌}
use mathlib.Core.Logic.{◌⊎◌, inl, inr, ⊎_elim}
use mathlib.Core.Bool.{Bool, true, false, true≢false}
use Prim.Native.Nat.{ℕ, zero, suc, ◌+◌, ◌-◌, ◌≤◌, ◌<◌}
use native.Mathlib.Nat.{sub-zero, eq-or-lt_of_le}
use native.Mathlib.Numerals.{add-one}
use native.Mathlib.Omega.{arith}
use Rattle.std.specs.Prelude.{Ok, is_ok}
use Rattle.word.proofs.Tests.{of_either}
use Rattle.refusal.specs.Refusal.{first_from, Checked}
use Rattle.refusal.proofs.Chains.{nothing_is}

module _ (fault : ℕ → Checked) where
  -- the turns of a loop up to place n
  module _ (i n : ℕ) where
    pub first-here : i < n → is_ok (fault i) ≡ false → first_from fault i (n - i) ≡ fault i
    unfolding first_from
    first-here h b =
        let k : n - i ≡ suc (n - (i + 1)) = omega arith in
        rw (k, b)

    pub first_more : i < n → is_ok (fault i) ≡ true → first_from fault i (n - i) ≡ first_from fault (i + 1) (n - (i + 1))
    unfolding first_from
    first_more h g =
        let k : n - i ≡ suc (n - (i + 1)) = omega arith in
        rw (k, add-one i, g)

    pub first_done : n ≤ i → first_from fault i (n - i) ≡ Ok tt
    unfolding first_from
    first_done h =
        let k : n - i ≡ 0 = omega arith in
        rw k

  -- what holds of nothing and of each place's fault holds of the first
  pub of-first : (P : Checked → Type 0) → P (Ok tt) → ((i : ℕ) → P (fault i)) → (n i : ℕ) → P (first_from fault i n)
  unfolding first_from
  of-first P o f zero i = o
  of-first P o f (suc n) i = of_either P (is_ok (fault i)) _ _ (of-first P o f n (suc i)) (f i)

  -- no place below k has a fault
  abbrev pub NoneBelow : ℕ → Type 0
  NoneBelow k = (j : ℕ) → j < k → fault j ≡ Ok tt

  -- place i is the first below n that has one
  abbrev pub FirstBelow : ℕ → ℕ → Type 0
  FirstBelow n i = (i < n) × NoneBelow i × (is_ok (fault i) ≡ false)

  one_more : (k : ℕ) → NoneBelow k → (b : Bool) → is_ok (fault k) ≡ b → NoneBelow (suc k) ⊎ ((i : ℕ) × FirstBelow (suc k) i)
  one_more k g true e = inl (λ j l. ⊎_elim (λ (q : j ≡ k). rw q (nothing_is _ e)) (g j) (eq-or-lt_of_le (omega arith)))
  one_more k g false e = inr (k, (omega arith, g, e))

  -- none has a fault, or one is the first
  pub none-or-first : (k : ℕ) → NoneBelow k ⊎ ((i : ℕ) × FirstBelow k i)
  none-or-first zero = inl (λ j l. absurd (omega arith))
  none-or-first (suc k) = ⊎_elim (λ g. one_more k g _ refl) (λ b. inr (b.0, (omega (arith, b.1.0), b.1.1, b.1.2))) (none-or-first k)

  module _ (n : ℕ) where
    passed : (i : ℕ) → i ≤ n → NoneBelow i → first_from fault 0 n ≡ first_from fault i (n - i)
    passed zero h g = rw (sub-zero n)
    passed (suc i) h g =
        passed i (omega arith) (λ j l. g j (omega arith)) ∙ first_more i n h (ap is_ok (g i (omega arith))) ∙ rw (add-one i)

    -- the first place that has a fault decides
    pub first-is : (i : ℕ) → FirstBelow n i → first_from fault 0 n ≡ fault i
    first-is i f = passed i (omega (arith, f.0)) f.1 ∙ first-here i n f.0 f.2

    -- there is none exactly where no place has one
    pub none_is : NoneBelow n → first_from fault 0 n ≡ Ok tt
    none_is g = passed n (omega arith) g ∙ first_done n n (omega arith)

    pub is_none : is_ok (first_from fault 0 n) ≡ true → NoneBelow n
    is_none e =
        ⊎_elim (λ g. g) (λ b. absurd (true≢false (sym e ∙ (ap is_ok (first-is b.0 b.1) ∙ b.1.2)))) (none-or-first n)
