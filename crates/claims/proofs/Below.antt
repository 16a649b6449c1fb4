-- A test of the numbers below n: none holds, or one does. Assumes nothing.
use mathlib.Core.Path.{◌≡◌, refl, sym}
use mathlib.Core.Bool.{Bool, true, false, ◌||◌, true≢false, or-true}
use mathlib.Core.Logic.{⊎_elim, ◌↔◌}
use Prim.Native.Nat.{ℕ, zero, suc, ◌<◌}
use native.Mathlib.Nat.{eq-or-lt_of_le}
use native.Mathlib.Omega.{arith}
use Rattle.word.proofs.Tests.{one-true}

-- whether a test holds of a number below n
unfoldable pub any_below : (ℕ → Bool) → ℕ → Bool
any_below test zero = false
any_below test (suc n) = any_below test n || test n

neither : (a b : Bool) → (a || b) ≡ false → (a ≡ false) × (b ≡ false)
neither false b e = (refl, e)
neither true b e = absurd (true≢false e)

module _ (test : ℕ → Bool) where
  fails : (n : ℕ) → any_below test n ≡ false → (i : ℕ) → i < n → test i ≡ false
  unfolding any_below
  fails zero e i l = absurd (omega arith)
  fails (suc n) e i l =
      let b = neither (any_below test n) (test n) e in
      ⊎_elim (λ (m : i ≡ n). rw m b.1) (λ (m : i < n). fails n b.0 i m) (eq-or-lt_of_le (omega arith))

  none : (n : ℕ) → ((i : ℕ) → i < n → test i ≡ false) → any_below test n ≡ false
  unfolding any_below
  none zero h = refl
  none (suc n) h = rw (none n (λ i l. h i (omega arith)), h n (omega arith))

  holds : (n : ℕ) → any_below test n ≡ true → (i : ℕ) × (i < n) × (test i ≡ true)
  unfolding any_below
  holds zero e = absurd (true≢false (sym e))
  holds (suc n) e =
      ⊎_elim (λ a. let w = holds n a in (w.0, omega arith, w.2)) (λ b. (n, omega arith, b)) (one-true (any_below test n) (test n) e)

  some : (n i : ℕ) → i < n → test i ≡ true → any_below test n ≡ true
  unfolding any_below
  some zero i l e = absurd (omega arith)
  some (suc n) i l e =
      ⊎_elim
      (λ (m : i ≡ n). rw (← m, e) (or-true (any_below test i)))
      (λ (m : i < n). rw (some n i m e))
      (eq-or-lt_of_le (omega arith))

  pub none_below : (n : ℕ) → (any_below test n ≡ false) ↔ ((i : ℕ) → i < n → test i ≡ false)
  none_below n = (fails n, none n)

  pub some_below : (n : ℕ) → (any_below test n ≡ true) ↔ ((i : ℕ) × (i < n) × (test i ≡ true))
  some_below n = (holds n, λ w. some n w.0 w.1 w.2)
