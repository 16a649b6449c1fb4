-- How many places are counted: of places with numbers that are all different, no more have a number of some kind than there are such numbers
-- below the width. Assumes nothing.
use mathlib.Core.Path.{◌≡◌, refl, sym, ap, ◌∙◌}
use mathlib.Core.Bool.{Bool, true, false, ◌&&◌, and-false, and-true}
use mathlib.Core.Logic.{⊎_elim}
use Prim.Native.Nat.{ℕ, zero, suc, ◌+◌, ◌≤◌, ◌<◌}
use native.Mathlib.Nat.{eq-or-lt_of_le, add-zero}
use native.Mathlib.Omega.{arith}
use borrow.Author.Tests.{eq-eqb, ne_eqb}
use Rattle.word.specs.Choice.{pick}
use Rattle.word.proofs.Tests.{unless-true, both_true}
use Rattle.table.specs.Table.{among}
use Rattle.table.proofs.Repeats.{among-true}
use Rattle.search.specs.Search.{count_of}

one_at_most : (b : Bool) → pick b 1 0 ≤ 1
one_at_most true = omega arith
one_at_most false = omega arith

-- more places count no less
pub count-grows : (p : ℕ → Bool) (m n : ℕ) → m ≤ n → count_of p m ≤ count_of p n
unfolding count_of
count-grows p m zero h = rw (at_zero m h) (omega arith)
  where
    at_zero : (m : ℕ) → m ≤ 0 → m ≡ 0
    at_zero m h = omega arith
count-grows p m (suc n) h = ⊎_elim (λ (e : m ≡ suc n). rw e (omega arith)) (λ (l : m < suc n). omega (arith, count-grows p m n (omega arith))) (eq-or-lt_of_le h)

-- a test that is true wherever another is counts no less
pub count-wider : (p q : ℕ → Bool) (n : ℕ) → ((j : ℕ) → j < n → p j ≡ true → q j ≡ true) → count_of p n ≤ count_of q n
unfolding count_of
count-wider p q zero h = omega arith
count-wider p q (suc n) h = omega (arith, count-wider p q n (λ j l. h j (omega arith)), by (p n) (h n (omega arith)))
  where
    by : (b : Bool) → (b ≡ true → q n ≡ true) → pick b 1 0 ≤ pick (q n) 1 0
    by true e = rw (e refl) (omega arith)
    by false e = omega arith

-- one number more counts one more where it counts
module _ (p q : ℕ → Bool) (k : ℕ) (new : p k ≡ false) (other : (j : ℕ) → (j ≡ k → ⊥) → q j ≡ p j) where
  before : (n : ℕ) → n ≤ k → count_of q n ≡ count_of p n
  unfolding count_of
  before zero h = refl
  before (suc n) h = rw (before n (omega arith), other n (λ e. omega arith))

  pub one_more : (n : ℕ) → k < n → count_of q n ≡ count_of p n + pick (q k) 1 0
  unfolding count_of
  one_more zero h = absurd (omega arith)
  one_more (suc n) h =
      ⊎_elim
      (λ (e : k ≡ n). rw (← e, new, before k (omega arith), add-zero (count_of p k)))
      (λ (l : k < n). rw (one_more n l, other n (λ e. omega arith)) (omega arith))
      (eq-or-lt_of_le (omega arith))

-- Of n places whose numbers are below the width and all different, those whose number is of some kind are no more than the numbers of that kind.
module _ (number : ℕ → ℕ) (kind : ℕ → Bool) (width : ℕ) where
  -- the numbers of the kind that one of the first n places has
  abbrev held : ℕ → ℕ → Bool
  held n b = kind b && among number b n

  same-elsewhere : (n b : ℕ) → (b ≡ number n → ⊥) → held (suc n) b ≡ held n b
  unfolding among
  same-elsewhere n b h = rw (ne_eqb (number n) b (λ e. h (sym e)))

  pub held-count : (n : ℕ) → ((i : ℕ) → i < n → number i < width) → ((i : ℕ) → i < n → (j : ℕ) × (j < i) × (number j ≡ number i) → ⊥)
      → count_of (λ i. kind (number i)) n ≡ count_of (held n) width
  unfolding count_of among
  held-count zero inside different = sym (none width)
    where
      none : (w : ℕ) → count_of (held 0) w ≡ 0
      none zero = refl
      none (suc w) = rw (none w, and-false (kind w))
  held-count (suc n) inside different =
      let k = number n in
      let fresh : among number k n ≡ false = unless-true (among number k n) (λ e. different n (omega arith) ((among-true number k n).0 e)) in
      let absent : held n k ≡ false = rw (fresh, and-false (kind k)) in
      rw (held-count n (λ i l. inside i (omega arith)) (λ i l. different i (omega arith)))
      (sym (one_more (held n) (held (suc n)) k absent (same-elsewhere n) width (inside n (omega arith)) ∙ ap (λ (b : Bool). count_of (held n) width + pick b 1 0) (own n)))
    where
      own : (n : ℕ) → held (suc n) (number n) ≡ kind (number n)
      own n = rw (eq-eqb (number n) (number n) refl) (and-true (kind (number n)))

  pub count_most : (n : ℕ) → ((i : ℕ) → i < n → number i < width) → ((i : ℕ) → i < n → (j : ℕ) × (j < i) × (number j ≡ number i) → ⊥)
      → count_of (λ i. kind (number i)) n ≤ count_of kind width
  count_most n inside different =
      rw (held-count n inside different) (count-wider (held n) kind width (λ j l e. (both_true (kind j) _ e).0))
