-- What is wrong with a table of conditions: its length, else its first bad condition. Assumes nothing.
use mathlib.Core.Path.{◌≡◌, refl, sym, ap, ◌∙◌, subst}
use mathlib.Core.Logic.{◌⊎◌, ⊎_elim, ⊎_map, ◌↔◌}
use mathlib.Core.Bool.{Bool, true, false, true≢false}
use mathlib.Core.List.{List, [], ◌∷◌}
use Prim.Native.Nat.{ℕ, ◌*◌, ◌%◌, ◌≤◌, ◌<◌}
use native.Mathlib.Nat.{div-add-mod}
use native.Mathlib.Omega.{arith}
use lib.Dec.{ltb, leb, lit≤}
use lib.ListN.{length}
use borrow.Author.Tests.{lt-ltb, ltb-true, leb-true, eqb-true, leb-false, eqb-false}
use Rattle.std.specs.Prelude.{Err, Ok, is_ok}
use Rattle.word.specs.Choice.{pick}
use Rattle.refusal.proofs.First.{none-or-first, first-is, none_is}
use Rattle.refusal.specs.Refusal.{number_of, place_of, condition_numbers, one_of, Checked}
use Rattle.refusal.specs.declared.Refusal.TheVariants.{ConditionLength, Condition}
use Rattle.refusal.proofs.Chains.{nothing_is, passes}
use Rattle.word.proofs.Tests.{unless-true, unless-false, both_true, one-false}
use Rattle.conditions.specs.Limits.{condition_words, most_conditions, schedule_words, word_bits}
use Rattle.conditions.specs.Conditions.{conditions_in, first_word_at, first_bit_at, second_word_at, second_bit_at, wanted_at, fits_at, fault_at, first_bad, whole_conditions, condition_fault}
use Rattle.conditions.specs.Good.{BadLength, Fits, FirstBad, GoodConditions}

module _ (conditions : List ℕ) where
  pub length-fault : whole_conditions (length conditions) ≡ false → condition_fault conditions ≡ Err ConditionLength
  unfolding condition_fault
  length-fault w = rw w

  pub each-fault : whole_conditions (length conditions) ≡ true → condition_fault conditions ≡ first_bad conditions
  unfolding condition_fault
  each-fault w = rw w

-- the test of a condition is passed exactly when it is good
pub fits-true : (conditions : List ℕ) (k : ℕ) → (fits_at conditions k ≡ true) ↔ Fits conditions k
fits-true conditions k = (
  λ t.
      let a = both_true (ltb (first_word_at conditions k) schedule_words) _ t in
      let b = both_true (ltb (first_bit_at conditions k) word_bits) _ a.1 in
      let c = both_true (ltb (second_word_at conditions k) schedule_words) _ b.1 in
      let d = both_true (ltb (second_bit_at conditions k) word_bits) _ c.1 in
      record {
        first_word = ltb-true _ _ a.0;
        first_bit = ltb-true _ _ b.0;
        second_word = ltb-true _ _ c.0;
        second-bit = ltb-true _ _ d.0;
        wanted = ltb-true _ _ d.1;
      },
  λ f.
      rw (
        lt-ltb (first_word_at conditions k) schedule_words f.first_word,
        lt-ltb (first_bit_at conditions k) word_bits f.first_bit,
        lt-ltb (second_word_at conditions k) schedule_words f.second_word,
        lt-ltb (second_bit_at conditions k) word_bits f.second-bit,
        lt-ltb (wanted_at conditions k) 2 f.wanted,
      ),
)

pub fits-false : (conditions : List ℕ) (k : ℕ) → (fits_at conditions k ≡ false) ↔ (Fits conditions k → ⊥)
fits-false conditions k = (
  λ h f. true≢false (sym ((fits-true conditions k).1 f) ∙ h),
  λ h. unless-true (fits_at conditions k) (λ e. h ((fits-true conditions k).0 e)),
)

-- what the test says of a condition is its fault or none
module _ (conditions : List ℕ) (k : ℕ) where
  pub fault_by : (b : Bool) → fits_at conditions k ≡ b → fault_at conditions k ≡ pick {A = Checked} b (Ok tt) (Err (Condition k))
  unfolding fault_at
  fault_by b e = rw e

  no_fault : Fits conditions k → fault_at conditions k ≡ Ok tt
  no_fault f = fault_by true ((fits-true conditions k).1 f)

  bad_fault : (Fits conditions k → ⊥) → fault_at conditions k ≡ Err (Condition k)
  bad_fault b = fault_by false ((fits-false conditions k).1 b)

  fits_where : is_ok (fault_at conditions k) ≡ true → Fits conditions k
  fits_where h = by (fits_at conditions k) refl
    where
      by : (b : Bool) → fits_at conditions k ≡ b → Fits conditions k
      by true e = (fits-true conditions k).0 e
      by false e = absurd (true≢false (sym h ∙ ap is_ok (fault_by false e)))

pub whole_length : (n : ℕ) → whole_conditions n ≡ true → (n ≤ condition_words * most_conditions) × (n % condition_words ≡ 0)
whole_length n w =
    let g = both_true (leb n (condition_words * most_conditions)) _ w in
    (leb-true _ _ g.0, eqb-true _ _ g.1)

pub not-whole : (n : ℕ) → (whole_conditions n ≡ false) ↔ BadLength n
not-whole n = (
  λ w. ⊎_map (leb-false n (condition_words * most_conditions)) (eqb-false (n % condition_words) 0) (one-false (leb n _) _ w),
  λ b. unless-true (whole_conditions n) (λ w.
      let h = whole_length n w in
      ⊎_elim (λ l. omega arith) (λ m. m h.1) b),
)

whole-if : (n : ℕ) → (BadLength n → ⊥) → whole_conditions n ≡ true
whole-if n h = unless-false (whole_conditions n) (λ w. h ((not-whole n).0 w))

-- the same of the number of whole conditions and of the words behind them
pub whole-parts : (n : ℕ) → conditions_in n ≤ most_conditions → n % condition_words ≡ 0 → whole_conditions n ≡ true
whole-parts n m e = whole-if n (⊎_elim (λ (l : condition_words * most_conditions < n). omega arith) (λ b. b e))

-- too many, or words behind the last
pub parts_fault : (conditions : List ℕ) → (most_conditions < conditions_in (length conditions)) ⊎ (length conditions % condition_words ≡ 0 → ⊥) → condition_fault conditions ≡ Err ConditionLength
parts_fault conditions b = length-fault conditions (unless-true (whole_conditions (length conditions)) (λ w.
    let h = whole_length (length conditions) w in
    ⊎_elim (λ l. omega arith) (λ m. m h.1) b))

abbrev GoodBelow : List ℕ → ℕ → Type 0
GoodBelow conditions k = (j : ℕ) → j < k → Fits conditions j

-- there is a first bad condition before place k
abbrev BadBelow : List ℕ → ℕ → Type 0
BadBelow conditions k = (j : ℕ) × (j < k) × GoodBelow conditions j × (Fits conditions j → ⊥)

module _ (conditions : List ℕ) where
  good-or-bad : (k : ℕ) → GoodBelow conditions k ⊎ BadBelow conditions k
  good-or-bad k =
      ⊎_map (λ n j l. fits_where conditions j (ap is_ok (n j l)))
      (λ f. (f.0, f.1.0, (λ j l. fits_where conditions j (ap is_ok (f.1.1 j l))), λ g. true≢false (sym (ap is_ok (no_fault conditions f.0 g)) ∙ f.1.2)))
      (none-or-first (fault_at conditions) k)

  module _ (whole : whole_conditions (length conditions) ≡ true) where
    first_bad_lem : (k : ℕ) → k < conditions_in (length conditions) → GoodBelow conditions k → (Fits conditions k → ⊥) → condition_fault conditions ≡ Err (Condition k)
    first_bad_lem k h g b =
        let e = bad_fault conditions k b in
        each-fault conditions whole
        ∙ first-is (fault_at conditions) (conditions_in (length conditions)) k (h, (λ j l. no_fault conditions j (g j l)), ap is_ok e)
        ∙ e

    all-good : GoodBelow conditions (conditions_in (length conditions)) → condition_fault conditions ≡ Ok tt
    all-good g =
        each-fault conditions whole ∙ none_is (fault_at conditions) (conditions_in (length conditions)) (λ j l. no_fault conditions j (g j l))

-- what a table's fault may be, and why
data Why (conditions : List ℕ) : Checked → Type 0 where
  size : BadLength (length conditions) → Why conditions (Err ConditionLength)
  bad : (k : ℕ) → FirstBad conditions k → Why conditions (Err (Condition k))
  none : GoodConditions conditions → Why conditions (Ok tt)

module _ (conditions : List ℕ) where
  pub good-is : GoodConditions conditions → condition_fault conditions ≡ Ok tt
  good-is g = all-good conditions (whole-if _ (⊎_elim (λ (l : condition_words * most_conditions < length conditions). omega arith) (λ m. m (omega arith)))) g.each

  pub bad-is : (k : ℕ) → FirstBad conditions k → condition_fault conditions ≡ Err (Condition k)
  bad-is k f = first_bad_lem conditions (whole-if _ f.whole) k f.inside f.before f.bad

  why-by : (b : Bool) → whole_conditions (length conditions) ≡ b → Why conditions (condition_fault conditions)
  why-by false e = rw (length-fault conditions e) (size ((not-whole _).0 e))
  why-by true e =
      let w = whole_length (length conditions) e in
      let q = div-add-mod (length conditions) condition_words in
      ⊎_elim
      (λ (g : GoodBelow conditions (conditions_in (length conditions))). rw (all-good conditions e g) (none (record { whole = omega arith; most = omega arith; each = g })))
      (λ (b : BadBelow conditions (conditions_in (length conditions))).
      rw (first_bad_lem conditions e b.0 b.1 b.2 b.3)
      (bad b.0 (record { whole = λ x. true≢false (sym e ∙ (not-whole _).1 x); inside = b.1; before = b.2; bad = b.3 })))
      (good-or-bad conditions (conditions_in (length conditions)))

  why : (r : Checked) → condition_fault conditions ≡ r → Why conditions r
  why r e = subst (Why conditions) e (why-by _ refl)

module _ {conditions : List ℕ} where
  of_size : Why conditions (Err ConditionLength) → BadLength (length conditions)
  of_size (size h) = h

  of-bad : {k : ℕ} → Why conditions (Err (Condition k)) → FirstBad conditions k
  of-bad (bad k h) = h

  of_none : Why conditions (Ok tt) → GoodConditions conditions
  of_none (none h) = h

-- the three answers, exactly when
module _ (conditions : List ℕ) where
  -- nothing is wrong exactly when the table is good
  pub accepted : (condition_fault conditions ≡ (Ok tt)) ↔ GoodConditions conditions
  accepted = (λ e. of_none (why conditions (Ok tt) e), good-is conditions)

  -- 12 exactly when there are too many, or no whole number of them
  pub line-12 : (condition_fault conditions ≡ (Err ConditionLength)) ↔ BadLength (length conditions)
  line-12 = (λ e. of_size (why conditions (Err ConditionLength) e), λ b. length-fault conditions ((not-whole _).1 b))

  -- 13 with place k exactly when the first bad one stands there
  pub line-13 : (k : ℕ) → (condition_fault conditions ≡ (Err (Condition k))) ↔ FirstBad conditions k
  line-13 k = (λ e. of-bad (why conditions (Err (Condition k)) e), bad-is conditions k)

  -- what holds of each fault that a table can have holds of its own
  pub of-fault : (P : Checked → Type 0) → P (Ok tt) → P (Err ConditionLength) → ((k : ℕ) → P (Err (Condition k))) → P (condition_fault conditions)
  of-fault P o l b = by (why-by conditions _ refl)
    where
      by : {r : Checked} → Why conditions r → P r
      by (size h) = l
      by (bad k h) = b k
      by (none h) = o

  -- so its number is 0, 12 or 13
  pub fault-numbers : one_of (0 ∷ condition_numbers) (number_of (condition_fault conditions)) ≡ true
  fault-numbers = of-fault (λ r. one_of (0 ∷ condition_numbers) (number_of r) ≡ true) refl refl (λ k. refl)

  -- 0 exactly when the table is good
  pub conditions-0 : (number_of (condition_fault conditions) ≡ 0) ↔ GoodConditions conditions
  conditions-0 = (λ e. accepted.0 (nothing_is _ (passes (condition_fault conditions) e)), λ g. ap number_of (accepted.1 g))

  -- 12 exactly when the length is bad
  pub conditions-12 : (number_of (condition_fault conditions) ≡ 12) ↔ BadLength (length conditions)
  conditions-12 = (λ e. by (why-by conditions _ refl) e, λ b. ap number_of (line-12.1 b))
    where
      by : {r : Checked} → Why conditions r → number_of r ≡ 12 → BadLength (length conditions)
      by (size h) e = h
      by (bad k h) e = absurd (omega arith)
      by (none h) e = absurd (omega arith)

  -- 13 exactly when there is a first bad one, and its place is handed out
  pub conditions-13 : (number_of (condition_fault conditions) ≡ 13) ↔ FirstBad conditions (place_of (condition_fault conditions))
  conditions-13 = (λ e. by (why-by conditions _ refl) e, λ b. ap number_of ((line-13 _).1 b))
    where
      by : {r : Checked} → Why conditions r → number_of r ≡ 13 → FirstBad conditions (place_of r)
      by (size h) e = absurd (omega arith)
      by (bad k h) e = h
      by (none h) e = absurd (omega arith)

-- no conditions are good ones
pub none-good : GoodConditions []
none-good = record { whole = refl; most = lit≤ tt; each = λ k h. absurd (omega arith) }
