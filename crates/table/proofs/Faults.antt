-- What is wrong with a table: its length, else its first bad record, else the first that repeats. Assumes nothing.
use mathlib.Core.Path.{◌≡◌, refl, ap, ◌∙◌}
use mathlib.Core.Logic.{◌⊎◌, ⊎_elim, ⊎_map, ◌↔◌}
use mathlib.Core.Bool.{true, false, not}
use mathlib.Core.List.{List, ◌∷◌}
use Prim.Native.Nat.{ℕ, ◌*◌, ◌%◌, ◌≤◌, ◌<◌}
use native.Mathlib.Omega.{arith}
use lib.Dec.{ltb, leb}
use lib.ListN.{length}
use borrow.Author.Tests.{ltb-true, leb-true, eqb-true, ltb-false, leb-false, eqb-false}
use Rattle.std.specs.Prelude.{Err, Ok, is_ok}
use Rattle.refusal.specs.Refusal.{number_of, table_numbers, one_of, Checked}
use Rattle.refusal.specs.declared.Refusal.TheVariants.{TableLength, MaskNumber, TestStep, DmRule, MaskRepeated}
use Rattle.refusal.proofs.First.{of-first, NoneBelow, none-or-first, first-is, none_is, is_none}
use Rattle.table.specs.Limits.{record_words, most_records}
use Rattle.table.specs.Table.{records_in, record_fault, repeat_fault, first_bad, first_repeat, whole_records, table_fault}
use Rattle.table.specs.Good.{BadLength, GoodBelow, Repeats, DifferentBelow}
use Rattle.word.proofs.Tests.{unless-true, unless-false, both_true, one-false, of_either}
use Rattle.table.proofs.Record.{of-each, is-0, no-fault}
use Rattle.table.proofs.Repeats.{repeat_fault_lem, no-repeat, of-repeat, repeat-is, none-repeats}

pub whole_length : (n : ℕ) → whole_records n ≡ true → (0 < n) × (n ≤ record_words * most_records) × (n % record_words ≡ 0)
whole_length n w =
    let h = both_true (ltb 0 n) _ w in
    let g = both_true (leb n (record_words * most_records)) _ h.1 in
    (ltb-true _ _ h.0, leb-true _ _ g.0, eqb-true _ _ g.1)

pub not-whole : (n : ℕ) → (whole_records n ≡ false) ↔ BadLength n
not-whole n = (
  λ w. ⊎_map (λ e. omega (arith, ltb-false 0 n e))
      (λ v. ⊎_map (leb-false n (record_words * most_records)) (eqb-false (n % record_words) 0) (one-false (leb n _) _ v))
      (one-false (ltb 0 n) _ w),
  λ b. unless-true (whole_records n) (λ w.
      let h = whole_length n w in
      ⊎_elim (λ e. omega arith) (⊎_elim (λ l. omega arith) (λ m. m h.2)) b),
)

-- the same of the number of whole records and of the words behind them
pub whole-parts : (n : ℕ) → 0 < records_in n → records_in n ≤ most_records → n % record_words ≡ 0 → whole_records n ≡ true
whole-parts n a b e = unless-false (whole_records n) (λ w.
    ⊎_elim (λ z. omega arith) (⊎_elim (λ (l : record_words * most_records < n). omega arith) (λ m. m e)) ((not-whole n).0 w))

pub whole_has : (n : ℕ) → whole_records n ≡ true → (0 < records_in n) × (records_in n ≤ most_records) × (n % record_words ≡ 0)
whole_has n w =
    let h = whole_length n w in
    (omega arith, omega arith, h.2)

module _ (table : List ℕ) where
  pub length-fault : whole_records (length table) ≡ false → table_fault table ≡ Err TableLength
  unfolding table_fault
  length-fault w = rw w

  -- no record, too many, or words behind the last
  pub parts_fault : (records_in (length table) ≡ 0) ⊎ ((most_records < records_in (length table)) ⊎ (length table % record_words ≡ 0 → ⊥)) → table_fault table ≡ Err TableLength
  parts_fault b = length-fault (unless-true (whole_records (length table)) (λ w.
      let h = whole_has (length table) w in
      ⊎_elim (λ z. omega arith) (⊎_elim (λ l. omega arith) (λ m. m h.2)) b))

  -- a bad record comes first, and the repeats only where there is none
  pub bad-fault : whole_records (length table) ≡ true → is_ok (first_bad table) ≡ false → table_fault table ≡ first_bad table
  unfolding table_fault
  bad-fault w b = rw (w, b)

  pub repeat-given : whole_records (length table) ≡ true → is_ok (first_bad table) ≡ true → table_fault table ≡ first_repeat table
  unfolding table_fault
  repeat-given w g = rw (w, g)

  -- what holds of each fault that a record can have holds of the first bad one's
  pub of-bad : (P : Checked → Type 0) → P (Ok tt) → ((k : ℕ) → P (Err (MaskNumber k))) → ((k : ℕ) → P (Err (TestStep k))) → ((k : ℕ) → P (Err (DmRule k))) → P (first_bad table)
  of-bad P o m t d = of-first (record_fault table) P o (λ i. of-each table i P (m i) (t i) (d i) o) (records_in (length table)) 0

  -- of the first that repeats likewise
  pub of-repeated : (P : Checked → Type 0) → P (Ok tt) → ((k : ℕ) → P (Err (MaskRepeated k))) → P (first_repeat table)
  of-repeated P o r = of-first (repeat_fault table) P o (λ i. of-repeat table i P (r i) o) (records_in (length table)) 0

  -- and with the length, of the table's fault
  pub of-fault : (P : Checked → Type 0) → P (Ok tt) → P (Err TableLength) → ((k : ℕ) → P (Err (MaskNumber k))) → ((k : ℕ) → P (Err (TestStep k)))
      → ((k : ℕ) → P (Err (DmRule k))) → ((k : ℕ) → P (Err (MaskRepeated k))) → P (table_fault table)
  unfolding table_fault
  of-fault P o l m t d r =
      of_either P (not (whole_records (length table))) _ _ l
      (of_either P (is_ok (first_bad table)) _ _ (of-repeated P o r) (of-bad P o m t d))

  -- so its number is 0 or one that a table can give
  pub fault-numbers : one_of (0 ∷ table_numbers) (number_of (table_fault table)) ≡ true
  fault-numbers = of-fault (λ r. one_of (0 ∷ table_numbers) (number_of r) ≡ true) refl refl (λ k. refl) (λ k. refl) (λ k. refl) (λ k. refl)

  not-2 : whole_records (length table) ≡ true → number_of (table_fault table) ≡ 2 → ⊥
  unfolding table_fault
  not-2 w =
      let P : Checked → Type 0 = λ r. number_of r ≡ 2 → ⊥ in
      rw w
      (of_either P (is_ok (first_bad table)) _ _ (of-repeated P (λ z. omega arith) (λ k z. omega arith))
      (of-bad P (λ z. omega arith) (λ k z. omega arith) (λ k z. omega arith) (λ k z. omega arith)))

  -- the length is what is wrong exactly when it is 0, above the most, or no whole number of records
  pub is-2 : (number_of (table_fault table) ≡ 2) ↔ BadLength (length table)
  is-2 = (
    λ e. (not-whole (length table)).0 (unless-true _ (λ w. not-2 w e)),
    λ b. ap number_of (length-fault ((not-whole (length table)).1 b)),
  )

  -- the records before place k have no fault exactly when they are good
  none-good : (k : ℕ) → NoneBelow (record_fault table) k → GoodBelow table k
  none-good k n j l = (is-0 table j).0 (ap number_of (n j l))

  good_none : (k : ℕ) → GoodBelow table k → NoneBelow (record_fault table) k
  good_none k g j l = no-fault table j (g j l)

  -- where no bad record is found each is good
  pub records-good : is_ok (first_bad table) ≡ true → GoodBelow table (records_in (length table))
  records-good e = none-good _ (is_none (record_fault table) (records_in (length table)) e)

  -- they repeat no number exactly when their numbers are all different
  none-different : (k : ℕ) → NoneBelow (repeat_fault table) k → DifferentBelow table k
  none-different k n i l = none-repeats table i (n i l)

  different-none : (k : ℕ) → DifferentBelow table k → NoneBelow (repeat_fault table) k
  different-none k d i l = no-repeat table i (d i l)

-- there is a first bad record before place k
abbrev pub BadBelow : List ℕ → ℕ → Type 0
BadBelow table k = (i : ℕ) × (i < k) × GoodBelow table i × (is_ok (record_fault table i) ≡ false)

-- there is a first record before place k that repeats
abbrev pub RepeatBelow : List ℕ → ℕ → Type 0
RepeatBelow table k = (i : ℕ) × (i < k) × DifferentBelow table i × Repeats table i

module _ (table : List ℕ) where
  pub good-or-bad : (k : ℕ) → GoodBelow table k ⊎ BadBelow table k
  good-or-bad k =
      ⊎_map (none-good table k) (λ f. (f.0, f.1.0, none-good table f.0 f.1.1, f.1.2)) (none-or-first (record_fault table) k)

  pub different-or-repeat : (k : ℕ) → DifferentBelow table k ⊎ RepeatBelow table k
  different-or-repeat k =
      ⊎_map (none-different table k) (λ f. (f.0, f.1.0, none-different table f.0 f.1.1, repeat-is table f.0 f.1.2))
      (none-or-first (repeat_fault table) k)

module _ (table : List ℕ) (whole : whole_records (length table) ≡ true) where
  -- the first bad record in table order decides
  pub first_bad_lem : (i : ℕ) → i < records_in (length table) → GoodBelow table i → is_ok (record_fault table i) ≡ false
      → table_fault table ≡ record_fault table i
  first_bad_lem i h g b =
      let e = first-is (record_fault table) (records_in (length table)) i (h, good_none table i g, b) in
      bad-fault table whole (ap is_ok e ∙ b) ∙ e

  module _ (good : GoodBelow table (records_in (length table))) where
    pub repeats-left : table_fault table ≡ first_repeat table
    repeats-left =
        repeat-given table whole (ap is_ok (none_is (record_fault table) (records_in (length table)) (good_none table _ good)))

    -- else the first that repeats
    pub first_repeat_lem : (i : ℕ) → i < records_in (length table) → DifferentBelow table i → Repeats table i → table_fault table ≡ Err (MaskRepeated i)
    first_repeat_lem i h d r =
        let e = repeat_fault_lem table i r in
        repeats-left
        ∙ first-is (repeat_fault table) (records_in (length table)) i (h, different-none table i d, ap is_ok e)
        ∙ e

    pub all-good : DifferentBelow table (records_in (length table)) → table_fault table ≡ Ok tt
    all-good d = repeats-left ∙ none_is (repeat_fault table) (records_in (length table)) (different-none table _ d)
