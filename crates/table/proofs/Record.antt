-- What is wrong with a record, and exactly when. Assumes nothing.
use mathlib.Core.Path.{◌≡◌, refl, sym, ap, ◌∙◌, subst}
use mathlib.Core.Logic.{⊎_elim, ⊎_map, ◌↔◌}
use mathlib.Core.Bool.{Bool, true, false, not, ◌||◌, or-true, true≢false}
use mathlib.Core.List.{List}
use Prim.Native.Nat.{ℕ, ◌+◌, ◌*◌, ◌<◌}
use native.Mathlib.Omega.{arith}
use lib.Dec.{ltb, eqb}
use lib.ListN.{get_or, take, drop}
use Rattle.std.proofs.lemmas.List.{get_or-take, get_or-drop, drop-drop, take-take}
use Rattle.std.proofs.lemmas.Slice.{between_is}
use borrow.Author.Rules.{rules}
use borrow.Author.Tests.{lt-ltb, le-ltb, eq-eqb, ltb-true, ltb-false, eqb-true}
use Rattle.std.specs.Prelude.{Result, Err, Ok, is_ok}
use Rattle.std.specs.Result.{is_err}
use Rattle.word.specs.Choice.{pick}
use Rattle.refusal.specs.Refusal.{number_of, place_of, Checked}
use Rattle.refusal.specs.declared.Refusal.TheVariants.{MaskNumber, TestStep, DmRule}
use Rattle.table.specs.Limits.{dm_words, record_words, mask_bits}
use Rattle.table.specs.declared.Testt.{Testt}
use Rattle.table.specs.declared.Testt.TheVariants.{T58, T65}
use Rattle.table.specs.declared.UnknownStep.{UnknownStep}
use Rattle.table.specs.Table.{step_named, record_at, mask_number_at, test_word_at, dm_at, obeys, fault_of, record_fault}
use Rattle.table.specs.Good.{Known, BadMask, BadStep, BadRule, GoodRecord}
use Rattle.word.proofs.Tests.{unless-true, one-true, of_either}
use Rattle.table.proofs.Rule.{rule-true, rule-false}

-- the test whether x is one of the two test steps
abbrev pub known : ℕ → Bool
known x = eqb x 58 || eqb x 65

pub known-true : (x : ℕ) → (known x ≡ true) ↔ Known x
known-true x = (
  λ h. ⊎_map (eqb-true x 58) (eqb-true x 65) (one-true (eqb x 58) (eqb x 65) h),
  ⊎_elim (λ e. rw (eq-eqb x 58 e)) (λ e. rw (eq-eqb x 65 e, or-true (eqb x 58))),
)

pub known-false : (x : ℕ) → (known x ≡ false) ↔ (Known x → ⊥)
known-false x =
    (λ h k. true≢false (sym ((known-true x).1 k) ∙ h), λ h. unless-true (known x) (λ e. h ((known-true x).0 e)))

-- a word names a test step exactly when it is one of the two
pub named_is : (x : ℕ) → is_err (step_named x) ≡ not (known x)
named_is x = by (eqb x 58) (eqb x 65)
  where
    by : (a b : Bool) → is_err (pick {A = Result Testt UnknownStep} a (Ok T58) (pick b (Ok T65) (Err (record { 0 = x })))) ≡ not (a || b)
    by true b = refl
    by false true = refl
    by false false = refl

module _ (table : List ℕ) (i : ℕ) where
  pub mask-fault : BadMask table i → record_fault table i ≡ Err (MaskNumber i)
  unfolding record_fault
  mask-fault m = rw (le-ltb (mask_number_at table i) mask_bits m)

  pub step-fault : BadStep table i → record_fault table i ≡ Err (TestStep i)
  unfolding record_fault
  step-fault (m, s) = rw (lt-ltb (mask_number_at table i) mask_bits m, (known-false (test_word_at table i)).1 s)

  pub rule-fault : BadRule table i → record_fault table i ≡ Err (DmRule i)
  unfolding record_fault
  rule-fault (m, s, r) =
      rw (lt-ltb (mask_number_at table i) mask_bits m, (known-true (test_word_at table i)).1 s, (rule-false (dm_at table i)).1 r)

  pub no-fault : GoodRecord table i → record_fault table i ≡ Ok tt
  unfolding record_fault
  no-fault g =
      rw (lt-ltb (mask_number_at table i) mask_bits g.mask, (known-true (test_word_at table i)).1 g.known, (rule-true (dm_at table i)).1 g.rule)

  -- what holds of each fault that a record can have holds of its fault
  pub of-each : (P : Checked → Type 0) → P (Err (MaskNumber i)) → P (Err (TestStep i)) → P (Err (DmRule i)) → P (Ok tt) → P (record_fault table i)
  unfolding record_fault
  of-each P p q r s =
      of_either P (not (ltb (mask_number_at table i) mask_bits)) (Err (MaskNumber i)) _ p
      (of_either P (not (known (test_word_at table i))) (Err (TestStep i)) _ q
      (of_either P (not (obeys (dm_at table i))) (Err (DmRule i)) (Ok tt) r s))

  -- a bad record's fault names its place
  pub place_is : is_ok (record_fault table i) ≡ false → place_of (record_fault table i) ≡ i
  place_is =
      of-each (λ r. is_ok r ≡ false → place_of r ≡ i) (λ b. refl) (λ b. refl) (λ b. refl) (λ b. absurd (true≢false b))

  -- the words of the record that the code takes of the table
  pub word_taken : (j : ℕ) → j < record_words → get_or (record_at table i) j 0 ≡ get_or table (record_words * i + j) 0
  word_taken j h = get_or-take record_words (drop (record_words * i) table) j 0 h ∙ get_or-drop (record_words * i) table j 0

  pub number_taken : get_or (record_at table i) 0 0 ≡ mask_number_at table i
  number_taken =
      let e : record_words * i + 0 ≡ record_words * i = omega arith in
      word_taken 0 (omega arith) ∙ ap (λ (j : ℕ). get_or table j 0) e

  -- the difference words
  pub dm_taken : take dm_words (drop 2 (record_at table i)) ≡ dm_at table i
  dm_taken =
      let rest = drop (record_words * i) table in
      let a : drop 2 (take record_words rest) ≡ take dm_words (drop 2 rest) = sym (between_is rest 2 record_words) in
      let b : take dm_words (take dm_words (drop 2 rest)) ≡ take dm_words (drop 2 rest) = search (rules, take-take) in
      ap (take dm_words) a ∙ b ∙ ap (take dm_words) (drop-drop 2 (record_words * i) table)

  -- and so its fault are those of record i
  pub fault_taken : fault_of (get_or (record_at table i) 0 0) (get_or (record_at table i) 1 0) (take dm_words (drop 2 (record_at table i))) i ≡ record_fault table i
  unfolding record_fault
  fault_taken =
      let w = word_taken 1 (omega arith) in
      rw (number_taken, w, dm_taken)

-- why the fault of record i has its number
data Why (table : List ℕ) (i : ℕ) : ℕ → Type 0 where
  mask : BadMask table i → Why table i 3
  step : BadStep table i → Why table i 4
  rule : BadRule table i → Why table i 5
  none : GoodRecord table i → Why table i 0

module _ {table : List ℕ} {i : ℕ} where
  of-3 : Why table i 3 → BadMask table i
  of-3 (mask h) = h

  of-4 : Why table i 4 → BadStep table i
  of-4 (step h) = h

  of-5 : Why table i 5 → BadRule table i
  of-5 (rule h) = h

  of-0 : Why table i 0 → GoodRecord table i
  of-0 (none h) = h

module _ (table : List ℕ) (i : ℕ) where
  why-by : (m s r : Bool) → ltb (mask_number_at table i) mask_bits ≡ m → known (test_word_at table i) ≡ s → obeys (dm_at table i) ≡ r
      → Why table i (number_of (record_fault table i))
  why-by false s r em es er =
      let h = ltb-false (mask_number_at table i) mask_bits em in
      rw (mask-fault table i h) (mask h)
  why-by true false r em es er =
      let h : BadStep table i = (ltb-true _ _ em, (known-false _).0 es) in
      rw (step-fault table i h) (step h)
  why-by true true false em es er =
      let h : BadRule table i = (ltb-true _ _ em, (known-true _).0 es, (rule-false _).0 er) in
      rw (rule-fault table i h) (rule h)
  why-by true true true em es er =
      let h : GoodRecord table i = record { mask = ltb-true _ _ em; known = (known-true _).0 es; rule = (rule-true _).0 er } in
      rw (no-fault table i h) (none h)

  why : (n : ℕ) → number_of (record_fault table i) ≡ n → Why table i n
  why n e = subst (Why table i) e (why-by _ _ _ refl refl refl)

  -- the number of the fault, exactly when
  pub is-3 : (number_of (record_fault table i) ≡ 3) ↔ BadMask table i
  is-3 = (λ e. of-3 (why 3 e), λ h. ap number_of (mask-fault table i h))

  pub is-4 : (number_of (record_fault table i) ≡ 4) ↔ BadStep table i
  is-4 = (λ e. of-4 (why 4 e), λ h. ap number_of (step-fault table i h))

  pub is-5 : (number_of (record_fault table i) ≡ 5) ↔ BadRule table i
  is-5 = (λ e. of-5 (why 5 e), λ h. ap number_of (rule-fault table i h))

  pub is-0 : (number_of (record_fault table i) ≡ 0) ↔ GoodRecord table i
  is-0 = (λ e. of-0 (why 0 e), λ h. ap number_of (no-fault table i h))
