-- The numbers 3, 4 and 5 for a whole table: the first bad record decides, and its place is given. The number 11: where
-- no record is bad the first that repeats an earlier one's mask number does. Assumes nothing.
use mathlib.Core.Path.{◌≡◌, sym, ap, ◌∙◌, subst}
use mathlib.Core.Logic.{⊎_elim, ◌↔◌}
use mathlib.Core.Bool.{true, false}
use mathlib.Core.List.{List}
use Prim.Native.Nat.{ℕ, ◌<◌}
use native.Mathlib.Omega.{arith}
use lib.ListN.{length}
use Rattle.std.specs.Prelude.{is_ok}
use Rattle.refusal.specs.Refusal.{number_of, place_of}
use Rattle.refusal.proofs.Chains.{numbered}
use Rattle.table.specs.Table.{records_in, record_fault, whole_records, table_fault}
use Rattle.table.specs.Good.{BadLength, BadMask, BadStep, BadRule, FirstBad, GoodBelow, TwoAlike, FirstRepeat}
use Rattle.word.proofs.Tests.{unless-false}
use Rattle.table.proofs.Record.{of-each, is-3, is-4, is-5, place_is}
use Rattle.table.proofs.Faults.{BadBelow, RepeatBelow, not-whole, of-repeated, is-2, good-or-bad, different-or-repeat, first_bad_lem, repeats-left, first_repeat_lem, all-good}

-- a length is good exactly when its test is passed
whole-if : (n : ℕ) → (BadLength n → ⊥) → whole_records n ≡ true
whole-if n h = unless-false (whole_records n) (λ w. h ((not-whole n).0 w))

-- one law for the three: a way of being bad that gives the number n to a record
module _ (table : List ℕ) (n : ℕ) (Bad : List ℕ → ℕ → Type 0) (above : 2 < n) (below : n < 11)
    (exactly : (i : ℕ) → (number_of (record_fault table i) ≡ n) ↔ Bad table i) where
  -- the first bad record gives its number and its place
  first-given : (i : ℕ) → FirstBad Bad table i → (number_of (table_fault table) ≡ n) × (place_of (table_fault table) ≡ i)
  first-given i f =
      let e = (exactly i).1 f.bad in
      let b : is_ok (record_fault table i) ≡ false = (numbered (record_fault table i)).off.1 (λ z. omega arith) in
      let d = first_bad_lem table (whole-if _ f.whole) i f.inside f.before b in
      (ap number_of d ∙ e, ap place_of d ∙ place_is table i b)

  first_found : number_of (table_fault table) ≡ n → FirstBad Bad table (place_of (table_fault table))
  first_found e =
      let no : BadLength (length table) → ⊥ = λ b. omega (arith, (is-2 table).1 b) in
      let w = whole-if _ no in
      ⊎_elim
      (λ g. absurd (of-repeated table (λ r. number_of r ≡ n → ⊥) (λ z. omega arith) (λ k z. omega arith) (sym (ap number_of (repeats-left table w g)) ∙ e)))
      (λ (b : BadBelow table (records_in (length table))).
      let d = first_bad_lem table w b.0 b.1 b.2 b.3 in
      subst (FirstBad Bad table) (sym (ap place_of d ∙ place_is table b.0 b.3))
      (record { whole = no; inside = b.1; before = b.2; bad = (exactly b.0).0 (sym (ap number_of d) ∙ e) }))
      (good-or-bad table (records_in (length table)))

  pub line : (number_of (table_fault table) ≡ n) ↔ ((i : ℕ) × FirstBad Bad table i)
  line = (λ e. (place_of (table_fault table), first_found e), λ f. (first-given f.0 f.1).0)

  pub line_at : (i : ℕ) → ((number_of (table_fault table) ≡ n) × (place_of (table_fault table) ≡ i)) ↔ FirstBad Bad table i
  line_at i = (λ p. subst (FirstBad Bad table) p.1 (first_found p.0), first-given i)

module _ (table : List ℕ) where
  -- 3 exactly when the first bad record has a mask number that is none of a mask's bits, and then with its place
  pub line-3 : (number_of (table_fault table) ≡ 3) ↔ ((i : ℕ) × FirstBad BadMask table i)
  line-3 = line table 3 BadMask (omega arith) (omega arith) (is-3 table)

  pub line-3-at : (i : ℕ) → ((number_of (table_fault table) ≡ 3) × (place_of (table_fault table) ≡ i)) ↔ FirstBad BadMask table i
  line-3-at = line_at table 3 BadMask (omega arith) (omega arith) (is-3 table)

  -- 4 exactly when it has another test step than 58 and 65
  pub line-4 : (number_of (table_fault table) ≡ 4) ↔ ((i : ℕ) × FirstBad BadStep table i)
  line-4 = line table 4 BadStep (omega arith) (omega arith) (is-4 table)

  pub line-4-at : (i : ℕ) → ((number_of (table_fault table) ≡ 4) × (place_of (table_fault table) ≡ i)) ↔ FirstBad BadStep table i
  line-4-at = line_at table 4 BadStep (omega arith) (omega arith) (is-4 table)

  -- 5 exactly when its difference words break the rule
  pub line-5 : (number_of (table_fault table) ≡ 5) ↔ ((i : ℕ) × FirstBad BadRule table i)
  line-5 = line table 5 BadRule (omega arith) (omega arith) (is-5 table)

  pub line-5-at : (i : ℕ) → ((number_of (table_fault table) ≡ 5) × (place_of (table_fault table) ≡ i)) ↔ FirstBad BadRule table i
  line-5-at = line_at table 5 BadRule (omega arith) (omega arith) (is-5 table)

  repeat-found : number_of (table_fault table) ≡ 11 → FirstRepeat table (place_of (table_fault table))
  repeat-found e =
      let no : BadLength (length table) → ⊥ = λ b. omega (arith, (is-2 table).1 b) in
      let w = whole-if _ no in
      ⊎_elim
      (λ (g : GoodBelow table (records_in (length table))).
      ⊎_elim
      (λ d. absurd (omega (arith, ap number_of (all-good table w g d))))
      (λ (r : RepeatBelow table (records_in (length table))).
      subst (FirstRepeat table) (sym (ap place_of (first_repeat_lem table w g r.0 r.1 r.2 r.3)))
      (record { whole = no; each = g; inside = r.1; before = r.2; repeats = r.3 }))
      (different-or-repeat table (records_in (length table))))
      (λ (b : BadBelow table (records_in (length table))). absurd (of-each table b.0 (λ r. number_of r ≡ 11 → ⊥) (λ z. omega arith) (λ z. omega arith) (λ z. omega arith) (λ z. omega arith)
      (sym (ap number_of (first_bad_lem table w b.0 b.1 b.2 b.3)) ∙ e)))
      (good-or-bad table (records_in (length table)))

  repeat-told : (i : ℕ) → FirstRepeat table i → (number_of (table_fault table) ≡ 11) × (place_of (table_fault table) ≡ i)
  repeat-told i f =
      let d = first_repeat_lem table (whole-if _ f.whole) f.each i f.inside f.before f.repeats in
      (ap number_of d, ap place_of d)

  -- 11 with place i exactly when the length is right, no record is bad, and i is the least place whose mask number an earlier record has
  pub line-11-at : (i : ℕ) → ((number_of (table_fault table) ≡ 11) × (place_of (table_fault table) ≡ i)) ↔ FirstRepeat table i
  line-11-at i = (λ p. subst (FirstRepeat table) p.1 (repeat-found p.0), repeat-told i)

  -- 11 exactly when the length is right, no record is bad, and two records have one mask number
  pub line-11 : (number_of (table_fault table) ≡ 11) ↔ ((BadLength (length table) → ⊥) × GoodBelow table (records_in (length table)) × TwoAlike table)
  line-11 = (
    λ e.
        let f = repeat-found e in
        (f.whole, f.each, (_, f.inside, f.repeats)),
    λ p.
        ⊎_elim
        (λ d. absurd (d p.2.0 p.2.1 p.2.2))
        (λ (r : RepeatBelow table (records_in (length table))).
        (repeat-told r.0 (record { whole = p.0; each = p.1; inside = r.1; before = r.2; repeats = r.3 })).0)
        (different-or-repeat table (records_in (length table))),
  )
