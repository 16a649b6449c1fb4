-- The first record with a barcode: how the search goes, and what it finds. Assumes nothing.
use mathlib.Core.Path.{◌≡◌, refl, sym, ap, ◌∙◌}
use mathlib.Core.Bool.{Bool, true, false, false≢true}
use mathlib.Core.List.{List}
use mathlib.Core.Logic.{◌↔◌, ⊎_elim}
use Prim.Native.Nat.{ℕ, zero, suc, ◌+◌, ◌≤◌, ◌<◌}
use native.Mathlib.Nat.{eq-or-lt_of_le, lt_of_not-le}
use native.Mathlib.Omega.{arith}
use Rattle.word.specs.Choice.{pick}
use Rattle.octets.specs.Octets.{same_bytes}
use Rattle.sheet.specs.Sheet.{barcode_at, first_from, record_for, records_on}
use Rattle.octets.proofs.Same.{same-exactly}

module _ (s c : List ℕ) where
  -- the search over the n records from place k on ends at q: no further than past them, at a record with the barcode unless it is
  -- past them, and no record passed has it
  record Ends (k n q : ℕ) : Type 0 where
    within : q ≤ k + n
    has : q < k + n → barcode_at s q ≡ c
    passed : (j : ℕ) → k ≤ j → j < q → barcode_at s j ≡ c → ⊥

  one_more : (k n q : ℕ) (t : Bool) → t ≡ same_bytes (barcode_at s k) c → Ends (suc k) n q → Ends k (suc n) (pick t k q)
  one_more k n q true e h =
      record { within = omega arith; has = λ l. (same-exactly (barcode_at s k) c).0 (sym e); passed = λ j l m. absurd (omega arith) }
  one_more k n q false e h =
      record {
        within = omega arith;
        has = λ l. h.has (omega arith);
        passed = λ j l m f. ⊎_elim
            (λ g. false≢true (e ∙ (same-exactly (barcode_at s k) c).1 (ap (barcode_at s) g ∙ f)))
            (λ g. h.passed j g m f)
            (eq-or-lt_of_le l);
      }

  ends : (n k : ℕ) → Ends k n (first_from s c k n)
  unfolding first_from
  ends zero k = record { within = omega arith; has = λ l. absurd (omega arith); passed = λ j l m. absurd (omega arith) }
  ends (suc n) k = one_more k n (first_from s c (suc k) n) (same_bytes (barcode_at s k) c) refl (ends n (suc k))

  all : Ends 0 (records_on s) (record_for s c)
  all = ends (records_on s) 0

  -- the record found has the barcode
  pub found-has : record_for s c < records_on s → barcode_at s (record_for s c) ≡ c
  found-has l = all.has (omega arith)

  -- no earlier record has it
  pub none-earlier : (j : ℕ) → j < record_for s c → barcode_at s j ≡ c → ⊥
  none-earlier j l = all.passed j (omega arith) l

  -- one is found exactly when a record of the sheet has it
  pub found-exactly : record_for s c < records_on s ↔ (j : ℕ) × (j < records_on s) × (barcode_at s j ≡ c)
  found-exactly =
      (λ l. (record_for s c, l, found-has l), λ p. lt_of_not-le (λ g. none-earlier p.0 (omega arith) p.2))
