-- The first record with a barcode, and the part that a lookup finds, exactly when. Assumes nothing.
use mathlib.Core.Path.{◌≡◌, refl, ap, ◌∙◌, subst}
use mathlib.Core.Bool.{true}
use mathlib.Core.List.{List, []}
use mathlib.Core.Logic.{◌↔◌}
use Prim.Native.Nat.{ℕ, ◌≤◌, ◌<◌}
use native.Mathlib.Nat.{lt_of_not-le, le_of_suc-le-suc}
use native.Mathlib.Omega.{arith}
use Rattle.std.specs.Prelude.{is_ok}
use Rattle.refusal.proofs.Chains.{passes, numberless}
use Rattle.sheet.specs.Sheet.{digest_at, records_on, record_for, lookup_refusal, part_of}
use Rattle.sheet.specs.Exactly.{Accepted, FirstRecord, NoRecord}
use Rattle.sheet.proofs.First.{found-has, none-earlier, found-exactly}
use Rattle.sheet.proofs.Numbers.{none-exactly}
use Rattle.sheet.proofs.Parts.{part-found, part-at-end, absent-from}

module _ (s c : List ℕ) where
  -- the record found is the first of the sheet that has the barcode
  pub first-record : (k : ℕ) → ((record_for s c ≡ k) × (k < records_on s)) ↔ FirstRecord s c k
  first-record k = (
    λ p.
        let l : record_for s c < records_on s = omega arith in
        subst (FirstRecord s c) p.0 (record { inside = l; has = found-has s c l; earlier = none-earlier s c }),
    λ f.
        let l = (found-exactly s c).1 (k, f.inside, f.has) in
        let below : record_for s c ≤ k = le_of_suc-le-suc (lt_of_not-le (λ m. none-earlier s c k m f.has)) in
        let above : k ≤ record_for s c = le_of_suc-le-suc (lt_of_not-le (λ m. f.earlier (record_for s c) m (found-has s c l))) in
        (omega arith, f.inside),
  )

  -- none is found exactly when no record of the sheet has it
  pub no_record : (records_on s ≤ record_for s c) ↔ NoRecord s c
  no_record = (
    λ l j h e. absurd (omega (arith, (found-exactly s c).1 (j, h, e))),
    λ n. le_of_suc-le-suc (lt_of_not-le (λ l. n (record_for s c) l (found-has s c l))),
  )

  -- nothing is refused
  pub accepted-exactly : (is_ok (lookup_refusal s c) ≡ true) ↔ Accepted s c
  accepted-exactly = (λ h. (none-exactly s c).0 (numberless (lookup_refusal s c) h), λ a. passes (lookup_refusal s c) ((none-exactly s c).1 a))

  -- the part that a lookup finds is the digest of the first record with the barcode, or empty where none has it
  pub part-of-first : Accepted s c → (k : ℕ) → FirstRecord s c k → part_of s c ≡ digest_at s k
  part-of-first a k f =
      let e = ((first-record k).1 f).0 in
      part-found s c (accepted-exactly.1 a) (omega (arith, f.inside)) ∙ ap (digest_at s) e

  pub part-of-none : NoRecord s c → part_of s c ≡ []
  part-of-none n = part-at-end s c (absent-from s c refl (no_record.1 n))
