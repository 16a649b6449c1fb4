-- The part that a lookup hands back: where it begins, and which bytes it has. Assumes nothing.
use mathlib.Core.Path.{◌≡◌, refl}
use mathlib.Core.Bool.{Bool, true, false, ◌&&◌, and-false}
use mathlib.Core.List.{List, []}
use Prim.Native.Nat.{ℕ, ◌+◌, ◌-◌, ◌*◌, ◌≤◌, ◌<◌}
use native.Mathlib.Omega.{arith}
use lib.ListN.{length, drop, length-drop}
use lib.Seq.{drop-length, length-take-le}
use borrow.Author.Tests.{ltb-true, lt-ltb, le-ltb}
use Rattle.std.specs.Prelude.{is_ok, min}
use Rattle.std.proofs.lemmas.List.{length-take}
use Rattle.word.specs.Choice.{pick}
use Rattle.verdict.specs.Verdict.{digest_size}
use Rattle.sheet.specs.Sheet.{barcode_size, record_size, digest_at, records_on, record_for, on_sheet}
use Rattle.sheet.specs.Sheet.{lookup_refusal, part_from, part_of}

-- a record's digest has no byte missing
pub digest-at-length : (s : List ℕ) (k : ℕ) → k < records_on s → length (digest_at s k) ≡ digest_size
digest-at-length s k l =
    let from = record_size * k + barcode_size in
    length-take-le digest_size (drop from s) (rw (length-drop from s) (omega arith))

-- where the part begins
module _ (s c : List ℕ) where
  -- on a refusal, at the sheet's end
  pub refused-from : is_ok (lookup_refusal s c) ≡ false → part_from s c ≡ length s
  unfolding part_from
  refused-from h = rw h

  pub found_from : is_ok (lookup_refusal s c) ≡ true → record_for s c < records_on s → part_from s c ≡ record_size * record_for s c + barcode_size
  unfolding part_from
  found_from h l = rw (h, lt-ltb (record_for s c) (records_on s) l)

  pub absent-from : {k : ℕ} → k ≡ record_for s c → records_on s ≤ k → part_from s c ≡ length s
  unfolding part_from
  absent-from {k} f l = rw (← f, le-ltb k (records_on s) l, and-false (is_ok (lookup_refusal s c)))

  -- the part is the digest of the record found, or empty
  pub part-found : is_ok (lookup_refusal s c) ≡ true → record_for s c < records_on s → part_of s c ≡ digest_at s (record_for s c)
  part-found h l = rw (found_from h l)

  pub part-at-end : part_from s c ≡ length s → part_of s c ≡ []
  part-at-end e = rw (e, drop-length s)

  -- its length, by where it begins
  pub part_length : length (part_of s c) ≡ min digest_size (length s - part_from s c)
  part_length = rw (length-take digest_size (drop (part_from s c) s), length-drop (part_from s c) s)

  -- it begins at the sheet's end, or where a whole digest is left
  pub fits : (part_from s c ≤ length s) × (part_from s c < length s → part_from s c + digest_size ≤ length s)
  unfolding part_from
  fits = go (is_ok (lookup_refusal s c)) (on_sheet s c) refl
    where
      go : (t u : Bool) → on_sheet s c ≡ u
          → let from = pick (t && u) (record_size * record_for s c + barcode_size) (length s) in
          (from ≤ length s) × (from < length s → from + digest_size ≤ length s)
      go true true e =
          let k : record_for s c < records_on s = ltb-true (record_for s c) (records_on s) e in
          (omega arith, λ l. omega arith)
      go true false e = (omega arith, λ l. absurd (omega arith))
      go false u e = (omega arith, λ l. absurd (omega arith))
