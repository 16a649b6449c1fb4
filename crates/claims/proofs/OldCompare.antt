-- Which answers of 01's compare request c changes: the old and the new one differ exactly where nothing is refused, a record has
-- the barcode and the verdict is not ok; the new answer is then marked, and the old one was match or differs. Assumes nothing.
use mathlib.Core.Path.{◌≡◌, refl, sym, ap, ◌∙◌}
use mathlib.Core.Bool.{Bool, true, false, true≢false}
use mathlib.Core.List.{List, []}
use mathlib.Core.Logic.{◌↔◌, ◌⊎◌, inl, inr}
use Prim.Native.Nat.{ℕ}
use lib.ListN.{replicate}
use Rattle.std.specs.Prelude.{Ok as Said, Err as Refused}
use Rattle.word.specs.Choice.{pick}
use Rattle.octets.specs.Octets.{same_bytes}
use Rattle.refusal.specs.declared.Refusal.{Refusal}
use Rattle.refusal.specs.declared.Refusal.TheVariants.{Size, SheetLength}
use Rattle.verdict.specs.declared.Verdict.{Verdict}
use Rattle.verdict.specs.declared.Verdict.TheVariants.{Ok, Mitigated, Collision}
use Rattle.sheet.specs.Sheet.{digest_at, first_from, lookup_refusal, part_from}
use Rattle.sheet.specs.Exactly.{Accepted, FirstRecord}
use Rattle.comparison.specs.Compare.{compared_of}
use Rattle.comparison.specs.declared.Comparison.TheVariants.{Match, Differs, Absent, Marked}
use Rattle.comparison.proofs.Answers.{absent-any-verdict}
use Rattle.comparison.proofs.Exactly.{Sought, turned_away_lem, found, missing, sought, found-said, none_said, refused-said, match-exactly, differs-exactly, answer-marked-exactly}
use Rattle.claims.specs.OldCompare.{old_compared_of, Changes}

-- The old answer is what the new compare says of the verdict ok: with that verdict nothing changes.
pub ok-stays : (s c d : List ℕ) → compared_of s c Ok d ≡ old_compared_of s c d
unfolding compared_of old_compared_of
ok-stays s c d = refl

module _ (s c : List ℕ) (v : Verdict) (d : List ℕ) where
  -- Where the answer changes it is marked now,
  pub marked-now : Changes s c v → compared_of s c v d ≡ Said Marked
  marked-now = (answer-marked-exactly s c v d).1

  -- and was match or differs, as the digest was that of the record or another.
  pub match-or-differs-then : Changes s c v → (old_compared_of s c d ≡ Said Match) ⊎ (old_compared_of s c d ≡ Said Differs)
  match-or-differs-then p = by (same_bytes (digest_at s p.1) d) (sym (ok-stays s c d) ∙ found-said s c Ok d p.0 p.1 p.2)
    where
      by : (t : Bool) → old_compared_of s c d ≡ Said (pick t Match Differs) → (old_compared_of s c d ≡ Said Match) ⊎ (old_compared_of s c d ≡ Said Differs)
      by true e = inl e
      by false e = inr e

  never-marked-then : Changes s c v → old_compared_of s c d ≡ Said Marked → ⊥
  never-marked-then p e = by (match-or-differs-then p)
    where
      by : (old_compared_of s c d ≡ Said Match) ⊎ (old_compared_of s c d ≡ Said Differs) → ⊥
      by (inl m) = let z : true ≡ false = cc (e, m) in true≢false z
      by (inr m) = let z : true ≡ false = cc (e, m) in true≢false z

  changed-where : Sought s c → (compared_of s c v d ≡ old_compared_of s c d → ⊥) → Accepted s c × (k : ℕ) × FirstRecord s c k
  changed-where (turned_away_lem h) n = absurd (n (refused-said s c v d h ∙ sym (refused-said s c Ok d h) ∙ ok-stays s c d))
  changed-where (found a k f) n = (a, k, f)
  changed-where (missing a m) n = absurd (n (none_said s c v d a m ∙ sym (none_said s c Ok d a m) ∙ ok-stays s c d))

  -- The two answers differ exactly there.
  pub changes-exactly : (compared_of s c v d ≡ old_compared_of s c d → ⊥) ↔ Changes s c v
  changes-exactly = (
    λ n.
        let w = changed-where (sought s c) n in
        (w.0, w.1, w.2, λ e. n (ap (λ (u : Verdict). compared_of s c u d) e ∙ ok-stays s c d)),
    λ p e. never-marked-then p (sym e ∙ marked-now p),
  )

  -- So an old match, and an old differs, is marked now where the verdict is not ok;
  pub match-becomes-marked : old_compared_of s c d ≡ Said Match → (v ≡ Ok → ⊥) → compared_of s c v d ≡ Said Marked
  match-becomes-marked e n = let p = (match-exactly s c Ok d).0 (ok-stays s c d ∙ e) in marked-now (p.0, p.1, p.2, n)

  pub differs-becomes-marked : old_compared_of s c d ≡ Said Differs → (v ≡ Ok → ⊥) → compared_of s c v d ≡ Said Marked
  differs-becomes-marked e n = let p = (differs-exactly s c Ok d).0 (ok-stays s c d ∙ e) in marked-now (p.0, p.1, p.2, n)

  -- absent stays absent, and a refusal the same refusal, whatever the verdict.
  pub absent-stays : old_compared_of s c d ≡ Said Absent → compared_of s c v d ≡ Said Absent
  absent-stays e = absent-any-verdict s c Ok v d d (ok-stays s c d ∙ e)

  pub refusal-stays : (r : Refusal) → old_compared_of s c d ≡ Refused r → compared_of s c v d ≡ Refused r
  refusal-stays r e = by (sought s c)
    where
      by : Sought s c → compared_of s c v d ≡ Refused r
      by (turned_away_lem h) = refused-said s c v d h ∙ sym (refused-said s c Ok d h) ∙ ok-stays s c d ∙ e
      by (found a k f) = cc (found-said s c Ok d a k f, ok-stays s c d, e)
      by (missing a m) = cc (none_said s c Ok d a m, ok-stays s c d, e)

-- The smallest examples: a sheet of one record, all of zeros.
abbrev sheet : List ℕ
sheet = replicate 32 0

abbrev code : List ℕ
code = replicate 12 0

-- an equal digest, mitigation off: the auditor's case
pub auditor : (old_compared_of sheet code (replicate 20 0) ≡ Said Match) × (compared_of sheet code Collision (replicate 20 0) ≡ Said Marked)
unfolding compared_of old_compared_of lookup_refusal part_from first_from same_bytes
auditor = (refl, refl)

-- another digest, mitigation on
pub mitigated-digest : (old_compared_of sheet code (replicate 20 1) ≡ Said Differs) × (compared_of sheet code Mitigated (replicate 20 1) ≡ Said Marked)
unfolding compared_of old_compared_of lookup_refusal part_from first_from same_bytes
mitigated-digest = (refl, refl)

-- the two others: an equal digest that is mitigated, another digest with collision
pub mitigated-equal : (old_compared_of sheet code (replicate 20 0) ≡ Said Match) × (compared_of sheet code Mitigated (replicate 20 0) ≡ Said Marked)
unfolding compared_of old_compared_of lookup_refusal part_from first_from same_bytes
mitigated-equal = (refl, refl)

pub collision-other : (old_compared_of sheet code (replicate 20 1) ≡ Said Differs) × (compared_of sheet code Collision (replicate 20 1) ≡ Said Marked)
unfolding compared_of old_compared_of lookup_refusal part_from first_from same_bytes
collision-other = (refl, refl)

-- the empty sheet, a barcode of no bytes and a sheet of one byte: nothing changes
pub empty-sheet : (old_compared_of [] code (replicate 20 0) ≡ Said Absent) × (compared_of [] code Collision (replicate 20 0) ≡ Said Absent)
unfolding compared_of old_compared_of lookup_refusal part_from first_from same_bytes
empty-sheet = (refl, refl)

pub barcode-of-no-bytes : (old_compared_of sheet [] (replicate 20 0) ≡ Refused Size) × (compared_of sheet [] Collision (replicate 20 0) ≡ Refused Size)
unfolding compared_of old_compared_of lookup_refusal
barcode-of-no-bytes = (refl, refl)

pub one_byte : (old_compared_of (replicate 1 0) code (replicate 20 0) ≡ Refused SheetLength) × (compared_of (replicate 1 0) code Collision (replicate 20 0) ≡ Refused SheetLength)
unfolding compared_of old_compared_of lookup_refusal
one_byte = (refl, refl)
