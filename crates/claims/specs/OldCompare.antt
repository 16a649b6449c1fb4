-- 01's compare as it stood before request c. It is kept here alone, to say which of its answers changed.
use Rattle.comparison.specs.Compare.{Compared, said_unless}
use Rattle.std.specs.Prelude.{◌≡◌, List, ℕ, eqb, length}
use Rattle.word.specs.Choice.{pick}
use Rattle.octets.specs.Octets.{same_bytes}
use Rattle.verdict.specs.declared.Verdict.{Verdict}
use Rattle.verdict.specs.declared.Verdict.TheVariants.{Ok}
use Rattle.sheet.specs.Sheet.{lookup_refusal, part_of}
use Rattle.sheet.specs.Exactly.{Accepted, FirstRecord}
use Rattle.comparison.specs.declared.Comparison.{Comparison}
use Rattle.comparison.specs.declared.Comparison.TheVariants.{Match, Differs, Absent}

-- what the part that a lookup found said of a digest, whatever the verdict
abbrev pub old_comparison_of : List ℕ → List ℕ → Comparison
old_comparison_of part digest = pick (eqb (length part) 0) Absent (pick (same_bytes part digest) Match Differs)

-- what a comparison gave back, whatever the verdict
unfoldable pub old_compared_of : List ℕ → List ℕ → List ℕ → Compared
old_compared_of sheet code digest =
    said_unless (lookup_refusal sheet code) (old_comparison_of (part_of sheet code) digest)

-- where an answer changes: nothing is refused, a record has the barcode, and the verdict is not ok
abbrev pub Changes : List ℕ → List ℕ → Verdict → Type 0
Changes sheet code verdict = Accepted sheet code × (k : ℕ) × FirstRecord sheet code k × (verdict ≡ Ok → ⊥)
