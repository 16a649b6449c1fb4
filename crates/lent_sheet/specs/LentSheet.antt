-- What each call on a lent sheet gives back, and what it leaves in the memory lent to it.
use Rattle.std.specs.Prelude.{◌&&◌, List, [], ◌∷◌, ℕ, eqb, length, Ok as Said, Err as Refused}
use Rattle.refusal.specs.Refusal.{number_of, Checked}
use Rattle.verdict.specs.Verdict.{digest_size}
use Rattle.sheet.specs.Sheet.{lookup_refusal, part_from, part_of}
use Rattle.comparison.specs.Compare.{compared_number, compared_of, Compared}
use Rattle.comparison.specs.declared.Comparison.{Comparison}
use Rattle.comparison.specs.declared.Comparison.TheVariants.{Match, Differs, Absent, Marked}
use Rattle.layout.specs.Layout.{verdict_known, verdict_for}
use Rattle.answers.specs.Answers.{Left, left, guarded}

-- the number of a comparison's answer
abbrev pub comparison_number : Comparison → ℕ
comparison_number Match = 1
comparison_number Differs = 2
comparison_number Absent = 3
comparison_number Marked = 4

-- the same of what a comparison gives, 0 on a refusal
abbrev pub comparison_in : Compared → ℕ
comparison_in (Said a) = comparison_number a
comparison_in (Refused r) = 0

-- what a lookup leaves: where the part begins, and its length
abbrev pub part_left : Checked → ℕ → ℕ → Left
part_left r from size = left (number_of r) ((from ∷ size ∷ []) ∷ [])

-- what a comparison leaves
abbrev pub compared_left : Compared → Left
compared_left c = left (compared_number c) ((comparison_in c ∷ 0 ∷ []) ∷ [])

-- the call of a lookup
unfoldable pub lookup_call : List ℕ → List ℕ → List ℕ → Left
lookup_call sheet code part =
    guarded (eqb (length part) 2)
    (part_left (lookup_refusal sheet code) (part_from sheet code) (length (part_of sheet code)))
    (part ∷ [])

-- the call of a comparison
unfoldable pub compare_call : List ℕ → List ℕ → ℕ → List ℕ → List ℕ → Left
compare_call sheet code verdict digest answer =
    guarded (verdict_known verdict && (eqb (length digest) digest_size && eqb (length answer) 2))
    (compared_left (compared_of sheet code (verdict_for verdict) digest))
    (answer ∷ [])
