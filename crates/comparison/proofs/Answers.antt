-- What an answer of a comparison does not hang on, and that its number is the lookup's. Assumes nothing.
use mathlib.Core.Path.{◌≡◌, refl}
use mathlib.Core.List.{List}
use Prim.Native.Nat.{ℕ}
use Rattle.std.specs.Prelude.{Ok as Said, Err as Refused}
use Rattle.refusal.specs.Refusal.{Checked, number_of}
use Rattle.verdict.specs.declared.Verdict.{Verdict}
use Rattle.verdict.specs.declared.Verdict.TheVariants.{Mitigated, Collision}
use Rattle.sheet.specs.Sheet.{lookup_refusal, part_of}
use Rattle.comparison.specs.Compare.{compared_number, said_unless, comparison_of, compared_of}
use Rattle.comparison.specs.declared.Comparison.{Comparison}
use Rattle.comparison.specs.declared.Comparison.TheVariants.{Absent, Marked}
use Rattle.comparison.proofs.Exactly.{answer-marked-exactly, absent-exactly}

-- the digest does not matter to marked
pub marked-any-digest : (s c : List ℕ) (v : Verdict) (d e : List ℕ) → compared_of s c v d ≡ Said Marked → compared_of s c v e ≡ Said Marked
marked-any-digest s c v d e p = (answer-marked-exactly s c v e).1 ((answer-marked-exactly s c v d).0 p)

-- neither the verdict nor the digest matters to absent
pub absent-any-verdict : (s c : List ℕ) (v w : Verdict) (d e : List ℕ) → compared_of s c v d ≡ Said Absent → compared_of s c w e ≡ Said Absent
absent-any-verdict s c v w d e p = (absent-exactly s c w e).1 ((absent-exactly s c v d).0 p)

-- mitigated and collision are not told apart
pub marks-alike : (s c d : List ℕ) → compared_of s c Mitigated d ≡ compared_of s c Collision d
unfolding compared_of
marks-alike s c d = refl

-- the number that a comparison gives back is the lookup's
pub same_number : (s c : List ℕ) (v : Verdict) (d : List ℕ) → compared_number (compared_of s c v d) ≡ number_of (lookup_refusal s c)
unfolding compared_of
same_number s c v d = go (lookup_refusal s c) (comparison_of (part_of s c) v d)
  where
    go : (r : Checked) (a : Comparison) → compared_number (said_unless r a) ≡ number_of r
    go (Said u) a = refl
    go (Refused r) a = refl
