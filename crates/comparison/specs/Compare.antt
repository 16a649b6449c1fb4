-- What a comparison with the sheet says.
use Rattle.std.specs.Prelude.{Bool, true, false, List, [], ◌∷◌, ℕ, eqb, length, Result, Ok as Said, Err as Refused}
use Rattle.word.specs.Choice.{pick}
use Rattle.refusal.specs.Refusal.{Checked, number}
use Rattle.refusal.specs.declared.Refusal.{Refusal}
use Rattle.verdict.specs.declared.Verdict.{Verdict}
use Rattle.verdict.specs.declared.Verdict.TheVariants.{Ok, Mitigated, Collision}
use Rattle.octets.specs.Octets.{same_bytes}
use Rattle.sheet.specs.Sheet.{lookup_refusal, part_of}
use Rattle.comparison.specs.declared.Comparison.{Comparison}
use Rattle.comparison.specs.declared.Comparison.TheVariants.{Match, Differs, Absent, Marked}

-- the word that stands for an answer, in ASCII: `match`, `differs`, `absent`, `marked`
abbrev pub comparison_word : Comparison → List ℕ
comparison_word Match = 0x6D ∷ 0x61 ∷ 0x74 ∷ 0x63 ∷ 0x68 ∷ []
comparison_word Differs = 0x64 ∷ 0x69 ∷ 0x66 ∷ 0x66 ∷ 0x65 ∷ 0x72 ∷ 0x73 ∷ []
comparison_word Absent = 0x61 ∷ 0x62 ∷ 0x73 ∷ 0x65 ∷ 0x6E ∷ 0x74 ∷ []
comparison_word Marked = 0x6D ∷ 0x61 ∷ 0x72 ∷ 0x6B ∷ 0x65 ∷ 0x64 ∷ []

-- what a comparison gives back: an answer, or why there is none
abbrev pub Compared : Type 0
Compared = Result Comparison Refusal

-- the number that a comparison gives back, in the table of docs/BEHAVIOUR.md; 0 where it has an answer
abbrev pub compared_number : Compared → ℕ
compared_number (Said a) = 0
compared_number (Refused r) = number r

-- whether a verdict says that a block was marked
abbrev pub says_marked : Verdict → Bool
says_marked Ok = false
says_marked Mitigated = true
says_marked Collision = true

-- what the part that a lookup found says: absent where it is empty, as no record is behind it; else marked after a mark; else it is the digest that decides
abbrev pub comparison_of : List ℕ → Verdict → List ℕ → Comparison
comparison_of part verdict digest =
    pick (eqb (length part) 0) Absent
    (pick (says_marked verdict) Marked
    (pick (same_bytes part digest) Match
    Differs))

-- a lookup's refusal, else what is said
abbrev pub said_unless : Checked → Comparison → Compared
said_unless (Said u) a = Said a
said_unless (Refused r) a = Refused r

-- what a comparison gives back: the refusal, else what the part found says
unfoldable pub compared_of : List ℕ → List ℕ → Verdict → List ℕ → Compared
compared_of sheet code verdict digest = said_unless (lookup_refusal sheet code) (comparison_of (part_of sheet code) verdict digest)
