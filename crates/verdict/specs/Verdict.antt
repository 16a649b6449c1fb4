-- What a finish says of a message: 01, "The hasher".
use Rattle.std.specs.Prelude.{Bool, List, [], ◌∷◌, ℕ}
use Rattle.word.specs.Choice.{pick}
use Rattle.verdict.specs.declared.Verdict.{Verdict}
use Rattle.verdict.specs.declared.Verdict.TheVariants.{Ok, Mitigated, Collision}

-- bytes in a digest, which stands beside a verdict
abbrev pub digest_size : ℕ
digest_size = 20

-- ok without a mark, else mitigated with mitigation on, else collision
abbrev pub verdict_of : Bool → Bool → Verdict
verdict_of mark mitigate = pick mark (pick mitigate Mitigated Collision) Ok

-- the word that stands for a verdict, in ASCII: `ok`, `mitigated`, `collision`
abbrev pub verdict_word : Verdict → List ℕ
verdict_word Ok = 0x6F ∷ 0x6B ∷ []
verdict_word Mitigated = 0x6D ∷ 0x69 ∷ 0x74 ∷ 0x69 ∷ 0x67 ∷ 0x61 ∷ 0x74 ∷ 0x65 ∷ 0x64 ∷ []
verdict_word Collision = 0x63 ∷ 0x6F ∷ 0x6C ∷ 0x6C ∷ 0x69 ∷ 0x73 ∷ 0x69 ∷ 0x6F ∷ 0x6E ∷ []
