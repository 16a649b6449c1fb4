-- 01's bench checks that are marked P, of the meanings, in one list.
use Rattle.std.specs.Prelude.{◌≡◌, List, [], ◌∷◌, ℕ, ◌-◌, ◌/◌, ◌^◌, ◌<◌, length, get_or, replicate}
use Rattle.word.specs.Word.{rotl, ch, maj}
use Rattle.step.specs.Step.{step_at, undo_at}
use Rattle.step.specs.declared.Regs.{Regs}
use Rattle.block.specs.Schedule.{scheduled}
use Rattle.fips.specs.Fips.{padded}

-- five zeros
abbrev pub zeros : Regs
zeros = record { a = 0; b = 0; c = 0; d = 0; e = 0 }

-- step 0 on zeros with the word 0
abbrev pub stepped : Regs
stepped = record { a = 0x5A827999; b = 0; c = 0; d = 0; e = 0 }

-- word t of the difference words that begin with x and fifteen zeros
abbrev pub dm_of : ℕ → ℕ → ℕ
dm_of x t = get_or (scheduled (x ∷ replicate 15 0) 80) t 0

-- the blocks that padding makes of a message of n bytes, after its full ones
abbrev pub pad_blocks : ℕ → ℕ
pad_blocks n = length (padded (replicate n 0)) / 64 - n / 64

-- the checks, each a proposition
abbrev pub checks : List (Type 0)
checks =
    (rotl 5 0x80000001 ≡ 0x00000030)
    ∷ (rotl 30 1 ≡ 0x40000000)
    ∷ (maj 0xFFFFFFFF 0 0x0F0F0F0F ≡ 0x0F0F0F0F)
    ∷ ((c d : ℕ) → c < 2 ^ 32 → ch 0xFFFFFFFF c d ≡ c)
    ∷ (step_at 0 zeros 0 ≡ stepped)
    ∷ (step_at 0 zeros 0xA57D8667 ≡ zeros)
    ∷ (undo_at 0 stepped 0 ≡ zeros)
    ∷ (dm_of 1 16 ≡ 2)
    ∷ (dm_of 1 17 ≡ 0)
    ∷ (dm_of 1 19 ≡ 4)
    ∷ (dm_of 0x80000000 16 ≡ 1)
    ∷ (pad_blocks 0 ≡ 1)
    ∷ (pad_blocks 55 ≡ 1)
    ∷ (pad_blocks 56 ≡ 2)
    ∷ (pad_blocks 63 ≡ 2)
    ∷ (pad_blocks 64 ≡ 1)
    ∷ []

-- all of a list of propositions hold
abbrev pub Hold : List (Type 0) → Type 0
Hold [] = Unit
Hold (p ∷ ps) = p × Hold ps
