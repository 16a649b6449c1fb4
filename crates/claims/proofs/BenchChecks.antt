-- 01's bench checks that are marked P hold. Assumes nothing.
use mathlib.Core.Path.{◌≡◌, refl, ◌∙◌}
use Prim.Native.Nat.{ℕ, ◌^◌, ◌<◌}
use native.Mathlib.Nat.{mod-eq_of_lt}
use lib.Bits.{bit_and, and_comm, and_mask, xor_zero_r}
use Rattle.word.specs.Word.{rotl, not32, ch, maj, ◌⊟◌}
use Rattle.octets.specs.Octets.{bytes64}
use Rattle.step.specs.Step.{step_at, undo_at, step_with, undo_with, f_at, k_at}
use Rattle.block.specs.Schedule.{scheduled}
use Rattle.claims.specs.BenchChecks.{checks, Hold}

-- choose with every bit of b set
chosen : (c d : ℕ) → c < 2 ^ 32 → ch 0xFFFFFFFF c d ≡ c
unfolding ch not32
chosen c d h =
    xor_zero_r (bit_and 0xFFFFFFFF c) ∙ and_comm 0xFFFFFFFF c ∙ and_mask c 32 ∙ mod-eq_of_lt h

pub bench-checks : Hold checks
unfolding rotl not32 ch maj ◌⊟◌ step_at undo_at step_with undo_with f_at k_at scheduled bytes64
bench-checks =
    (refl, (refl, (refl, (chosen, (refl, (refl, (refl, (refl, (refl, (refl, (refl, (refl, (refl, (refl, (refl, (refl, tt))))))))))))))))
