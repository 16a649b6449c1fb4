-- The meanings against the standard's own example. Assumes nothing.
use mathlib.Core.Path.{◌≡◌, refl}
use mathlib.Core.List.{[], ◌∷◌}
use Rattle.word.specs.Word.{rotl, not32, ch, maj}
use Rattle.word.specs.Lists.{list_of}
use Rattle.octets.specs.Octets.{bytes64}
use Rattle.step.specs.Step.{step_with, f_at, k_at, step_at, steps_of}
use Rattle.block.specs.Schedule.{scheduled}
use Rattle.block.specs.Compress.{over_schedule, compress_of}
use Rattle.fips.specs.Fips.{hash_blocks, digest_of, sha1}

-- The digest of `abc` is the published one: a9993e36 4706816a ba3e2571 7850c26c 9cd0d89d.
pub abc : sha1 (0x61 ∷ 0x62 ∷ 0x63 ∷ [])
    ≡ 0xA9 ∷ 0x99 ∷ 0x3E ∷ 0x36 ∷ 0x47 ∷ 0x06 ∷ 0x81 ∷ 0x6A ∷ 0xBA ∷ 0x3E ∷ 0x25 ∷ 0x71 ∷ 0x78 ∷ 0x50 ∷ 0xC2 ∷ 0x6C ∷ 0x9C ∷ 0xD0 ∷ 0xD8 ∷ 0x9D ∷ []
unfolding sha1 bytes64 hash_blocks digest_of compress_of over_schedule scheduled list_of steps_of step_at step_with f_at k_at rotl not32 ch maj
abc = refl
