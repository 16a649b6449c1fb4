-- The sibling of a block: its schedule, and its compression worked out from a state inside.
use Rattle.std.specs.Prelude.{List, ℕ}
use Rattle.word.specs.Lists.{xor_words}
use Rattle.step.specs.Step.{undos_of}
use Rattle.step.specs.declared.Regs.{Regs}
use Rattle.block.specs.Compress.{over_schedule}
use Rattle.sibling.specs.declared.Ends.{Ends}

-- the sibling's schedule: the block's, `xor` the vector's difference words
abbrev pub sibling_schedule : List ℕ → List ℕ → List ℕ
sibling_schedule w dm = xor_words 80 w dm

-- the start from which n steps over the schedule w lead to the state s, and the chaining words from that start
unfoldable pub recompressed : List ℕ → ℕ → Regs → Ends
recompressed w n s = record { start = undos_of w 0 n s; out = over_schedule (undos_of w 0 n s) w }
