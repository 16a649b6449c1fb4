-- The compression of a block: FIPS 180-4, section 6.1.2, steps 2 to 4.
use Rattle.std.specs.Prelude.{List, ℕ}
use Rattle.step.specs.Step.{steps_of, add_regs}
use Rattle.step.specs.declared.Regs.{Regs}
use Rattle.block.specs.Schedule.{words_of, schedule_of}
use Rattle.block.specs.declared.States.{States}

-- the chaining words after eighty steps over the schedule w: the start words added in
unfoldable pub over_schedule : Regs → List ℕ → Regs
over_schedule h w = add_regs h (steps_of w 0 80 h)

-- the chaining words after a block of 64 bytes
unfoldable pub compress_of : Regs → List ℕ → Regs
compress_of h block = over_schedule h (schedule_of (words_of block))

-- the state after steps 0 to 57, that after steps 0 to 64, and the chaining words after all eighty
unfoldable pub states_of : Regs → List ℕ → States
states_of h w = record { s58 = steps_of w 0 58 h; s65 = steps_of w 0 65 h; out = over_schedule h w }
