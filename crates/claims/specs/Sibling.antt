-- Demand 3 in the words of FIPS 180-4: the sibling block, and the start from which it meets the block.
use Rattle.std.specs.Prelude.{◌≡◌, ◌⊎◌, Bool, true, List, ℕ, ◌<◌, length}
use Rattle.word.specs.Lists.{xor_words}
use Rattle.step.specs.Step.{steps_of, Words}
use Rattle.step.specs.declared.Regs.{Regs}
use Rattle.block.specs.Schedule.{words_of, schedule_of}
use Rattle.block.specs.Compress.{over_schedule, compress_of}
use Rattle.table.specs.Table.{records_in, test_word_at, dm_at}
use Rattle.search.specs.Marks.{selects}

-- the sixteen words of the sibling block by record i: the block's own, `xor` the record's first sixteen difference words
abbrev pub sibling_words : List ℕ → List ℕ → ℕ → List ℕ
sibling_words block table i = xor_words 16 (words_of block) (dm_at table i)

-- the state after the steps before record i's test step, from the start s, of the block with these sixteen words
abbrev pub state_at_test : List ℕ → List ℕ → ℕ → Regs → Regs
state_at_test words table i s = steps_of (schedule_of words) 0 (test_word_at table i) s

-- from the start s the sibling reaches the block's own state at the test step
abbrev pub Reaches : Regs → List ℕ → List ℕ → ℕ → Regs → Type 0
Reaches h block table i s = state_at_test (sibling_words block table i) table i s ≡ state_at_test (words_of block) table i h

-- from the start s the sibling ends in the block's output before mitigation
abbrev pub EndsAlike : Regs → List ℕ → List ℕ → ℕ → Regs → Type 0
EndsAlike h block table i s = over_schedule s (schedule_of (sibling_words block table i)) ≡ compress_of h block

-- a five-word start from which the sibling by record i does both
pub record Meets (h : Regs) (block table : List ℕ) (i : ℕ) : Type 0 where
  pub start : Regs
  pub words : Words start
  pub reaches : Reaches h block table i start
  pub ends : EndsAlike h block table i start

-- a record of the table that the mask selects, and of whose place P holds
pub record Selected (P : ℕ → Type 0) (table : List ℕ) (mask : ℕ) : Type 0 where
  pub place : ℕ
  pub inside : place < records_in (length table)
  pub selected : selects mask table place ≡ true
  pub holds : P place

-- by a selected record the sibling meets the block
abbrev pub Met : Regs → List ℕ → List ℕ → ℕ → Type 0
Met h block table mask = Selected (Meets h block table) table mask

-- the sibling by record i meets the block or, in reduced-round mode only, reaches the block's state from the block's own start
abbrev pub MeetsIn : Bool → Regs → List ℕ → List ℕ → ℕ → Type 0
MeetsIn reduced h block table i = Meets h block table i ⊎ ((reduced ≡ true) × Reaches h block table i h)

-- by a selected record it does so
abbrev pub MetIn : Bool → Regs → List ℕ → List ℕ → ℕ → Type 0
MetIn reduced h block table mask = Selected (MeetsIn reduced h block table) table mask
