-- Which vectors are tried with a block, which one marks it, and what the search through a table finds.
use Rattle.std.specs.Prelude.{Bool, ◌&&◌, ◌||◌, List, ℕ, length, get_or, take, drop}
use Rattle.step.specs.Step.{steps_of, same_regs}
use Rattle.step.specs.declared.Regs.{Regs}
use Rattle.block.specs.Compress.{over_schedule, states_of}
use Rattle.sibling.specs.Sibling.{sibling_schedule, recompressed}
use Rattle.sibling.specs.declared.Ends.{Ends}
use Rattle.table.specs.Bits.{has_bit}
use Rattle.table.specs.Limits.{dm_words}
use Rattle.table.specs.Table.{steps_before, testt_of, records_in, mask_number_at, test_word_at, dm_at}
use Rattle.table.specs.declared.Testt.{Testt}
use Rattle.table.specs.declared.Testt.TheVariants.{T58, T65}
use Rattle.block.specs.declared.States.{States}
use Rattle.search.specs.Search.{search_from}
use Rattle.search.specs.declared.Found.{Found}

-- the mask selects record i
abbrev pub selects : ℕ → List ℕ → ℕ → Bool
selects mask table i = has_bit mask (mask_number_at table i)

-- how many steps lie before record i's test step
abbrev pub steps_before_at : List ℕ → ℕ → ℕ
steps_before_at table i = steps_before (testt_of (test_word_at table i))

-- the state that a compression kept for a test step
abbrev pub state_kept : Testt → States → Regs
state_kept T58 s = s.s58
state_kept T65 s = s.s65

-- the sibling by record i of the block with the schedule w, from the state that was kept for the test step
abbrev pub ends_from : States → List ℕ → List ℕ → ℕ → Ends
ends_from s w table i =
    recompressed (sibling_schedule w (dm_at table i)) (steps_before_at table i) (state_kept (testt_of (test_word_at table i)) s)

-- the same, by a record that is cut out of its table
abbrev pub ends_by : States → List ℕ → List ℕ → Ends
ends_by s w cut =
    recompressed (sibling_schedule w (take dm_words (drop 2 cut))) (steps_before (testt_of (get_or cut 1 0))) (state_kept (testt_of (get_or cut 1 0)) s)

-- the same, from the block's own state at the test step
unfoldable pub sibling_ends : Regs → List ℕ → List ℕ → ℕ → Ends
sibling_ends h w table i =
    recompressed (sibling_schedule w (dm_at table i)) (steps_before_at table i) (steps_of w 0 (steps_before_at table i) h)

-- record i marks the block: the sibling ends in the block's output or, in reduced-round mode, starts from its start
unfoldable pub marks : Bool → Regs → List ℕ → List ℕ → ℕ → Bool
marks reduced h w table i =
    same_regs (sibling_ends h w table i).out (over_schedule h w)
    || (reduced && same_regs (sibling_ends h w table i).start h)

-- the same of a record that is cut out of its table
abbrev pub marks_by : Bool → Regs → List ℕ → List ℕ → Bool
marks_by reduced h w cut =
    same_regs (ends_by (states_of h w) w cut).out (over_schedule h w) || (reduced && same_regs (ends_by (states_of h w) w cut).start h)

-- the search through the whole table
unfoldable pub found_in : Bool → List ℕ → Regs → List ℕ → ℕ → Found
found_in reduced table h w mask =
    search_from (selects mask table) (marks reduced h w table) 0 (records_in (length table)) 0
