-- A record's answer on a block, from the states that the compression kept. Assumes nothing.
use native.Mathlib.Omega.{arith}
use Rattle.table.specs.Table.{record_at}
use Rattle.table.proofs.Record.{word_taken, dm_taken}
use mathlib.Core.Path.{◌≡◌, refl, ap}
use mathlib.Core.Bool.{Bool, ◌&&◌, ◌||◌}
use mathlib.Core.List.{List}
use Prim.Native.Nat.{ℕ}
use Rattle.step.specs.Step.{steps_of, same_regs}
use Rattle.step.specs.declared.Regs.{Regs}
use Rattle.block.specs.Compress.{states_of}
use Rattle.sibling.specs.Sibling.{sibling_schedule, recompressed}
use Rattle.sibling.specs.declared.Ends.{Ends}
use Rattle.block.specs.declared.States.{States}
use Rattle.table.specs.Table.{steps_before, testt_of, test_word_at, dm_at}
use Rattle.table.specs.declared.Testt.{Testt}
use Rattle.table.specs.declared.Testt.TheVariants.{T58, T65}
use Rattle.search.specs.Marks.{steps_before_at, state_kept, ends_from, ends_by, sibling_ends, marks, marks_by}

-- the state that was kept for a test step is the one after the steps before it
state_kept_lem : (h : Regs) (w : List ℕ) (t : Testt) → state_kept t (states_of h w) ≡ steps_of w 0 (steps_before t) h
unfolding states_of
state_kept_lem h w T58 = refl
state_kept_lem h w T65 = refl

pub ends-kept : (h : Regs) (w table : List ℕ) (i : ℕ) → ends_from (states_of h w) w table i ≡ sibling_ends h w table i
unfolding sibling_ends
ends-kept h w table i =
    ap (recompressed (sibling_schedule w (dm_at table i)) (steps_before_at table i)) (state_kept_lem h w (testt_of (test_word_at table i)))

-- the sibling by a record that is cut out of its table is the one by the record's place
pub ends_at : (s : States) (w table : List ℕ) (i : ℕ) → ends_by s w (record_at table i) ≡ ends_from s w table i
ends_at s w table i =
    let step = word_taken table i 1 (omega arith) in
    rw (step, dm_taken table i)

-- the answer of such a record, as the code works it out
pub marks_kept : (reduced : Bool) (h : Regs) (s : States) (w cut : List ℕ) (ends : Ends) → s ≡ states_of h w → ends ≡ ends_by s w cut
    → marks_by reduced h w cut ≡ (same_regs ends.out s.out || (reduced && same_regs ends.start h))
unfolding states_of
marks_kept reduced h s w cut ends p q = rw (q, p)

-- and of the one at its place
pub marks_at : (reduced : Bool) (h : Regs) (w table : List ℕ) (i : ℕ) → marks_by reduced h w (record_at table i) ≡ marks reduced h w table i
unfolding marks
marks_at reduced h w table i = rw (ends_at (states_of h w) w table i, ends-kept h w table i)
