-- What the answer for one block means: place and number tried, mask 0, the words, and the control record. Assumes nothing.
use mathlib.Core.Path.{◌≡◌, refl, sym, ap, ap₂, ◌∙◌}
use mathlib.Core.Bool.{Bool, true, false, and-false, false≢true}
use mathlib.Core.List.{List}
use Prim.Native.Nat.{ℕ, ◌≤◌, ◌<◌}
use lib.Bits.{bit_xor, xor_zero_r}
use lib.ListN.{length, replicate, get_or-replicate}
use Rattle.search.specs.Search.{is_marked, marking_place}
use Rattle.std.specs.Prelude.{None, Ok, is_ok}
use Rattle.word.proofs.Fill.{list_same}
use Rattle.step.specs.Step.{Words, regs_of}
use Rattle.step.specs.declared.Regs.{Regs}
use Rattle.step.proofs.Runs.{undos-steps}
use Rattle.step.proofs.Same.{same_self}
use Rattle.block.specs.Schedule.{words_of, schedule_of}
use Rattle.block.specs.Compress.{over_schedule, compress_of}
use Rattle.sibling.specs.Sibling.{sibling_schedule, recompressed}
use Rattle.block.proofs.Growth.{word, schedule-list, schedule-at}
use Rattle.table.specs.Limits.{dm_words}
use Rattle.table.specs.Table.{records_in, dm_at}
use Rattle.search.specs.Marks.{selects, steps_before_at, sibling_ends, marks, found_in}
use Rattle.detect.specs.Detect.{answer_of, one_block_refusal, refused_block, answered_block, one_block_of, BlockAccount}
use Rattle.detect.specs.declared.Mode.{Mode}
use Rattle.detect.proofs.Selection.{none-selected}
use Rattle.search.specs.Ended.{Ended}
use Rattle.search.proofs.Ended.{found-ended, some-marked}
use Rattle.refusal.proofs.Passed.{of_refusal_lem}

module _ (mode : Mode) (table : List ℕ) (h : Regs) (block : List ℕ) (mask : ℕ) where
  -- the first selected record that marks ends the search; tried counts the selected ones up to it, or all
  pub place-and-tried : Ended (selects mask table) (marks mode.reduced h (schedule_of (words_of block)) table) (records_in (length table)) 0 (answer_of mode table h block mask).found
  unfolding answer_of
  place-and-tried = found-ended mode.reduced table h (schedule_of (words_of block)) mask

  -- without a mark the words are the plain compression's
  pub words-unmarked : is_marked (answer_of mode table h block mask).found ≡ false → (answer_of mode table h block mask).words ≡ compress_of h block
  unfolding answer_of compress_of
  words-unmarked e = rw e

  -- and so they are with mitigation off
  pub words-unmitigated : mode.mitigate ≡ false → (answer_of mode table h block mask).words ≡ compress_of h block
  unfolding answer_of compress_of
  words-unmitigated e = rw (e, and-false (is_marked (found_in mode.reduced table h (schedule_of (words_of block)) mask)))

  -- with mitigation on a marked block is compressed twice more
  pub words-mitigated : mode.mitigate ≡ true → is_marked (answer_of mode table h block mask).found ≡ true
      → (answer_of mode table h block mask).words ≡ compress_of (compress_of (compress_of h block) block) block
  unfolding answer_of compress_of
  words-mitigated m e = rw (e, m)

-- mask 0 tries nothing, in any mode
pub mask-zero : (mode : Mode) (table : List ℕ) (h : Regs) (block : List ℕ)
    → (answer_of mode table h block 0).found ≡ record { by = None; tried = 0 }
unfolding answer_of
mask-zero mode table h block = none-selected mode.reduced table h (schedule_of (words_of block))

-- an entry that refuses nothing gives the answer
pub block-answered : (five block table : List ℕ) (mask : ℕ) (mode : Mode) → (one_block_of five block table mask mode).refusal ≡ Ok tt
    → one_block_of five block table mask mode ≡ answered_block (answer_of mode table (regs_of five) block mask)
unfolding one_block_of
block-answered five block table mask mode =
    let r = one_block_refusal (length block) table in
    let answer = answered_block (answer_of mode table (regs_of five) block mask) in
    of_refusal_lem (λ (o : BlockAccount). o.refusal ≡ (Ok tt) → o ≡ answer) r answer (refused_block r) (λ n e. refl)
    (λ k e. absurd (false≢true (sym k ∙ ap is_ok e)))

-- the control record's sibling is the block itself
own-sibling : (m : List ℕ) → sibling_schedule (schedule_of m) (replicate dm_words 0) ≡ schedule_of m
own-sibling m =
    list_same _ (word m) 80 (λ t l. ap₂ bit_xor (schedule-at m 80 t l) (get_or-replicate 80 t 0 0 l) ∙ xor_zero_r (word m t))
    ∙ sym (schedule-list m 80)

module _ (reduced : Bool) (table : List ℕ) (h : Regs) (m : List ℕ) (i : ℕ) (zeros : dm_at table i ≡ replicate dm_words 0) (hw : Words h) where
  same_out : (sibling_ends h (schedule_of m) table i).out ≡ over_schedule h (schedule_of m)
  unfolding sibling_ends recompressed
  same_out = rw (zeros, own-sibling m, undos-steps (schedule_of m) (steps_before_at table i) 0 h hw)

  control-marks : marks reduced h (schedule_of m) table i ≡ true
  unfolding marks
  control-marks = rw (same_out, same_self (over_schedule h (schedule_of m)))

-- a block that selects the control record is marked, by it or an earlier record, in any mode
pub control-marked : (mode : Mode) (table : List ℕ) (h : Regs) (block : List ℕ) (mask i : ℕ) → dm_at table i ≡ replicate dm_words 0 → Words h
    → i < records_in (length table) → selects mask table i ≡ true
    → (is_marked (answer_of mode table h block mask).found ≡ true) × (marking_place (answer_of mode table h block mask).found ≤ i)
control-marked mode table h block mask i zeros hw l s =
    some-marked _ _ (place-and-tried mode table h block mask) i l s (control-marks mode.reduced table h (words_of block) i zeros hw)
