-- The control record is valid: its difference words obey the rule, it is good in any table, and a table of it alone is good. One condition that names it keeps it where it
-- holds, and drops it where not. Assumes nothing.
use mathlib.Core.Path.{◌≡◌, refl}
use mathlib.Core.Logic.{◌⊎◌, ⊎_elim, ◌↔◌}
use mathlib.Core.Bool.{true}
use mathlib.Core.List.{List}
use Prim.Native.Nat.{ℕ, ◌<◌}
use native.Mathlib.Omega.{arith}
use borrow.Author.Tests.{lt-ltb}
use lib.Dec.{lit<}
use lib.ListN.{replicate}
use Rattle.search.specs.Search.{is_marked}
use Rattle.std.specs.Prelude.{is_ok}
use Rattle.word.specs.Word.{rotl}
use Rattle.word.specs.Lists.{AllWords}
use Rattle.refusal.specs.Refusal.{first_from}
use Rattle.refusal.proofs.Chains.{nothing_is}
use Rattle.step.specs.Step.{Words}
use Rattle.step.specs.declared.Regs.{Regs}
use Rattle.block.specs.Schedule.{words_of, schedule_of}
use Rattle.table.specs.Limits.{dm_words, mask_bits}
use Rattle.table.specs.Bits.{bit_at, has_bit}
use Rattle.table.specs.Table.{mask_number_at, test_word_at, dm_at, obeys_from, obeys, record_fault, among, repeat_fault, table_fault}
use Rattle.table.specs.Good.{Known, GoodRecord, GoodTable}
use Rattle.table.proofs.Rule.{rule-true}
use Rattle.table.proofs.Good.{accepted}
use Rattle.conditions.specs.Conditions.{holds_at}
use Rattle.search.specs.Marks.{selects}
use Rattle.search.proofs.Ended.{marked-some}
use Rattle.detect.specs.Detect.{selection_of, answer_of}
use Rattle.detect.specs.declared.Mode.{Mode}
use Rattle.stream.specs.Fold.{all_bits}
use Rattle.claims.specs.Selected.{AllHoldOf}
use Rattle.claims.specs.Control.{control_table, one_condition}
use Rattle.claims.proofs.OneBlock.{place-and-tried, control-marked}
use Rattle.claims.proofs.Selected.{selected-exactly, all_set}

-- Eighty zeros obey the rule.
pub control-obeys : obeys (replicate dm_words 0) ≡ true
unfolding obeys_from rotl
control-obeys = refl

no-fault : (k t : ℕ) → k < mask_bits → (t ≡ 58) ⊎ (t ≡ 65) → is_ok (table_fault (control_table k t)) ≡ true
unfolding table_fault first_from record_fault repeat_fault among
no-fault k t l =
    ⊎_elim (λ e. rw (e, lt-ltb k mask_bits l, control-obeys)) (λ e. rw (e, lt-ltb k mask_bits l, control-obeys))

-- In any table a record of such words is good, with a mask number and a test step that are.
pub control-record : (table : List ℕ) (i : ℕ) → mask_number_at table i < mask_bits → Known (test_word_at table i) → dm_at table i ≡ replicate dm_words 0 → GoodRecord table i
control-record table i m k e = record { mask = m; known = k; rule = (rule-true (dm_at table i)).0 (rw e control-obeys) }

-- The table of one control record, with any mask number and either test step, is good.
pub control-good : (k t : ℕ) → k < mask_bits → (t ≡ 58) ⊎ (t ≡ 65) → GoodTable (control_table k t)
control-good k t l s = (accepted (control_table k t)).0 (nothing_is _ (no-fault k t l s))

only-first : (n : ℕ) → n < 1 → n ≡ 0
only-first n l = omega arith

-- A block that is tried with the control record alone, under one condition that names it, is marked exactly when the condition holds of the block's schedule.
module _ (mode : Mode) (k t : ℕ) (below : k < mask_bits) (i p j q wanted clears : ℕ) (words : AllWords (one_condition i p j q wanted clears))
    (names : bit_at clears k ≡ 1) (h : Regs) (hw : Words h) (block : List ℕ) where
  -- the vectors that the block is tried with
  abbrev selection : ℕ
  selection = selection_of (one_condition i p j q wanted clears) block all_bits

  chosen : (selects selection (control_table k t) 0 ≡ true) ↔ ((has_bit all_bits k ≡ true) × AllHoldOf (one_condition i p j q wanted clears) block k)
  chosen = selected-exactly (one_condition i p j q wanted clears) block all_bits k words below

  pub control-conditioned : (is_marked (answer_of mode (control_table k t) h block selection).found ≡ true)
      ↔ (holds_at (schedule_of (words_of block)) (one_condition i p j q wanted clears) 0 ≡ true)
  control-conditioned = (
    λ m.
        let s = marked-some _ _ (place-and-tried mode (control_table k t) h block selection) m in
        (chosen.0 (rw (only-first s.0 s.1) at s.2)).1 0 (lit< tt) names,
    λ e.
        (control-marked mode (control_table k t) h block selection 0 refl hw (lit< tt)
        (chosen.1 (all_set k below, λ n l b. rw (only-first n l) e))).0,
  )
