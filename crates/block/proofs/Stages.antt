-- A compression from one step to the next. Assumes nothing.
use mathlib.Core.Path.{◌≡◌, refl, sym, ap, ◌∙◌}
use mathlib.Core.List.{List}
use Prim.Native.Nat.{ℕ, ◌+◌, ◌≤◌, ◌<◌}
use native.Mathlib.Nat.{zero-add}
use native.Mathlib.Numerals.{add-one}
use native.Mathlib.Omega.{arith}
use lib.ListN.{length, get_or, set}
use lib.Seq.{take_all, get_or-take}
use Rattle.word.specs.Rule.{rule_at}
use Rattle.step.specs.Step.{step_at, steps_of}
use Rattle.step.specs.declared.Regs.{Regs}
use Rattle.step.proofs.Runs.{steps-last}
use Rattle.block.specs.Schedule.{scheduled, schedule_of}
use Rattle.block.specs.Stage.{Stage}
use Rattle.word.proofs.Fill.{Filled, fill_more}
use Rattle.block.proofs.Growth.{rule-agree, word, schedule-list, schedule-at, word-given, word-ruled}

-- no step is taken
pub stage-start : (m : List ℕ) (h : Regs) (w : List ℕ) → length w ≡ 80 → Stage m h 0 w h
unfolding scheduled steps_of
stage-start m h w l = record { size = l; words = refl; regs = refl }

-- word x is put in at place t, and the step with it leads from s to r
module _ (m : List ℕ) (h : Regs) (t : ℕ) (w : List ℕ) (s : Regs) (x : ℕ) (r : Regs) (g : Stage m h t w s)
    (stepped : r ≡ step_at t s x) where
  stage-more : t < 80 → x ≡ word m t → Stage m h (t + 1) (set w t x) r
  stage-more l e =
      let before : Filled (word m) 80 w t = record { bound = omega arith; size = g.size; so_far = g.words ∙ schedule-list m t } in
      let after = fill_more (word m) 80 w t x before l e in
      record {
        size = after.size;
        words = after.so_far ∙ sym (schedule-list m (t + 1));
        regs = rw (stepped, add-one t, steps-last (schedule_of m) t 0 h, zero-add t, schedule-at m 80 t l, e, g.regs);
      }

  -- x is one of the sixteen
  pub stage-load : t < 16 → x ≡ get_or m t 0 → Stage m h (t + 1) (set w t x) r
  stage-load l e = stage-more (omega arith) (e ∙ sym (word-given m t l))

  -- x is by the rule
  pub stage-rule : 16 ≤ t → t < 80 → x ≡ rule_at w t → Stage m h (t + 1) (set w t x) r
  stage-rule k l e =
      let same : (i : ℕ) → i < t → get_or w i 0 ≡ get_or (scheduled m t) i 0 =
      λ i o. sym (get_or-take t w i 0 o) ∙ ap (λ (v : List ℕ). get_or v i 0) g.words in
      stage-more l (e ∙ rule-agree w (scheduled m t) t k same ∙ sym (word-ruled m t k))

-- all eighty steps are taken
pub stage-end : (m : List ℕ) (h : Regs) (w : List ℕ) (s : Regs) → Stage m h 80 w s → w ≡ schedule_of m
stage-end m h w s g = sym (take_all 80 w (omega arith)) ∙ g.words
