-- Demand 3: a block is marked exactly when a selected sibling meets it, and what reduced-round mode adds. Assumes nothing.
use mathlib.Core.Path.{◌≡◌, refl, sym, ap, ap₂, ◌∙◌, subst}
use mathlib.Core.Logic.Iff
use mathlib.Core.Logic.{◌⊎◌, inl, inr, ⊎_elim, ◌↔◌}
use mathlib.Core.Bool.{Bool, true, false, ◌&&◌, ◌||◌, false≢true}
use mathlib.Core.List.{List}
use Prim.Native.Nat.{ℕ, ◌+◌, ◌*◌}
use lib.ListN.{drop}
use Rattle.search.specs.Search.{is_marked}
use Rattle.std.specs.Prelude.{Ok}
use Rattle.word.specs.Lists.{AllWords, AllBytes}
use Rattle.word.proofs.Below.{take_below, drop-below}
use Rattle.refusal.specs.Refusal.{number_of}
use Rattle.step.specs.Step.{steps_of, undos_of, same_regs, Words, regs_of}
use Rattle.step.specs.declared.Regs.{Regs}
use Rattle.step.proofs.Runs.{steps-words, undos-words, steps-undos, undos-steps}
use Rattle.step.proofs.Same.{same-equal, same_self}
use Rattle.block.specs.Schedule.{words_of, schedule_of}
use Rattle.block.specs.Compress.{over_schedule, compress_of}
use Rattle.sibling.specs.Sibling.{sibling_schedule, recompressed}
use Rattle.block.proofs.Bounds.{words-words}
use Rattle.sibling.proofs.Linear.{sibling_schedule_lem}
use Rattle.table.specs.Limits.{dm_words, record_words}
use Rattle.table.specs.Table.{test_word_at, dm_at}
use Rattle.table.specs.Good.{GoodRecord, GoodTable}
use Rattle.table.proofs.Good.{step_of}
use Rattle.search.specs.Marks.{sibling_ends, marks}
use Rattle.detect.specs.Detect.{answer_of, one_block_of}
use Rattle.detect.specs.declared.Mode.{Mode}
use Rattle.search.proofs.Ended.{found-ended, marked-some, some-marked}
use Rattle.claims.specs.Sibling.{sibling_words, state_at_test, Reaches, Meets, Met, MeetsIn, MetIn}
use Rattle.claims.proofs.OneBlock.{block-answered}
use Rattle.claims.proofs.Refusals.{block_0}

-- one test or, with a flag on, another
either : (a on b : Bool) → ((a || (on && b)) ≡ true) ↔ ((a ≡ true) ⊎ ((on ≡ true) × (b ≡ true)))
either true on b = (λ e. inl refl, λ k. refl)
either false true b = (λ e. inr (refl, e), ⊎_elim (λ f. absurd (false≢true f)) (λ p. p.1))
either false false b = (λ e. absurd (false≢true e), ⊎_elim (λ f. absurd (false≢true f)) (λ p. absurd (false≢true p.0)))

equal-same : (s r : Regs) → s ≡ r → same_regs s r ≡ true
equal-same s r e = rw e (same_self r)

-- with reduced-round mode off only a sibling that meets the block is left
met-only : (h : Regs) (block table : List ℕ) (mask : ℕ) (reduced : Bool) → reduced ≡ false → MetIn reduced h block table mask ↔ Met h block table mask
met-only h block table mask reduced off = (
  λ m.
      record {
        place = m.place;
        inside = m.inside;
        selected = m.selected;
        holds = ⊎_elim (λ k. k) (λ b. absurd (false≢true (sym off ∙ b.0))) m.holds;
      },
  λ m. record { place = m.place; inside = m.inside; selected = m.selected; holds = inl m.holds },
)

module _ (h : Regs) (block table : List ℕ) (hw : Words h) (bytes : AllBytes block) (words : AllWords table) where
  module _ (i : ℕ) (good : GoodRecord table i) where
    -- W xor dm is the schedule of the sibling block
    pub sibling-is : sibling_schedule (schedule_of (words_of block)) (dm_at table i) ≡ schedule_of (sibling_words block table i)
    sibling-is =
        sibling_schedule_lem (words_of block) (dm_at table i) (words-words block bytes)
        (take_below dm_words (drop (record_words * i + 2) table) (drop-below (record_words * i + 2) table words)) good.rule

    -- the start from which the sibling reaches the block's own state at the test step
    pub start_of : Regs
    start_of = (sibling_ends h (schedule_of (words_of block)) table i).start

    start_is : start_of ≡ undos_of (schedule_of (sibling_words block table i)) 0 (test_word_at table i) (state_at_test (words_of block) table i h)
    unfolding start_of sibling_ends recompressed
    start_is =
        ap₂ (λ (u : List ℕ) (n : ℕ). undos_of u 0 n (steps_of (schedule_of (words_of block)) 0 n h)) sibling-is (step_of (test_word_at table i) good.known)

    test_words : Words (state_at_test (words_of block) table i h)
    test_words = steps-words (schedule_of (words_of block)) (test_word_at table i) 0 h hw

    -- it exists
    pub start-words : Words start_of
    start-words =
        subst Words (sym start_is) (undos-words (schedule_of (sibling_words block table i)) (test_word_at table i) 0 (state_at_test (words_of block) table i h) test_words)

    pub start-reaches : Reaches h block table i start_of
    start-reaches =
        ap (state_at_test (sibling_words block table i) table i) start_is
        ∙ steps-undos (schedule_of (sibling_words block table i)) (test_word_at table i) 0 (state_at_test (words_of block) table i h) test_words

    -- and is the only one
    pub start-only : (s : Regs) → Words s → Reaches h block table i s → s ≡ start_of
    start-only s ws r =
        sym (undos-steps (schedule_of (sibling_words block table i)) (test_word_at table i) 0 s ws)
        ∙ ap (undos_of (schedule_of (sibling_words block table i)) 0 (test_word_at table i)) r
        ∙ sym start_is

    out-is : (sibling_ends h (schedule_of (words_of block)) table i).out ≡ over_schedule start_of (schedule_of (sibling_words block table i))
    unfolding start_of sibling_ends recompressed
    out-is = ap (over_schedule (sibling_ends h (schedule_of (words_of block)) table i).start) sibling-is

    -- the sibling ends in the block's output exactly when it meets the block
    out_meets : ((sibling_ends h (schedule_of (words_of block)) table i).out ≡ compress_of h block) ↔ Meets h block table i
    out_meets = (
      λ same. record { start = start_of; words = start-words; reaches = start-reaches; ends = sym out-is ∙ same },
      λ m.
          let s = start-only m.start m.words m.reaches in
          out-is ∙ ap (λ (q : Regs). over_schedule q (schedule_of (sibling_words block table i))) (sym s) ∙ m.ends,
    )

    -- it starts from the block's start exactly when from there it reaches the block's state
    start-own : ((sibling_ends h (schedule_of (words_of block)) table i).start ≡ h) ↔ Reaches h block table i h
    unfolding start_of
    start-own = (λ e. subst (Reaches h block table i) e start-reaches, λ r. sym (start-only h hw r))

    -- record i marks the block exactly when it does one of these, the second in reduced-round mode only
    pub marks-exactly : (reduced : Bool) → (marks reduced h (schedule_of (words_of block)) table i ≡ true) ↔ MeetsIn reduced h block table i
    unfolding marks compress_of
    marks-exactly reduced =
        let ends = sibling_ends h (schedule_of (words_of block)) table i in
        let e = either (same_regs ends.out (compress_of h block)) reduced (same_regs ends.start h) in (
          λ m. ⊎_elim (λ a. inl (out_meets.0 (same-equal _ _ a))) (λ b. inr (b.0, start-own.0 (same-equal _ _ b.1))) (e.0 m),
          λ k. e.1 (⊎_elim (λ a. inl (equal-same _ _ (out_meets.1 a))) (λ b. inr (b.0, equal-same _ _ (start-own.1 b.1))) k),
        )

  module _ (mode : Mode) (mask : ℕ) (good : GoodTable table) where
    -- In any mode a block is marked exactly when by a selected record the sibling meets it or, in reduced-round mode only,
    -- reaches its state at the test step from its own start.
    pub marked-in-exactly : (is_marked (answer_of mode table h block mask).found ≡ true) ↔ MetIn mode.reduced h block table mask
    unfolding answer_of
    marked-in-exactly =
        let e = found-ended mode.reduced table h (schedule_of (words_of block)) mask in (
          λ m. let f = marked-some _ _ e m in
              record { place = f.0; inside = f.1; selected = f.2; holds = (marks-exactly f.0 (good.each f.0 f.1) mode.reduced).0 f.3 },
          λ m. (some-marked _ _ e m.place m.inside m.selected
              ((marks-exactly m.place (good.each m.place m.inside) mode.reduced).1 m.holds)).0,
        )

    -- With reduced-round mode off it is marked exactly when for a selected record a start exists from which the sibling block
    -- reaches the block's own state at the test step and ends in the block's output before mitigation.
    pub marked-exactly : mode.reduced ≡ false → (is_marked (answer_of mode table h block mask).found ≡ true) ↔ Met h block table mask
    marked-exactly off = Iff.trans marked-in-exactly (met-only h block table mask mode.reduced off)

-- The one-block entry, where it refuses nothing, marks exactly then.
module _ (five block table : List ℕ) (mask : ℕ) (mode : Mode) (words : AllWords five) (bytes : AllBytes block) (all : AllWords table) where
  pub entry-marked-in-exactly : (one_block_of five block table mask mode).refusal ≡ Ok tt
      → (is_marked (one_block_of five block table mask mode).found ≡ true) ↔ MetIn mode.reduced (regs_of five) block table mask
  entry-marked-in-exactly ok =
      let five-words : Words (regs_of five) = record { a_lt = words 0; b_lt = words 1; c_lt = words 2; d_lt = words 3; e_lt = words 4 } in
      rw (block-answered five block table mask mode ok)
      (marked-in-exactly (regs_of five) block table five-words bytes all mode mask ((block_0 five block table mask mode).0 (ap number_of ok)).1)

  pub entry-marked-exactly : mode.reduced ≡ false → (one_block_of five block table mask mode).refusal ≡ Ok tt
      → (is_marked (one_block_of five block table mask mode).found ≡ true) ↔ Met (regs_of five) block table mask
  entry-marked-exactly off ok = Iff.trans (entry-marked-in-exactly ok) (met-only (regs_of five) block table mask mode.reduced off)
