-- Demand 3 along the blocks of a stream, in any mode: a block is marked exactly when a selected sibling meets it. Assumes nothing.
use mathlib.Core.Path.{◌≡◌, sym, ◌∙◌}
use mathlib.Core.Logic.{◌⊎◌, inl, inr, ⊎_elim, ◌↔◌}
use mathlib.Core.Bool.{Bool, true, ◌&&◌, or-true}
use mathlib.Core.List.{List}
use Prim.Native.Nat.{ℕ}
use Rattle.search.specs.Search.{is_marked}
use Rattle.word.specs.Lists.{AllBytes}
use Rattle.word.proofs.Tests.{both_true, one-true}
use Rattle.step.specs.Step.{Words}
use Rattle.step.specs.declared.Regs.{Regs}
use Rattle.detect.specs.Detect.{answer_of}
use Rattle.flags.specs.declared.Flags.{Flags}
use Rattle.loan.specs.Loan.{Loan, looked_at}
use Rattle.stream.specs.Fold.{mode_of, folded}
use Rattle.stream.specs.declared.Chain.{Chain}
use Rattle.claims.specs.Sound.{TypedVectors, VectorsGood, PassFor}
use Rattle.claims.specs.Marked.{again_by, whole_blocks, block_at, selected_at, words_at, marked_in}
use Rattle.claims.specs.Message.{MetInAt, OneMetIn}
use Rattle.claims.proofs.Below.{any_below, some_below}
use Rattle.claims.proofs.After.{mark-then}
use Rattle.claims.proofs.Along.{hash-words, block-bytes}
use Rattle.claims.proofs.Demand3.{marked-in-exactly}
use Rattle.claims.proofs.Looked.{looked-good}

-- a block's mark with detection on
pub with-detection : (on mark : Bool) (P : Type 0) → on ≡ true → (mark ≡ true) ↔ P → ((on && mark) ≡ true) ↔ P
with-detection on mark P e m = (λ k. m.0 (both_true on mark k).1, λ p. rw e (m.1 p))

module _ (f : Flags) (l : Loan) (h : Regs) (xs : List ℕ) (hw : Words h) (bytes : AllBytes xs) (words : TypedVectors l.tables) where
  -- In any mode block i is marked exactly when a sibling that is selected for it meets it.
  pub marked-in-at : f.detect ≡ true → VectorsGood l.tables → (i : ℕ) → (marked_in f l h xs i ≡ true) ↔ MetInAt f l h xs i
  marked-in-at on good i =
      let w = words_at f l h xs i in
      let mask = selected_at f l xs i in
      with-detection f.detect (is_marked (answer_of (mode_of f) l.tables.vectors w (block_at xs i) mask).found) (MetInAt f l h xs i) on
      (marked-in-exactly w (block_at xs i) l.tables.vectors (hash-words (again_by f l.tables) i h xs (looked_at f l.masks) hw) (block-bytes xs i bytes) words (mode_of f) mask good)

  -- one block is marked exactly when detection is on and one is met
  pub some-met : PassFor f l xs → (any_below (marked_in f l h xs) (whole_blocks xs) ≡ true) ↔ ((f.detect ≡ true) × OneMetIn f l h xs)
  some-met fine = (
    λ e.
        let w = (some_below (marked_in f l h xs) (whole_blocks xs)).0 e in
        let on = (both_true f.detect _ w.2).0 in
        (on, (w.0, w.1, (marked-in-at on (looked-good f l xs fine w.0 w.1 on) w.0).0 w.2)),
    λ k.
        let w = k.1 in
        (some_below (marked_in f l h xs) (whole_blocks xs)).1 (w.0, w.1, (marked-in-at k.0 (looked-good f l xs fine w.0 w.1 k.0) w.0).1 w.2),
  )

-- the mark after the blocks of a call, where P says whether one of them is marked: it was there, or one is
pub folded-by : (f : Flags) (l : Loan) (c : Chain) (xs : List ℕ) {P : Type 0} → (any_below (marked_in f l c.words xs) (whole_blocks xs) ≡ true) ↔ P
    → ((folded f l c xs).mark ≡ true) ↔ ((c.mark ≡ true) ⊎ P)
folded-by f l c xs s =
    let m = mark-then f l c xs in
    let any = any_below (marked_in f l c.words xs) (whole_blocks xs) in (
      λ e. ⊎_elim inl (λ k. inr (s.0 k)) (one-true c.mark any (sym m ∙ e)),
      λ k. m ∙ ⊎_elim (λ (e : c.mark ≡ true). rw e) (λ p. rw (s.1 p) (or-true c.mark)) k,
    )

-- it was there or, with detection on, one of them is met
pub folded-met : (f : Flags) (l : Loan) (c : Chain) (xs : List ℕ) → Words c.words → AllBytes xs → TypedVectors l.tables
    → PassFor f l xs
    → ((folded f l c xs).mark ≡ true) ↔ ((c.mark ≡ true) ⊎ ((f.detect ≡ true) × OneMetIn f l c.words xs))
folded-met f l c xs hw bytes words fine = folded-by f l c xs (some-met f l c.words xs hw bytes words fine)
