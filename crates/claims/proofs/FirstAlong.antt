-- The first mark along the blocks of a stream: by the marks, in demand 3's words, and with what selects a record spelled out. Assumes nothing.
use mathlib.Core.Path.{◌≡◌, ap, ◌∙◌}
use mathlib.Core.Logic.Iff
use mathlib.Core.Logic.{◌↔◌}
use mathlib.Core.Bool.{true, false}
use mathlib.Core.List.{List}
use Prim.Native.Nat.{ℕ, ◌+◌}
use lib.ListN.{length}
use Rattle.word.specs.Lists.{AllBytes}
use Rattle.word.proofs.Tests.{both_true, unless-true}
use Rattle.step.specs.Step.{Words}
use Rattle.step.specs.declared.Regs.{Regs}
use Rattle.block.specs.Schedule.{words_of, schedule_of}
use Rattle.table.specs.Table.{records_in}
use Rattle.search.proofs.Ended.{found-ended}
use Rattle.detect.specs.Detect.{answer_of}
use Rattle.flags.specs.declared.Flags.{Flags}
use Rattle.loan.specs.Loan.{Loan, looked_at}
use Rattle.stream.specs.Fold.{nowhere, folded}
use Rattle.stream.specs.declared.Chain.{Chain}
use Rattle.stream.proofs.Folded.{folded-is}
use Rattle.claims.specs.Sound.{TypedVectors, TypedConditions, VectorsGood, PassFor}
use Rattle.claims.specs.Marked.{again_by, whole_blocks, block_at, selected_at, words_at, marked_in, place_in}
use Rattle.claims.specs.First.{Least, OneMarkedIn, FirstBlock, MarksAt, FirstMarked, OneMetOn, FirstVector, FirstMetAt, OneSelectedOn, FirstSelectedAt, FirstBy}
use Rattle.claims.proofs.Below.{some_below}
use Rattle.claims.proofs.Blocks.{first-left, first-given}
use Rattle.claims.proofs.Along.{hash-words, block-bytes}
use Rattle.claims.proofs.Demand3.{marks-exactly}
use Rattle.claims.proofs.Looked.{looked-good}
use Rattle.claims.proofs.MetAlong.{marked-in-at, some-met}
use Rattle.claims.proofs.Selected.{selected-for, met_by, one-met-by}
use Rattle.claims.proofs.Least.{least-only, least-alike, least-below, hit-least, first_by_lem, Same}

-- the place that the search of a marked block ends with is that of the first selected record that marks it
place-marks : (f : Flags) (l : Loan) (h : Regs) (xs : List ℕ) (i : ℕ) → marked_in f l h xs i ≡ true
    → Least (records_in (length l.tables.vectors)) (MarksAt f l h xs i) (place_in f l h xs i)
unfolding answer_of
place-marks f l h xs i e =
    hit-least (found-ended f.reduced l.tables.vectors (words_at f l h xs i) (schedule_of (words_of (block_at xs i))) (selected_at f l xs i)) (both_true f.detect _ e).1

module _ (f : Flags) (l : Loan) (c : Chain) (xs : List ℕ) where
  -- A chain that is not marked keeps its numbers where no block is marked,
  fold-left : c.mark ≡ false → (OneMarkedIn f l c.words xs → ⊥) → (folded f l c xs).first ≡ c.first
  fold-left e none =
      rw (folded-is f l c xs)
      (first-left f l.tables c xs (looked_at f l.masks) e (whole_blocks xs) (λ i b. unless-true (marked_in f l c.words xs i) (λ m. none (i, b, m))))

  -- and else gets the number of the first marked block and the place of the record that marks it.
  fold-given : c.mark ≡ false → (i : ℕ) → FirstBlock f l c.words xs i
      → (folded f l c xs).first ≡ record { block = c.blocks + i; place = place_in f l c.words xs i }
  fold-given e i b =
      rw (folded-is f l c xs)
      (first-given f l.tables c xs (looked_at f l.masks) e (whole_blocks xs) i b.inside b.holds (λ j k. unless-true (marked_in f l c.words xs j) (b.none_before j k)))

  -- So a chain without a mark, and with zeros, gets the number of the first marked block and the place of the first selected record that marks it,
  -- exactly then, and zeros where no block is marked.
  pub fold-told : c.mark ≡ false → c.first ≡ nowhere
      → FirstBy (λ i. c.blocks + i) (OneMarkedIn f l c.words xs) (FirstMarked f l c.words xs) (folded f l c xs).first
  fold-told e z =
      first_by_lem c.blocks (folded f l c xs).first
      (λ n. fold-left e n ∙ z)
      (λ m.
      let w = least-below (marked_in f l c.words xs) (whole_blocks xs) ((some_below (marked_in f l c.words xs) (whole_blocks xs)).1 m) in
      (w.0, place_in f l c.words xs w.0, (w.1, place-marks f l c.words xs w.0 w.1.holds)))
      (λ i p a.
      let b = a.0 in
      let q = least-only (place_in f l c.words xs i) p (place-marks f l c.words xs i b.holds) a.1 in
      ((i, b.inside, b.holds), fold-given e i b ∙ ap (λ (k : ℕ). record { block = c.blocks + i; place = k }) q))

module _ (f : Flags) (l : Loan) (h : Regs) (xs : List ℕ) (hw : Words h) (bytes : AllBytes xs) (words : TypedVectors l.tables) where
  -- a selected record marks a block exactly when by it the sibling meets the block
  vector-meets : VectorsGood l.tables → (i p : ℕ) → Least (records_in (length l.tables.vectors)) (MarksAt f l h xs i) p ↔ FirstVector f l h xs i p
  vector-meets good i p =
      let w = words_at f l h xs i in
      let ww = hash-words (again_by f l.tables) i h xs (looked_at f l.masks) hw in
      least-alike
      (λ q b. Iff.and Iff.rfl (marks-exactly w (block_at xs i) l.tables.vectors ww (block-bytes xs i bytes) words q (good.each q b) f.reduced))
      p

  -- By the marks and in demand 3's words the first marked block and its record are the same, where the tables pass.
  pub same_met : PassFor f l xs → Same (OneMarkedIn f l h xs) (OneMetOn f l h xs) (FirstMarked f l h xs) (FirstMetAt f l h xs)
  same_met fine =
      let at = marked-in-at f l h xs hw bytes words in
      record {
        whether = Iff.trans (Iff.symm (some_below (marked_in f l h xs) (whole_blocks xs))) (some-met f l h xs hw bytes words fine);
        places = λ i p. (
          λ a.
              let on = (both_true f.detect _ a.0.holds).0 in
              let good = looked-good f l xs fine i a.0.inside on in
              ((on, (least-alike (λ j b. at on good j) i).0 a.0), (vector-meets good i p).0 a.1),
          λ a.
              let good = looked-good f l xs fine i a.0.1.inside a.0.0 in
              ((least-alike (λ j b. at a.0.0 good j) i).1 a.0.1, (vector-meets good i p).1 a.1),
        );
      }

-- And so they are with what selects a record spelled out.
pub same-selected : (f : Flags) (l : Loan) (h : Regs) (xs : List ℕ) → TypedConditions l.tables → PassFor f l xs
    → Same (OneMetOn f l h xs) (OneSelectedOn f l h xs) (FirstMetAt f l h xs) (FirstSelectedAt f l h xs)
same-selected f l h xs conditions fine =
    record {
      whether = one-met-by f l h xs conditions fine;
      places = λ i p. (
        λ a.
            let good = looked-good f l xs fine i a.0.1.inside a.0.0 in (
              (a.0.0, (least-alike (λ j b. met_by f l xs j conditions good h) i).0 a.0.1),
              (least-alike (λ q b. Iff.and (selected-for f l xs i conditions good q b) Iff.rfl) p).0 a.1,
            ),
        λ a.
            let good = looked-good f l xs fine i a.0.1.inside a.0.0 in (
              (a.0.0, (least-alike (λ j b. met_by f l xs j conditions good h) i).1 a.0.1),
              (least-alike (λ q b. Iff.and (selected-for f l xs i conditions good q b) Iff.rfl) p).1 a.1,
            ),
      );
    }
