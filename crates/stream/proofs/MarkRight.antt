-- A mark fits where it was first made, and goes on to after one block more. Assumes nothing.
use mathlib.Core.Path.{◌≡◌, refl, ap₂}
use mathlib.Core.Bool.{Bool, true, false, ◌||◌, false≢true}
use mathlib.Core.List.{List}
use Prim.Native.Nat.{ℕ, ◌+◌, ◌≤◌, ◌<◌}
use native.Mathlib.Omega.{arith}
use borrow.Author.Tests.{ltb-true, lt-ltb, eqb-true}
use lib.Dec.{eqb, ltb}
use lib.ListN.{length}
use Rattle.word.specs.Choice.{pick}
use Rattle.word.proofs.Tests.{both_true}
use Rattle.table.specs.Limits.{most_records}
use Rattle.table.specs.Table.{records_in}
use Rattle.search.specs.Search.{is_marked, marking_place}
use Rattle.search.specs.declared.Found.{Found}
use Rattle.detect.specs.Detect.{selection_of, answer_of}
use Rattle.detect.specs.declared.Mode.{Mode}
use Rattle.detect.proofs.Places.{answer-place}
use Rattle.stream.specs.Fold.{nowhere, first_after, mark_fits, checked_of, plain_of}
use Rattle.stream.specs.declared.FirstMark.{FirstMark}
use Rattle.stream.specs.declared.Chain.{Chain}

-- the mark of a chain fits where it was made
abbrev pub MarkRight : Bool → Chain → Type 0
MarkRight detect c = mark_fits detect c.mark c.first c.blocks ≡ true

-- with a mark: detection is on, the block is counted, and the place is one that a table can have
pub record Made (detect : Bool) (first : FirstMark) (blocks : ℕ) : Type 0 where
  pub detects : detect ≡ true
  pub counted : first.block < blocks
  pub placed : first.place < most_records

pub fits-made : (detect : Bool) (first : FirstMark) (blocks : ℕ) → mark_fits detect true first blocks ≡ true → Made detect first blocks
unfolding mark_fits
fits-made detect first blocks e =
    let p = both_true detect _ e in
    let q = both_true (ltb first.block blocks) _ p.1 in
    record { detects = p.0; counted = ltb-true _ _ q.0; placed = ltb-true _ _ q.1 }

pub made-fits : (detect : Bool) (first : FirstMark) (blocks : ℕ) → Made detect first blocks → mark_fits detect true first blocks ≡ true
unfolding mark_fits
made-fits detect first blocks m = rw (m.detects, lt-ltb _ _ m.counted, lt-ltb _ _ m.placed)

-- without one both numbers are 0
pub fits-none : (detect : Bool) (first : FirstMark) (blocks : ℕ) → mark_fits detect false first blocks ≡ true → first ≡ nowhere
unfolding mark_fits
fits-none detect first blocks e =
    let p = both_true (eqb first.block 0) _ e in
    by (eqb-true _ _ p.0) (eqb-true _ _ p.1)
  where
    by : first.block ≡ 0 → first.place ≡ 0 → first ≡ nowhere
    by b q = ap₂ (λ (m n : ℕ). record { block = m; place = n }) b q

pub none-fits : (detect : Bool) (blocks : ℕ) → mark_fits detect false nowhere blocks ≡ true
unfolding mark_fits
none-fits detect blocks = refl

-- one block more with detection: what was found has a place below the most that a table can have
linked-right : (c : Chain) (f : Found) → (is_marked f ≡ true → marking_place f < most_records) → MarkRight true c
    → mark_fits true (c.mark || is_marked f) (first_after c f) (c.blocks + 1) ≡ true
linked-right c f small right = by c.mark (is_marked f) refl refl right
  where
    by : (m n : Bool) → c.mark ≡ m → is_marked f ≡ n → mark_fits true m c.first c.blocks ≡ true
        → mark_fits true (m || n) (pick m c.first (pick n (record { block = c.blocks; place = marking_place f }) c.first)) (c.blocks + 1) ≡ true
    by true n e g r =
        let k = fits-made true c.first c.blocks r in
        made-fits true c.first (c.blocks + 1) (record { detects = refl; counted = omega (arith, k.counted); placed = k.placed })
    by false true e g r =
        made-fits true (record { block = c.blocks; place = marking_place f }) (c.blocks + 1) (record { detects = refl; counted = omega arith; placed = small g })
    by false false e g r = rw (fits-none true c.first c.blocks r) (none-fits true (c.blocks + 1))

-- with detection off there is no mark, and none comes
plain-right : (c : Chain) → MarkRight false c → mark_fits false c.mark c.first (c.blocks + 1) ≡ true
plain-right c right = by c.mark right
  where
    by : (m : Bool) → mark_fits false m c.first c.blocks ≡ true → mark_fits false m c.first (c.blocks + 1) ≡ true
    by true r = absurd (false≢true (fits-made false c.first c.blocks r).detects)
    by false r = rw (fits-none false c.first c.blocks r) (none-fits false (c.blocks + 1))

-- one block more, where the table is not too long
pub mark-right : (on : Bool) (mode : Mode) (table conditions : List ℕ) → (on ≡ true → records_in (length table) ≤ most_records)
    → (c : Chain) (block : List ℕ) (mask : ℕ) → MarkRight on c → MarkRight on (pick on (checked_of mode table conditions) plain_of c block mask)
unfolding checked_of plain_of
mark-right true mode table conditions most c block mask right =
    linked-right c (answer_of mode table c.words block (selection_of conditions block mask)).found
    (λ m. omega (arith, most refl, answer-place mode table c.words block (selection_of conditions block mask) m)) right
mark-right false mode table conditions most c block mask right = plain-right c right
