-- The place of the record that marked a block is one of the table's. Assumes nothing.
use mathlib.Core.Path.{◌≡◌}
use mathlib.Core.Bool.{Bool, true, false≢true}
use mathlib.Core.List.{List}
use Prim.Native.Nat.{ℕ, ◌<◌}
use lib.ListN.{length}
use Rattle.step.specs.declared.Regs.{Regs}
use Rattle.table.specs.Table.{records_in}
use Rattle.search.specs.Search.{is_marked, marking_place}
use Rattle.search.specs.Ended.{Ended, hit, miss}
use Rattle.search.specs.declared.Found.{Found}
use Rattle.search.proofs.Ended.{found-ended}
use Rattle.detect.specs.Detect.{answer_of}
use Rattle.detect.specs.declared.Mode.{Mode}

inside : {selected marks : ℕ → Bool} {n : ℕ} {f : Found} → Ended selected marks n 0 f → is_marked f ≡ true → marking_place f < n
inside (hit p a b s m none) e = b
inside (miss none) e = absurd (false≢true e)

pub answer-place : (mode : Mode) (table : List ℕ) (h : Regs) (block : List ℕ) (mask : ℕ)
    → is_marked (answer_of mode table h block mask).found ≡ true → marking_place (answer_of mode table h block mask).found < records_in (length table)
unfolding answer_of
answer-place mode table h block mask = inside (found-ended mode.reduced table h _ mask)
