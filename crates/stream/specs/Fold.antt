-- The blocks of a stream, one after the other, with detection as the flags say.
use Rattle.std.specs.Prelude.{Bool, false, ◌&&◌, ◌||◌, List, ℕ, zero, suc, ◌+◌, ◌-◌, ◌/◌, ◌^◌, eqb, ltb, length, get_or, take, drop}
use Rattle.word.specs.Choice.{pick}
use Rattle.block.specs.Compress.{compress_of}
use Rattle.table.specs.Limits.{mask_bits, most_records}
use Rattle.search.specs.Search.{is_marked, marking_place}
use Rattle.search.specs.declared.Found.{Found}
use Rattle.detect.specs.Detect.{selection_of, answer_of}
use Rattle.detect.specs.declared.Answer.{Answer}
use Rattle.detect.specs.declared.Mode.{Mode}
use Rattle.fips.specs.Fips.{initial}
use Rattle.flags.specs.declared.Flags.{Flags}
use Rattle.loan.specs.Loan.{Tables, Loan, looked_at, conditions_for}
use Rattle.stream.specs.declared.FirstMark.{FirstMark}
use Rattle.stream.specs.declared.Chain.{Chain}

-- the mask of a block for which none is lent: every bit
abbrev pub all_bits : ℕ
all_bits = 2 ^ mask_bits - 1

-- what the flags say to one block
abbrev pub mode_of : Flags → Mode
mode_of f = record { mitigate = f.mitigate; reduced = f.reduced }

-- both numbers 0: what stands there where no block was marked (a mark by record 0 at block 0 shows the same; the mark itself tells)
abbrev pub nowhere : FirstMark
nowhere = record { block = 0; place = 0 }

-- the chain at the start of a message
abbrev pub first_chain : Chain
first_chain = record { words = initial; mark = false; first = nowhere; blocks = 0 }

-- the first mark after one block more: a chain that is marked keeps its own, and a marked block gives its number and its vector's place
abbrev pub first_after : Chain → Found → FirstMark
first_after c f = pick c.mark c.first (pick (is_marked f) (record { block = c.blocks; place = marking_place f }) c.first)

-- a mark and where it was first made fit together: with one, detection is on, the block is one of those counted and the place one that a
-- table can have; without one, both numbers are 0
unfoldable pub mark_fits : Bool → Bool → FirstMark → ℕ → Bool
mark_fits detect mark first blocks =
    pick mark (detect && (ltb first.block blocks && ltb first.place most_records)) (eqb first.block 0 && eqb first.place 0)

-- the chain one block on: a marked block leaves a mark, and no other takes it away
abbrev pub linked : Chain → Answer → Chain
linked c a =
    record { words = a.words; mark = c.mark || is_marked a.found; first = first_after c a.found; blocks = c.blocks + 1 }

-- the chain after one block with detection, tried with the vectors that its mask and the conditions select
unfoldable pub checked_of : Mode → List ℕ → List ℕ → Chain → List ℕ → ℕ → Chain
checked_of mode table conditions c block mask = linked c (answer_of mode table c.words block (selection_of conditions block mask))

-- the chain after one block with detection off: the plain compression, whatever is lent
unfoldable pub plain_of : Chain → List ℕ → ℕ → Chain
plain_of c block mask =
    record { words = compress_of c.words block; mark = c.mark; first = c.first; blocks = c.blocks + 1 }

-- the chain after one block, as the flags say
abbrev pub block_of : Flags → Tables → Chain → List ℕ → ℕ → Chain
block_of f t = pick f.detect (checked_of (mode_of f) t.vectors (conditions_for f t.conditions)) plain_of

-- the chain after the first n blocks of xs, block i with mask i, by any step
unfoldable pub chained : (Chain → List ℕ → ℕ → Chain) → ℕ → Chain → List ℕ → List ℕ → Chain
chained step zero c xs masks = c
chained step (suc n) c xs masks = chained step n (step c (take 64 xs) (get_or masks 0 all_bits)) (drop 64 xs) (drop 1 masks)

-- the chain after all whole blocks of xs
unfoldable pub folded : Flags → Loan → Chain → List ℕ → Chain
folded f l c xs = chained (block_of f l.tables) (length xs / 64) c xs (looked_at f l.masks)
