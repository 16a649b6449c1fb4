-- Which block of a stream is marked first, and which record marks it: by the marks, in demand 3's words, and with what selects a record spelled
-- out. 02, request e.
use Rattle.std.specs.Prelude.{◌≡◌, true, false, ◌⊎◌, ◌↔◌, List, ℕ, ◌+◌, ◌<◌, length}
use Rattle.step.specs.Step.{regs_of}
use Rattle.step.specs.declared.Regs.{Regs}
use Rattle.block.specs.Schedule.{words_of, schedule_of}
use Rattle.table.specs.Table.{records_in}
use Rattle.search.specs.Marks.{selects, marks}
use Rattle.flags.specs.declared.Flags.{Flags}
use Rattle.loan.specs.Loan.{Loan}
use Rattle.stream.specs.Fold.{nowhere}
use Rattle.stream.specs.declared.FirstMark.{FirstMark}
use Rattle.hasher.specs.declared.Hasher.{Hasher}
use Rattle.claims.specs.Marked.{whole_blocks, block_at, selected_at, words_at, marked_in}
use Rattle.claims.specs.Sibling.{MeetsIn}
use Rattle.claims.specs.Message.{MetInAt, OneMetIn}
use Rattle.claims.specs.Selected.{SelectedFor, MetBy, OneMetBy}

-- the least number below n of which P holds
pub record Least (n : ℕ) (P : ℕ → Type 0) (i : ℕ) : Type 0 where
  pub inside : i < n
  pub holds : P i
  pub none_before : (j : ℕ) → j < i → P j → ⊥

module _ (f : Flags) (l : Loan) (h : Regs) (xs : List ℕ) where
  -- of a record's place, that P holds of it and of none before it in the table
  abbrev LeastRecord : (ℕ → Type 0) → ℕ → Type 0
  LeastRecord = Least (records_in (length l.tables.vectors))

  -- by record p the sibling meets block i or, in reduced-round mode only, reaches its state from its own start
  abbrev MeetsBlock : ℕ → ℕ → Type 0
  MeetsBlock i p = MeetsIn f.reduced (words_at f l h xs i) (block_at xs i) l.tables.vectors p

  -- a block of the stream is marked
  abbrev pub OneMarkedIn : Type 0
  OneMarkedIn = (i : ℕ) × (i < whole_blocks xs) × (marked_in f l h xs i ≡ true)

  -- block i is the first that is
  abbrev pub FirstBlock : ℕ → Type 0
  FirstBlock i = Least (whole_blocks xs) (λ j. marked_in f l h xs j ≡ true) i

  -- record p is selected for block i and marks it
  abbrev pub MarksAt : ℕ → ℕ → Type 0
  MarksAt i p =
      (selects (selected_at f l xs i) l.tables.vectors p ≡ true)
      × (marks f.reduced (words_at f l h xs i) (schedule_of (words_of (block_at xs i))) l.tables.vectors p ≡ true)

  -- By the marks: block i is the first that is marked, and p the first selected record, in table order, that marks it.
  abbrev pub FirstMarked : ℕ → ℕ → Type 0
  FirstMarked i p = FirstBlock i × LeastRecord (MarksAt i) p

  -- with detection on a selected sibling meets a block of the stream
  abbrev pub OneMetOn : Type 0
  OneMetOn = (f.detect ≡ true) × OneMetIn f l h xs

  -- detection is on, and block i is the first that a selected sibling meets
  abbrev pub FirstMet : ℕ → Type 0
  FirstMet i = (f.detect ≡ true) × Least (whole_blocks xs) (MetInAt f l h xs) i

  -- record p is selected for block i, and by it the sibling meets the block; and it is the first in table order
  abbrev pub FirstVector : ℕ → ℕ → Type 0
  FirstVector i p = LeastRecord (λ q. (selects (selected_at f l xs i) l.tables.vectors q ≡ true) × MeetsBlock i q) p

  -- In demand 3's words: no earlier block is met by a selected sibling, and no earlier selected record meets this one.
  abbrev pub FirstMetAt : ℕ → ℕ → Type 0
  FirstMetAt i p = FirstMet i × FirstVector i p

  -- with detection on a record that is selected, by its bit and the conditions, meets a block of the stream
  abbrev pub OneSelectedOn : Type 0
  OneSelectedOn = (f.detect ≡ true) × OneMetBy f l h xs

  -- The same with what selects a record spelled out, in each of the three settings.
  abbrev pub FirstSelectedAt : ℕ → ℕ → Type 0
  FirstSelectedAt i p =
      ((f.detect ≡ true) × Least (whole_blocks xs) (MetBy f l h xs) i) × LeastRecord (λ q. SelectedFor f l xs i q × MeetsBlock i q) p

-- what a first mark says of a stream whose block i has the number `number i`, where M says whether a block is marked, and At i p that block i is
-- the first that is and p the first record that marks it: zeros where none is and, exactly then, the number and the place of the only such two
pub record FirstBy (number : ℕ → ℕ) (M : Type 0) (At : ℕ → ℕ → Type 0) (first : FirstMark) : Type 0 where
  pub none : (M → ⊥) → first ≡ nowhere
  pub some : M → (i : ℕ) × (p : ℕ) × At i p
  pub there : (i p : ℕ) → (M × (first ≡ record { block = number i; place = p })) ↔ At i p

-- the first mark of a message, whose blocks have the numbers from 0 on, padding included
abbrev pub FirstOfMessage : Type 0 → (ℕ → ℕ → Type 0) → FirstMark → Type 0
FirstOfMessage M At first = FirstBy (λ i. i) M At first

-- the first mark after a call on a hasher: one that is marked keeps its own, and else the call's blocks, which follow those counted, give it
pub record FirstOfCall (h : Hasher) (M : Type 0) (At : ℕ → ℕ → Type 0) (first : FirstMark) : Type 0 where
  pub kept : h.mark ≡ true → first ≡ h.first
  pub told : h.mark ≡ false → FirstBy (λ i. h.blocks + i) M At first

-- a hasher has no mark, and zeros, exactly when P does not hold
abbrev pub UnmarkedUnless : Type 0 → Hasher → Type 0
UnmarkedUnless P g = (P → ⊥) ↔ ((g.mark ≡ false) × (g.first ≡ nowhere))

module _ (h : Hasher) (l : Loan) (xs : List ℕ) where
  -- the hasher was marked, or a block of the call's stream is (in demand 3's words: `MarkedAfter`)
  abbrev pub EverMarked : Type 0
  EverMarked = (h.mark ≡ true) ⊎ OneMarkedIn h.flags l (regs_of h.words) xs

  -- after a call whose blocks are those of the stream: by the marks,
  abbrev pub CallMarked : FirstMark → Type 0
  CallMarked = FirstOfCall h (OneMarkedIn h.flags l (regs_of h.words) xs) (FirstMarked h.flags l (regs_of h.words) xs)

  -- in demand 3's words,
  abbrev pub CallMet : FirstMark → Type 0
  CallMet = FirstOfCall h (OneMetOn h.flags l (regs_of h.words) xs) (FirstMetAt h.flags l (regs_of h.words) xs)

  -- and with what selects a record spelled out
  abbrev pub CallSelected : FirstMark → Type 0
  CallSelected = FirstOfCall h (OneSelectedOn h.flags l (regs_of h.words) xs) (FirstSelectedAt h.flags l (regs_of h.words) xs)

module _ (f : Flags) (l : Loan) (h : Regs) (xs : List ℕ) where
  -- of a message from its start, or what of it is in whole blocks, likewise
  abbrev pub MessageMarked : FirstMark → Type 0
  MessageMarked = FirstOfMessage (OneMarkedIn f l h xs) (FirstMarked f l h xs)

  abbrev pub MessageMet : FirstMark → Type 0
  MessageMet = FirstOfMessage (OneMetOn f l h xs) (FirstMetAt f l h xs)

  abbrev pub MessageSelected : FirstMark → Type 0
  MessageSelected = FirstOfMessage (OneSelectedOn f l h xs) (FirstSelectedAt f l h xs)
