-- Demand 3 with what selects a record spelled out: its bit in the block's mask, and the conditions that name it. 02, request d.
use Rattle.std.specs.Prelude.{◌≡◌, ◌⊎◌, true, List, ℕ, ◌<◌, length}
use Rattle.step.specs.Step.{regs_of}
use Rattle.step.specs.declared.Regs.{Regs}
use Rattle.block.specs.Schedule.{words_of, schedule_of}
use Rattle.table.specs.Table.{records_in, mask_number_at}
use Rattle.conditions.specs.Survivors.{AllHold}
use Rattle.conditions.specs.Conditions.{conditions_in, clearing_at, holds_at}
use Rattle.search.specs.Marks.{selects}
use Rattle.flags.specs.Flags.{uses_conditions}
use Rattle.flags.specs.declared.Flags.{Flags}
use Rattle.loan.specs.Loan.{Loan, looked_at}
use Rattle.hasher.specs.declared.Hasher.{Hasher}
use Rattle.claims.specs.Marked.{whole_blocks, block_at, mask_for, words_at}
use Rattle.claims.specs.Sibling.{MeetsIn}

-- every condition of the table that names the mask number b holds of the block's schedule
abbrev pub AllHoldOf : List ℕ → List ℕ → ℕ → Type 0
AllHoldOf conditions block b =
    AllHold (holds_at (schedule_of (words_of block)) conditions) (clearing_at conditions) b (conditions_in (length conditions))

-- record j is selected for block i: its bit is in the block's mask and, where conditions are looked at, each that names it holds
abbrev pub SelectedFor : Flags → Loan → List ℕ → ℕ → ℕ → Type 0
SelectedFor f l xs i j =
    (selects (mask_for (looked_at f l.masks) i) l.tables.vectors j ≡ true)
    × (uses_conditions f ≡ true → AllHoldOf l.tables.conditions (block_at xs i) (mask_number_at l.tables.vectors j))

-- a record that is selected for block i, by which the sibling meets block i of a stream, where h are the chaining words before the stream
pub record MetBy (f : Flags) (l : Loan) (h : Regs) (xs : List ℕ) (i : ℕ) : Type 0 where
  pub place : ℕ
  pub inside : place < records_in (length l.tables.vectors)
  pub selected : SelectedFor f l xs i place
  pub meets : MeetsIn f.reduced (words_at f l h xs i) (block_at xs i) l.tables.vectors place

-- that is so for one whole block of the stream
abbrev pub OneMetBy : Flags → Loan → Regs → List ℕ → Type 0
OneMetBy f l h xs = (i : ℕ) × (i < whole_blocks xs) × MetBy f l h xs i

-- the hasher was marked or, with detection on, it is so for one whole block of the call's stream
abbrev pub MarkedAfterBy : Hasher → Loan → List ℕ → Type 0
MarkedAfterBy h l xs = (h.mark ≡ true) ⊎ ((h.flags.detect ≡ true) × OneMetBy h.flags l (regs_of h.words) xs)
