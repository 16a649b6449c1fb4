-- Demand 3 along the blocks of a call and of a message: those that a selected sibling meets.
use Rattle.std.specs.Prelude.{List, ℕ, ◌<◌}
use Rattle.step.specs.declared.Regs.{Regs}
use Rattle.fips.specs.Fips.{padded}
use Rattle.flags.specs.declared.Flags.{Flags}
use Rattle.loan.specs.Loan.{Loan}
use Rattle.claims.specs.Marked.{whole_blocks, block_at, selected_at, words_at, blocks_in, words_before}
use Rattle.claims.specs.Sibling.{Met, MetIn}

-- a sibling that is selected for block i meets block i of a stream, where h are the chaining words before the stream, in any mode
abbrev pub MetInAt : Flags → Loan → Regs → List ℕ → ℕ → Type 0
MetInAt f l h xs i = MetIn f.reduced (words_at f l h xs i) (block_at xs i) l.tables.vectors (selected_at f l xs i)

-- that is so for one whole block of the stream
abbrev pub OneMetIn : Flags → Loan → Regs → List ℕ → Type 0
OneMetIn f l h xs = (i : ℕ) × (i < whole_blocks xs) × MetInAt f l h xs i

-- a sibling that is selected for block i meets block i of a message, with reduced-round mode off
abbrev pub MetAt : Flags → Loan → List ℕ → ℕ → Type 0
MetAt f l msg i = Met (words_before f l msg i) (block_at (padded msg) i) l.tables.vectors (selected_at f l (padded msg) i)

-- that is so for no block of a message, padding included
abbrev pub NoneMet : Flags → Loan → List ℕ → Type 0
NoneMet f l msg = (i : ℕ) → i < blocks_in msg → MetAt f l msg i → ⊥

-- it is so for one
abbrev pub OneMet : Flags → Loan → List ℕ → Type 0
OneMet f l msg = (i : ℕ) × (i < blocks_in msg) × MetAt f l msg i
