-- What is lent to a call, and what is refused of it. A call looks at what its flags ask for, and at the tables only where it compresses a block.
-- docs/BEHAVIOUR.md has the numbers that a caller can get back.
use Rattle.std.specs.Prelude.{◌≡◌, Bool, true, not, ◌&&◌, List, [], ◌∷◌, ℕ, ◌≤◌, eqb, length, drop, Err, Ok}
use Rattle.word.specs.Choice.{pick}
use Rattle.refusal.specs.Refusal.{number_of, first_of, table_numbers, Checked}
use Rattle.refusal.specs.declared.Refusal.TheVariants.{MaskCount}
use Rattle.table.specs.Table.{table_fault}
use Rattle.table.specs.Good.{GoodTable}
use Rattle.conditions.specs.Conditions.{condition_fault}
use Rattle.conditions.specs.Good.{GoodConditions}
use Rattle.flags.specs.Flags.{uses_masks, uses_conditions}
use Rattle.flags.specs.declared.Flags.{Flags}
use Rattle.loan.specs.declared.Lent.{Lent}

-- the tables lent alike to every call of a message: the vectors, and the conditions that select among them
pub record Tables : Type 0 where
  pub vectors : List ℕ
  pub conditions : List ℕ

-- what is lent to one call: the tables, and a mask for each block that it compresses
pub record Loan : Type 0 where
  pub tables : Tables
  pub masks : List ℕ

-- the tables of a list of vectors and one of conditions
abbrev pub tables_of : List ℕ → List ℕ → Tables
tables_of vectors conditions = record { vectors = vectors; conditions = conditions }

-- the loan of tables and masks
abbrev pub lend : Tables → List ℕ → Loan
lend t masks = record { tables = t; masks = masks }

-- the loan of a list of vectors, one of conditions, and masks
abbrev pub loan_of : List ℕ → List ℕ → List ℕ → Loan
loan_of vectors conditions masks = lend (tables_of vectors conditions) masks

-- what a caller lends, as a loan
abbrev pub loan_in : Lent → Loan
loan_in l = loan_of l.table.now l.conditions.now l.masks.now

-- what is left of a loan for the blocks after the first n
abbrev pub later : ℕ → Loan → Loan
later n l = lend l.tables (drop n l.masks)

-- the masks that the flags ask for: those lent, or none
abbrev pub looked_at : Flags → List ℕ → List ℕ
looked_at f masks = pick (uses_masks f) masks []

-- the conditions that they ask for: those lent, or none
abbrev pub conditions_for : Flags → List ℕ → List ℕ
conditions_for f conditions = pick (uses_conditions f) conditions []

-- a wrong number of masks, where they are asked for: 6
abbrev pub masks_wrong : Flags → ℕ → ℕ → Bool
masks_wrong f k blocks = uses_masks f && not (eqb k blocks)

-- what is wrong with the conditions, where they are asked for: 12 and 13
abbrev pub conditions_refusal : Flags → List ℕ → Checked
conditions_refusal f conditions = pick (uses_conditions f) (condition_fault conditions) (Ok tt)

-- what is wrong with the vectors, which detection asks for: 2 to 5 and 11
abbrev pub vectors_refusal : Flags → List ℕ → Checked
vectors_refusal f vectors = pick f.detect (table_fault vectors) (Ok tt)

-- what is wrong with the tables: the conditions, then the vectors
abbrev pub tables_refusal : Flags → Tables → Checked
tables_refusal f t = first_of (conditions_refusal f t.conditions) (vectors_refusal f t.vectors)

-- what a call that compresses so many blocks refuses of what it is lent: the masks, then the tables, which are not looked at for no block
unfoldable pub loan_refusal : Flags → Loan → ℕ → Checked
loan_refusal f l blocks =
    pick (masks_wrong f (length l.masks) blocks) (Err MaskCount)
    (pick (eqb blocks 0) (Ok tt)
    (tables_refusal f l.tables))

-- the numbers that tables can give: those of the conditions, and those of the vectors
abbrev pub both_numbers : List ℕ
both_numbers = 12 ∷ 13 ∷ table_numbers

-- the numbers that a loan can give: 6, and those of the tables
abbrev pub loan_numbers : List ℕ
loan_numbers = 6 ∷ both_numbers

-- where masks are asked for, there is one for each block
abbrev pub WellCounted : Flags → Loan → ℕ → Type 0
WellCounted f l blocks = uses_masks f ≡ true → length l.masks ≡ blocks

-- 6: masks are asked for, and there is not one for each block
abbrev pub Miscounted : Flags → Loan → ℕ → Type 0
Miscounted f l blocks = (uses_masks f ≡ true) × (length l.masks ≡ blocks → ⊥)

-- where the conditions are asked for, they are good
abbrev pub ConditionsPass : Flags → List ℕ → Type 0
ConditionsPass f conditions = uses_conditions f ≡ true → GoodConditions conditions

-- where the vectors are asked for, they are good
abbrev pub VectorsPass : Flags → List ℕ → Type 0
VectorsPass f vectors = f.detect ≡ true → GoodTable vectors

-- where the tables are asked for, they are good
abbrev pub GoodTables : Flags → Tables → Type 0
GoodTables f t = ConditionsPass f t.conditions × VectorsPass f t.vectors

-- 12 and 13: the conditions are asked for, and n is the number of what is wrong with them
abbrev pub ConditionsGive : Flags → Tables → ℕ → Type 0
ConditionsGive f t n = (uses_conditions f ≡ true) × (number_of (condition_fault t.conditions) ≡ n)

-- 2 to 5 and 11: nothing is wrong with the conditions, the vectors are asked for, and n is the number of what is wrong with them
abbrev pub VectorsGive : Flags → Tables → ℕ → Type 0
VectorsGive f t n = ConditionsPass f t.conditions × (f.detect ≡ true) × (number_of (table_fault t.vectors) ≡ n)

-- nothing is wrong with a loan for so many blocks: the masks are as many, and for one block or more the tables are good
abbrev pub GoodLoan : Flags → Loan → ℕ → Type 0
GoodLoan f l blocks = WellCounted f l blocks × (1 ≤ blocks → GoodTables f l.tables)
