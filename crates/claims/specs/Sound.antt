-- The hashers that calls make, and the tables that they take.
use Rattle.std.specs.Prelude.{◌≡◌, true, List, ℕ, ◌≤◌, length, Ok}
use Rattle.word.specs.Lists.{AllWords, AllBytes}
use Rattle.table.specs.Good.{GoodTable}
use Rattle.flags.specs.declared.Flags.{Flags}
use Rattle.loan.specs.Loan.{Tables, Loan, tables_refusal}
use Rattle.hasher.specs.Hasher.{well_formed}
use Rattle.hasher.specs.declared.Hasher.{Hasher}
use Rattle.claims.specs.Marked.{whole_blocks}

-- the arrays have the lengths that the type says
pub record Sized (h : Hasher) : Type 0 where
  pub words_size : length h.words ≡ 5
  pub pending-size : length h.pending ≡ 64

-- and the hasher is well formed
pub record Sound (h : Hasher) : Type 0 where
  pub size : Sized h
  pub well : well_formed h ≡ true

-- the words are words and the pending bytes are bytes, as the type says
pub record Typed (h : Hasher) : Type 0 where
  pub words_are : AllWords h.words
  pub bytes-are : AllBytes h.pending

-- what the table of vectors holds are words, as its type says
abbrev pub TypedVectors : Tables → Type 0
TypedVectors t = AllWords t.vectors

-- so are what the table of conditions holds
abbrev pub TypedConditions : Tables → Type 0
TypedConditions t = AllWords t.conditions

-- the table of vectors is good
abbrev pub VectorsGood : Tables → Type 0
VectorsGood t = GoodTable t.vectors

-- nothing is wrong with the tables that are lent, if the stream has a whole block: for no block they are not looked at
abbrev pub PassFor : Flags → Loan → List ℕ → Type 0
PassFor f l xs = 1 ≤ whole_blocks xs → tables_refusal f l.tables ≡ Ok tt
