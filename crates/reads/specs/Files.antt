-- What the program reads of a table file, by what opening it and its reads answered.
use Rattle.std.specs.Prelude.{◌≡◌, List, [], ◌∷◌, ◌++◌, ℕ, ◌≤◌, ltb, length, take, ℤ, Result, Ok, Err, Option, Some, None, eqb}
use Rattle.word.specs.Choice.{pick}
use Rattle.refusal.specs.Refusal.{Checked}
use Rattle.table_file.specs.File.{file_fault}
use Rattle.line.specs.declared.Failure.{Failure}
use Rattle.line.specs.declared.Failure.TheVariants.{Refused, Unread}
use Rattle.reads.specs.Reads.{Read, below0, bytes_read, gave_none}

-- what opening a file answered, below 0 where it could not be opened, and what its reads did
pub record File : Type 0 where
  pub fd : ℤ
  pub reads : List Read

-- what was read of a file; or that it could not be read, or that there is more to read
pub data Contents : Type 0 where
  holds : List ℕ → Contents
  unreadable : Contents
  unfinished : Contents

-- what has been read when a read gave no byte: an error is no end
abbrev pub ended_by : ℤ → List ℕ → Contents
ended_by got bytes = pick (below0 got) unreadable (holds bytes)

-- the reads one after the other, with some bytes before them: until the file ends, a read fails or there are `most` bytes
unfoldable pub filling : ℕ → List ℕ → List Read → Contents
filling most bytes [] = pick (ltb (length bytes) most) unfinished (holds bytes)
filling most bytes (r ∷ rs) =
    pick (ltb (length bytes) most) (pick (gave_none r) (ended_by r.got bytes) (filling most (bytes ++ bytes_read r) rs)) (holds bytes)

-- the contents of a file, of which `most` bytes are read at most
abbrev pub contents_of : ℕ → File → Contents
contents_of most f = pick (below0 f.fd) unreadable (filling most [] f.reads)

-- how many bytes a read of a file gave, none at the file's end
abbrev pub given : {E : Type 0} → Result ℕ E → Result (Option ℕ) E
given (Ok n) = Ok (pick (eqb n 0) None (Some n))
given (Err e) = Err e

-- how many bytes were read from a file, as the program has it: how many are in its buffer, or an error
abbrev pub size_of : {E : Type 0} → Result ℕ E → ℕ
size_of (Ok n) = n
size_of (Err e) = 0

-- the contents that are in its buffer
abbrev pub in_buffer : {E : Type 0} → Result ℕ E → List ℕ → Contents
in_buffer (Ok n) buffer = holds (take n buffer)
in_buffer (Err e) buffer = unreadable

-- what came of a table file of n bytes, by what is wrong with it
abbrev pub fault_check : ℕ → Checked → Result ℕ Failure
fault_check n (Ok u) = Ok n
fault_check n (Err r) = Err (Refused r)

-- what came of a table file: 16 is said if it could not be read, else what is wrong with it, if anything
abbrev pub check_of : {E : Type 0} → Result ℕ E → List ℕ → Result ℕ Failure
check_of (Ok n) buffer = fault_check n (file_fault (take n buffer))
check_of (Err e) buffer = Err Unread

-- a buffer has what some reads give: all up to the file's end, or as much as fills it; or one of them failed
pub record Fills {E : Type 0} (buffer : List ℕ) (r : Result ℕ E) : Type 0 where
  pub fits : size_of r ≤ length buffer
  pub reads : List Read
  pub filled : in_buffer r buffer ≡ filling (length buffer) [] reads

-- a buffer has the contents of some file
pub record Loads {E : Type 0} (buffer : List ℕ) (r : Result ℕ E) : Type 0 where
  pub fits : size_of r ≤ length buffer
  pub file : File
  pub loaded : in_buffer r buffer ≡ contents_of (length buffer) file
