-- What number 16 of the program is said for: its arguments, the table file and the reads of the message, by what its calls answered.
use Rattle.std.specs.Prelude.{◌≡◌, true, false, List, [], ◌∷◌, ◌++◌, ℕ, ◌+◌, ◌<◌, length}
use Rattle.std.proofs.Math.Option.{Option, none, some}
use Rattle.flags.specs.declared.Flags.{Flags}
use Rattle.hasher.specs.Hasher.{fresh_of}
use Rattle.table_file.specs.File.{most_file_bytes}
use Rattle.arguments.specs.Arguments.{is_table, is_raw, kind_of, count, flags_of}
use Rattle.arguments.specs.declared.ArgumentKind.TheVariants.{Unknown}
use Rattle.line.specs.Line.{saying_number}
use Rattle.reads.specs.Reads.{Read, below0}
use Rattle.reads.specs.Files.{File}
use Rattle.plan.specs.Given.{Argument, is_zero, kinds_read, setting_read, table_place}
use Rattle.line.specs.Line.{Reply}
use Rattle.program_claims.specs.Ends.{message_of, Ends, Passed}
use Rattle.program_claims.specs.Grounds.{TableOf, file_given}

-- the number that a reply says; 0 for a verdict, and as long as there is no reply
abbrev pub number_said : Option Reply → ℕ
number_said none = 0
number_said (some a) = saying_number a.saying

-- one of the arguments could not be fetched, or is neither `raw` nor begins with `table=`
pub data SomeUnknown : List Argument → Type 0 where
  unfetched : {a : Argument} {args : List Argument} → is_zero a.error ≡ false → SomeUnknown (a ∷ args)
  unknown : {a : Argument} {args : List Argument} → is_zero a.error ≡ true → kind_of a.bytes ≡ Unknown → SomeUnknown (a ∷ args)
  further : {a : Argument} {args : List Argument} → SomeUnknown args → SomeUnknown (a ∷ args)

-- the arguments are bad: one of them is unknown or could not be fetched, or two name a table, or two are `raw`
pub data BadArguments (args : List Argument) : Type 0 where
  one-unknown : SomeUnknown args → BadArguments args
  two-tables : 1 < count is_table (kinds_read args) → BadArguments args
  two-raws : 1 < count is_raw (kinds_read args) → BadArguments args

-- a read of a file failed before its end: those before it gave bytes, fewer than are read at most, with those that were there already
pub record ReadFails (most : ℕ) (bytes : List ℕ) (reads : List Read) : Type 0 where
  pub end : Ends reads
  pub failed : below0 end.last.got ≡ true
  pub room : length (bytes ++ message_of end.before) < most

-- a table file can't be read: it could not be opened, or a read of it failed before its end
pub data FileUnread (f : File) : Type 0 where
  unopened : below0 f.fd ≡ true → FileUnread f
  unended : below0 f.fd ≡ false → ReadFails (most_file_bytes + 1) [] f.reads → FileUnread f

-- a message can't be read, and no other number came first: the updates took the bytes of all reads before the one that failed
pub record MessageUnread (f : Flags) (table : List ℕ) (reads : List Read) : Type 0 where
  pub end : Ends reads
  pub passed : Passed (fresh_of f) table end
  pub failed : below0 end.last.got ≡ true

-- what 16 is said for: bad arguments; a table file that can't be read; or a message that can't be, where nothing is wrong with the table that is asked
pub data SixteenGrounds (args : List Argument) (files : ℕ → File) (reads : List Read) : Type 0 where
  by-arguments : BadArguments args → SixteenGrounds args files reads
  by-file : (BadArguments args → ⊥) → (setting_read args).table ≡ true → FileUnread (files (table_place (kinds_read args))) → SixteenGrounds args files reads
  by-message : {table : List ℕ} → (BadArguments args → ⊥) → TableOf (setting_read args) (file_given args files) table → MessageUnread (flags_of (setting_read args)) table reads
      → SixteenGrounds args files reads
