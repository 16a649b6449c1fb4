-- What a verdict of the program is said for: its arguments, the table file and the reads of the message.
use Rattle.std.specs.Prelude.{◌≡◌, true, false, List, [], ◌++◌, ℕ, ◌+◌, pos, is_ok, Ok as Done}
use Rattle.loan.specs.Loan.{tables_of}
use Rattle.verdict.specs.declared.Verdict.{Verdict}
use Rattle.flags.specs.declared.Flags.{Flags}
use Rattle.hasher.specs.Hasher.{fresh_of}
use Rattle.table_file.specs.File.{most_file_bytes, table_of, file_fault}
use Rattle.claims.specs.Pieces.{hashed}
use Rattle.arguments.specs.Arguments.{flags_of}
use Rattle.arguments.specs.Arguments.{Setting}
use Rattle.line.specs.Line.{Verdict as SayVerdict}
use Rattle.reads.specs.Reads.{Read, below0}
use Rattle.reads.specs.Files.{File, Contents, holds, contents_of}
use Rattle.plan.specs.Given.{Argument, kinds_read, setting_read, table_place}
use Rattle.line.specs.Line.{Reply}
use Rattle.program_claims.specs.Ends.{calls, message_of, Ends, Passed}

-- a verdict and its digest
abbrev pub says_verdict : Verdict → List ℕ → Reply
says_verdict v digest = record { saying = SayVerdict v; digest = digest }

-- the reads of a verdict: some gave bytes, which the updates took in order, and the next answered 0; verdict and digest are those of the finish after them
pub record ReadToEnd (f : Flags) (table : List ℕ) (reads : List Read) (v : Verdict) (digest : List ℕ) : Type 0 where
  pub end : Ends reads
  pub ended : end.last.got ≡ pos 0
  pub passed : Passed (fresh_of f) table end
  pub verdict : (hashed f (tables_of table []) (calls end.before) []).outcome ≡ Done v
  pub digested : (hashed f (tables_of table []) (calls end.before) []).digest ≡ digest

-- the table that the arguments ask: none, or that of a file that was read and has nothing wrong
pub data TableOf (s : Setting) (c : Contents) : List ℕ → Type 0 where
  unasked : s.table ≡ false → TableOf s c []
  checked : {file : List ℕ} → s.table ≡ true → c ≡ holds file → is_ok (file_fault file) ≡ true → TableOf s c (table_of file)

-- what the file that they name holds
abbrev pub file_given : List Argument → (ℕ → File) → Contents
file_given args files = contents_of (most_file_bytes + 1) (files (table_place (kinds_read args)))

-- what a verdict in reply to the arguments is said for
pub record VerdictGrounds (args : List Argument) (files : ℕ → File) (reads : List Read) (v : Verdict) (digest : List ℕ) : Type 0 where
  pub good : (setting_read args).bad ≡ false
  pub table : List ℕ
  pub whence : TableOf (setting_read args) (file_given args files) table
  pub read : ReadToEnd (flags_of (setting_read args)) table reads v digest

-- the reads of a file to its end, after some bytes: some gave bytes, which are the rest of the file, and the next gave none and did not fail
pub record Rest (bytes : List ℕ) (reads : List Read) (file : List ℕ) : Type 0 where
  pub end : Ends reads
  pub unfailed : below0 end.last.got ≡ false
  pub whole : file ≡ bytes ++ message_of end.before
