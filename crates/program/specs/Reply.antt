-- What the program replies to its arguments, the table file and the message.
use Rattle.std.specs.Prelude.{◌≡◌, List, [], ℕ, ◌+◌, Result, Ok, Err, Ok as Done, Err as Refused, Some, None}
use Rattle.std.specs.Result.{result_map_both}
use Rattle.refusal.specs.Refusal.{Checked}
use Rattle.std.specs.Prelude.{Option as Maybe}
use Rattle.std.proofs.Math.Option.{Option, none, some}
use Rattle.word.specs.Choice.{pick}
use Rattle.flags.specs.declared.Flags.{Flags}
use Rattle.hasher.specs.Hasher.{fresh_of}
use Rattle.table_file.specs.File.{most_file_bytes, table_of, file_fault}
use Rattle.loan.specs.Loan.{loan_of}
use Rattle.finish.specs.Finish.{FinishAccount, Outcome, finished}
use Rattle.line.specs.Line.{Reply, Verdict as SayVerdict, Refused as SayRefused, Unread, without_digest, saying_of}
use Rattle.line.specs.declared.Said.{Said}
use Rattle.line.specs.declared.Failure.{Failure}
use Rattle.line.specs.declared.Failure.TheVariants.{Refused as RefusedBy}
use Rattle.reads.specs.Reads.{Read, Possible}
use Rattle.program.specs.Intakes.{Intake, intake_of}
use Rattle.reads.specs.Files.{File, Contents, holds, unreadable, unfinished, contents_of}
use Rattle.plan.specs.Given.{Argument, Asked, asked_of, plan_of, plan_flags}
use Rattle.plan.specs.declared.Plan.{Plan}

-- what an outcome says, with the digest beside it
abbrev pub outcome_reply : Outcome → List ℕ → Reply
outcome_reply (Done v) digest = record { saying = SayVerdict v; digest = digest }
outcome_reply (Refused r) digest = without_digest (SayRefused r)

-- what a finish says
abbrev pub finish_reply : FinishAccount → Reply
finish_reply f = outcome_reply f.outcome f.digest

-- the same as the program has it
abbrev pub finish_said : FinishAccount → Result Said Failure
finish_said f = result_map_both (λ v. record { verdict = v; digest = f.digest }) RefusedBy f.outcome

-- the number of a check that refuses, else what follows it
abbrev pub checked_reply : Checked → Reply → Reply
checked_reply (Ok u) a = a
checked_reply (Err r) a = without_digest (SayRefused r)

-- the reply to what was taken in: the number of the update refused, else 16 if a read failed, else what the finish says
unfoldable pub intake_reply : Intake → List ℕ → Reply
intake_reply x table = checked_reply x.refusal (pick x.failed (without_digest Unread) (finish_reply (finished x.hasher (loan_of table [] []))))

-- the reply to a message by its reads; none as long as there is more to read
unfoldable pub reply_to_message : Flags → List ℕ → List Read → Option Reply
reply_to_message f table reads =
    let x = intake_of (fresh_of f) table reads in
    pick x.more none (some (intake_reply x table))

-- the number of a table that is refused, else what follows its check
abbrev pub checked_answer : Checked → Option Reply → Option Reply
checked_answer (Ok u) a = a
checked_answer (Err r) a = some (without_digest (SayRefused r))

-- the reply with a table file: 16 if it could not be read, else what is wrong with it, else the reply to the message
unfoldable pub reply_with_contents : Flags → Contents → List Read → Option Reply
reply_with_contents f (holds file) reads =
    checked_answer (file_fault file) (reply_to_message f (table_of file) reads)
reply_with_contents f unreadable reads = some (without_digest Unread)
reply_with_contents f unfinished reads = none

-- the file is read to its end, or to a byte more than the longest table file has: then it is too long, whatever follows
abbrev pub reply_with_file : Flags → File → List Read → Option Reply
reply_with_file f file reads = reply_with_contents f (contents_of (most_file_bytes + 1) file) reads

-- the reply to the message, with the table of the file at a place or with none
abbrev pub table_reply : Maybe ℕ → Flags → (ℕ → File) → List Read → Option Reply
table_reply (Some place) f files reads = reply_with_file f (files place) reads
table_reply None f files reads = reply_to_message f [] reads

-- the reply by what is done: what is said at once, or the reply to the message
abbrev pub plan_reply : Result Plan Failure → (ℕ → File) → List Read → Option Reply
plan_reply (Ok p) files reads = table_reply p.table (plan_flags p) files reads
plan_reply (Err s) files reads = some (without_digest (saying_of s))

-- the reply by what is asked
abbrev pub asked_reply : Asked → (ℕ → File) → List Read → Option Reply
asked_reply a files reads = plan_reply (plan_of a) files reads

-- the program's reply to the arguments, the files that they name by their places, and the message: 16 for a bad argument, before all others
unfoldable pub program_reply : List Argument → (ℕ → File) → List Read → Option Reply
program_reply args files reads = asked_reply (asked_of args) files reads

-- a reply is that to some reads
pub record Replies (to : List Read → Option Reply) (r : Reply) : Type 0 where
  pub reads : List Read
  pub possible : Possible reads
  pub replied : to reads ≡ some r

-- a reply is that to some file, which the argument at a place names, and some reads
pub record RepliesWithFile (f : Flags) (place : ℕ) (r : Reply) : Type 0 where
  pub files : ℕ → File
  pub replies : Replies (reply_with_file f (files place)) r

-- a reply is that to some arguments, files and reads
pub record ProgramReplies (r : Reply) : Type 0 where
  pub arguments : List Argument
  pub files : ℕ → File
  pub replies : Replies (program_reply arguments files) r
