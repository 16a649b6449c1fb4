-- Number 16 is said exactly for its grounds. Assumes nothing.
use mathlib.Core.Path.{◌≡◌, refl, sym, ap, ◌∙◌}
use mathlib.Core.Logic.{◌↔◌}
use mathlib.Core.Bool.{Bool, true, false}
use mathlib.Core.List.{List, []}
use mathlib.Core.Option.{none, some}
use Prim.Native.Nat.{ℕ}
use native.Mathlib.Omega.{arith}
use Rattle.std.specs.Prelude.{is_ok, Ok, Err, Ok as Done, Err as Refused, Some, None}
use Rattle.line.specs.declared.Failure.TheVariants.{Unread as NotRead}
use Rattle.word.specs.Choice.{pick}
use Rattle.refusal.specs.Refusal.{number_of, Checked}
use Rattle.refusal.proofs.Small.{number-low}
use Rattle.flags.specs.declared.Flags.{Flags}
use Rattle.hasher.specs.Hasher.{fresh_of}
use Rattle.table_file.specs.File.{table_of, file_fault}
use Rattle.loan.specs.Loan.{loan_of}
use Rattle.finish.specs.Finish.{finished, FinishAccount, Outcome}
use Rattle.arguments.specs.Arguments.{flags_of}
use Rattle.line.specs.Line.{saying_number}
use Rattle.line.specs.Line.{Unread}
use Rattle.reads.specs.Reads.{Read}
use Rattle.program.specs.Intakes.{intake_of}
use Rattle.reads.specs.Files.{File, Contents, holds, unreadable, unfinished}
use Rattle.plan.specs.Given.{Argument, kinds_read, setting_read, table_place}
use Rattle.program.specs.Reply.{outcome_reply, finish_reply, checked_reply, checked_answer, intake_reply, reply_to_message, reply_with_contents, plan_reply, program_reply, ProgramReplies}
use Rattle.line.specs.Line.{without_digest}
use Rattle.program.specs.Intakes.{Intake}
use Rattle.line.specs.Line.{Reply}
use Rattle.program_claims.specs.Grounds.{unasked, checked, file_given}
use Rattle.program_claims.specs.Sixteen.{number_said, MessageUnread, SixteenGrounds, by-arguments, by-file, by-message}
use Rattle.program_claims.proofs.Ends.{stop, intake-end-at}
use Rattle.program_claims.proofs.Verdicts.{reply-failed}
use Rattle.program_claims.proofs.Bad.{bad-exactly, good-exactly}
use Rattle.program_claims.proofs.Unread.{unread-exactly}

-- no refusal of the library has that number
refusal-other : (r : Checked) → number_of r ≡ 16 → ⊥
refusal-other r e = omega (arith, number-low r)

none_other : ◌≡◌ {A = ℕ} 0 16 → ⊥
none_other e = omega arith

-- nor does a finish say it
finish-other : (o : Outcome) (digest : List ℕ) → saying_number (outcome_reply o digest).saying ≡ 16 → ⊥
finish-other (Done v) digest e = none_other e
finish-other (Refused r) digest e = refusal-other (Err r) e

-- where it is said of a message, there is no more to read, nothing was refused and a read failed
said : (c : Checked) (more failed : Bool) (f : FinishAccount)
    → number_said (pick more none (some (checked_reply c (pick failed (without_digest Unread) (finish_reply f))))) ≡ 16
    → (more ≡ false) × (c ≡ Ok tt) × (failed ≡ true)
said c true failed f e = absurd (none_other e)
said (Err r) false failed f e = absurd (refusal-other (Err r) e)
said (Ok u) false true f e = (refl, refl, refl)
said (Ok u) false false f e = absurd (finish-other f.outcome f.digest e)

message-only : (f : Flags) (table : List ℕ) (reads : List Read) → number_said (reply_to_message f table reads) ≡ 16 → MessageUnread f table reads
unfolding reply_to_message intake_reply
message-only f table reads e =
    let x = intake_of (fresh_of f) table reads in
    let s = said x.refusal x.more x.failed (finished x.hasher (loan_of table [] [])) e in
    let p = stop table reads (fresh_of f) s.0 s.1 in
    let k = intake-end-at table (fresh_of f) reads p.end p.passed in
    record { end = p.end; passed = p.passed; failed = sym (ap (λ (i : Intake). i.failed) k) ∙ s.2 }

-- where it is said of a file that was read, nothing is wrong with that
sound-by : (c : Checked) (f : Flags) (file : List ℕ) (reads : List Read) → file_fault file ≡ c
    → number_said (checked_answer c (reply_to_message f (table_of file) reads)) ≡ 16
    → (is_ok (file_fault file) ≡ true) × (number_said (reply_to_message f (table_of file) reads) ≡ 16)
sound-by (Ok u) f file reads t e = (ap is_ok t, e)
sound-by (Err r) f file reads t e = absurd (refusal-other (Err r) e)

module _ (args : List Argument) (files : ℕ → File) (reads : List Read) where
  with-file : (c : Contents) → file_given args files ≡ c → (setting_read args).bad ≡ false → (setting_read args).table ≡ true
      → number_said (reply_with_contents (flags_of (setting_read args)) c reads) ≡ 16 → SixteenGrounds args files reads
  unfolding reply_with_contents
  with-file (holds file) g b t e =
      let k = sound-by _ (flags_of (setting_read args)) file reads refl e in
      by-message ((good-exactly args).0 b) (checked t g k.0) (message-only (flags_of (setting_read args)) (table_of file) reads k.1)
  with-file unreadable g b t e = by-file ((good-exactly args).0 b) t ((unread-exactly (files (table_place (kinds_read args)))).0 g)
  with-file unfinished g b t e = absurd (none_other e)

  by-setting : (bad table : Bool) → (setting_read args).bad ≡ bad → (setting_read args).table ≡ table
      → number_said (plan_reply (pick bad (Err NotRead) (Ok (record { table = pick table (Some (table_place (kinds_read args))) None; raw = (setting_read args).raw }))) files reads) ≡ 16
      → SixteenGrounds args files reads
  by-setting true table b t e = by-arguments ((bad-exactly args).0 b)
  by-setting false true b t e = with-file (file_given args files) refl b t (rw t e)
  by-setting false false b t e = by-message ((good-exactly args).0 b) (unasked t) (message-only (flags_of (setting_read args)) [] reads (rw t e))

  sixteen-only : number_said (program_reply args files reads) ≡ 16 → SixteenGrounds args files reads
  unfolding program_reply
  sixteen-only e = by-setting (setting_read args).bad (setting_read args).table refl refl e

  sixteen-always : SixteenGrounds args files reads → number_said (program_reply args files reads) ≡ 16
  unfolding program_reply reply_with_contents
  sixteen-always (by-arguments b) = rw ((bad-exactly args).1 b)
  sixteen-always (by-file g t u) = rw ((good-exactly args).1 g, t, (unread-exactly (files (table_place (kinds_read args)))).1 u)
  sixteen-always (by-message g t m) = ap number_said (reply-failed args files reads ((good-exactly args).1 g) t m.end m.passed m.failed)

  -- The program says 16 exactly when an argument is unknown, repeated or could not be fetched; or the table file that they name could not be opened or a read of it failed
  -- before its end; or nothing of that, nothing is wrong with the table, the updates took all bytes so far, and a read of the message failed.
  pub sixteen-exactly : (number_said (program_reply args files reads) ≡ 16) ↔ SixteenGrounds args files reads
  sixteen-exactly = (sixteen-only, sixteen-always)

-- So wherever the program's contract allows 16, there are such grounds.
pub replies-sixteen : {a : Reply} (r : ProgramReplies a) → saying_number a.saying ≡ 16 → SixteenGrounds r.arguments r.files r.replies.reads
replies-sixteen r e = (sixteen-exactly r.arguments r.files r.replies.reads).0 (ap number_said r.replies.replied ∙ e)
