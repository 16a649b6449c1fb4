-- A verdict is said only for a message that was read to its end, a failed read is said to be one, and what is wrong with the table is said whatever
-- the message. Assumes nothing.
use mathlib.Core.Path.{◌≡◌, refl, sym, ap, ◌∙◌}
use mathlib.Core.Bool.{Bool, true, false, false≢true}
use mathlib.Core.List.{List, []}
use mathlib.Core.Option.{Option, none, some, some-injective}
use Prim.Native.Nat.{ℕ}
use Rattle.std.specs.Prelude.{is_ok, Ok, Err, Ok as Done, Err as Refused, Some, None}
use Rattle.line.specs.declared.Failure.TheVariants.{Unread as NotRead}
use Rattle.refusal.specs.declared.Refusal.{Refusal}
use Rattle.word.specs.Choice.{pick}
use Rattle.refusal.specs.Refusal.{Checked}
use Rattle.refusal.proofs.Chains.{nothing_is}
use Rattle.verdict.specs.declared.Verdict.{Verdict}
use Rattle.flags.specs.declared.Flags.{Flags}
use Rattle.hasher.specs.Hasher.{fresh_of}
use Rattle.table_file.specs.File.{table_of, file_fault}
use Rattle.loan.specs.Loan.{tables_of, loan_of}
use Rattle.finish.specs.Finish.{finished, Outcome}
use Rattle.claims.specs.Pieces.{hashed}
use Rattle.arguments.specs.Arguments.{flags_of}
use Rattle.line.specs.Line.{Saying}
use Rattle.line.specs.Line.{Verdict as SayVerdict, Refused as SayRefused, Unread}
use Rattle.reads.specs.Reads.{Read, below0, Possible}
use Rattle.program.specs.Intakes.{intake_of}
use Rattle.reads.specs.Files.{File, Contents, holds, unreadable, unfinished}
use Rattle.plan.specs.Given.{Argument, kinds_read, setting_read, table_place}
use Rattle.program.specs.Reply.{outcome_reply, finish_reply, checked_reply, checked_answer, intake_reply, reply_to_message, reply_with_contents, plan_reply, program_reply, ProgramReplies}
use Rattle.line.specs.Line.{without_digest}
use Rattle.program.specs.Intakes.{Intake}
use Rattle.line.specs.Line.{Reply}
use Rattle.program_claims.specs.Ends.{calls, Ends, Passed}
use Rattle.program_claims.specs.Grounds.{says_verdict, ReadToEnd, TableOf, unasked, checked, file_given, VerdictGrounds}
use Rattle.program_claims.proofs.Ends.{end-zero, stop, intake-end-at}

-- whether a verdict is said
abbrev is_said : Saying → Bool
is_said (SayVerdict v) = true
is_said (SayRefused r) = false
is_said Unread = false

abbrev is_verdict : Option Reply → Bool
is_verdict none = false
is_verdict (some a) = is_said a.saying

-- the verdict that is said, or another where none is
abbrev which : Verdict → Saying → Verdict
which v (SayVerdict w) = w
which v (SayRefused r) = v
which v Unread = v

-- a finish that says a verdict
finish-says : (o : Outcome) (d : List ℕ) {v : Verdict} {digest : List ℕ} → outcome_reply o d ≡ says_verdict v digest → (o ≡ Done v) × (d ≡ digest)
finish-says (Done w) d {v} e = (ap Done (ap (λ (a : Reply). which v a.saying) e), ap (λ (a : Reply). a.digest) e)
finish-says (Refused r) d e = absurd (false≢true (ap (λ (a : Reply). is_said a.saying) e))

-- where a reply is a verdict, there is no more to read, nothing was refused and no read failed
said : (c : Checked) (more failed : Bool) (fin : Reply) {v : Verdict} {digest : List ℕ}
    → pick more none (some (checked_reply c (pick failed (without_digest Unread) fin))) ≡ some (says_verdict v digest)
    → (more ≡ false) × (c ≡ Ok tt) × (failed ≡ false) × (fin ≡ says_verdict v digest)
said c true failed fin e = absurd (false≢true (ap is_verdict e))
said (Err r) false failed fin e = absurd (false≢true (ap is_verdict e))
said (Ok u) false true fin e = absurd (false≢true (ap is_verdict e))
said (Ok u) false false fin e = (refl, refl, refl, some-injective _ _ e)

module _ (f : Flags) (table : List ℕ) (reads : List Read) where
  -- A verdict is said only for a message that was read to its end.
  pub verdict-read : Possible reads → {v : Verdict} {digest : List ℕ} → reply_to_message f table reads ≡ some (says_verdict v digest) → ReadToEnd f table reads v digest
  unfolding reply_to_message intake_reply
  verdict-read p e =
      let h = intake_of (fresh_of f) table reads in
      let s = said h.refusal h.more h.failed (finish_reply (finished h.hasher (loan_of table [] []))) e in
      let x = stop table reads (fresh_of f) s.0 s.1 in
      let k = intake-end-at table (fresh_of f) reads x.end x.passed in
      let done = finish-says _ _ (rw k at s.3) in
      record {
        end = x.end;
        passed = x.passed;
        ended = end-zero x.end p (sym (ap (λ (x : Intake). x.failed) k) ∙ s.2);
        verdict = done.0;
        digested = done.1;
      }

  -- A message that is read to its end has what the finish says, verdict or refusal.
  pub end-says : (e : Ends reads) → Passed (fresh_of f) table e → below0 e.last.got ≡ false
      → reply_to_message f table reads ≡ some (finish_reply (hashed f (tables_of table []) (calls e.before) []))
  unfolding reply_to_message intake_reply
  end-says e p u = rw (intake-end-at table (fresh_of f) reads e p, u)

  -- A read that fails is said to be 16 where nothing was refused before.
  pub failed-says : (e : Ends reads) → Passed (fresh_of f) table e → below0 e.last.got ≡ true → reply_to_message f table reads ≡ some (without_digest Unread)
  unfolding reply_to_message intake_reply
  failed-says e p u = rw (intake-end-at table (fresh_of f) reads e p, u)

-- a verdict with a table file is said only where it was read and nothing is wrong with it
file-by : (c : Checked) (f : Flags) (file : List ℕ) (reads : List Read) {a : Reply} → file_fault file ≡ c → is_verdict (some a) ≡ true
    → checked_answer c (reply_to_message f (table_of file) reads) ≡ some a
    → (is_ok (file_fault file) ≡ true) × (reply_to_message f (table_of file) reads ≡ some a)
file-by (Ok u) f file reads t v e = (ap is_ok t, e)
file-by (Err r) f file reads t v e = absurd (false≢true (ap is_verdict e ∙ v))

module _ (args : List Argument) (files : ℕ → File) (reads : List Read) where
  -- With no bad argument the reply is that to the message, with the table that the arguments ask.
  pub reply-with : {table : List ℕ} → (setting_read args).bad ≡ false → TableOf (setting_read args) (file_given args files) table
      → program_reply args files reads ≡ reply_to_message (flags_of (setting_read args)) table reads
  unfolding program_reply reply_with_contents
  reply-with b (unasked t) = rw (b, t)
  reply-with b (checked t g k) = let n = nothing_is _ k in rw (b, t, g, n)

  -- The table is checked first: if something is wrong with the file that they name, the reply is that, to all reads of the message, to none too.
  pub table-first : {file : List ℕ} → (setting_read args).bad ≡ false → (setting_read args).table ≡ true → file_given args files ≡ holds file
      → {r : Refusal} → file_fault file ≡ Err r → program_reply args files reads ≡ some (without_digest (SayRefused r))
  unfolding program_reply reply_with_contents
  table-first b t g k = rw (b, t, g, k)

  -- With nothing wrong, a read that fails is said to be 16 where nothing was refused before.
  pub reply-failed : {table : List ℕ} → (setting_read args).bad ≡ false → TableOf (setting_read args) (file_given args files) table
      → (e : Ends reads) → Passed (fresh_of (flags_of (setting_read args))) table e → below0 e.last.got ≡ true → program_reply args files reads ≡ some (without_digest Unread)
  reply-failed b t e p u = reply-with b t ∙ failed-says (flags_of (setting_read args)) _ reads e p u

module _ (args : List Argument) (files : ℕ → File) (reads : List Read) (p : Possible reads) (v : Verdict) (digest : List ℕ) where
  with-file : (c : Contents) → file_given args files ≡ c → (setting_read args).bad ≡ false → (setting_read args).table ≡ true → reply_with_contents (flags_of (setting_read args)) c reads ≡ some (says_verdict v digest)
      → VerdictGrounds args files reads v digest
  unfolding reply_with_contents
  with-file (holds file) g b t e =
      let k = file-by _ (flags_of (setting_read args)) file reads refl refl e in
      record { good = b; table = table_of file; whence = checked t g k.0; read = verdict-read (flags_of (setting_read args)) (table_of file) reads p k.1 }
  with-file unreadable g b t e = absurd (false≢true (ap is_verdict e))
  with-file unfinished g b t e = absurd (false≢true (ap is_verdict e))

  by-setting : (bad table : Bool) → (setting_read args).bad ≡ bad → (setting_read args).table ≡ table
      → plan_reply (pick bad (Err NotRead) (Ok (record { table = pick table (Some (table_place (kinds_read args))) None; raw = (setting_read args).raw }))) files reads ≡ some (says_verdict v digest)
      → VerdictGrounds args files reads v digest
  by-setting true table b t e = absurd (false≢true (ap is_verdict e))
  by-setting false true b t e = with-file (file_given args files) refl b t (rw t e)
  by-setting false false b t e = record { good = b; table = []; whence = unasked t; read = verdict-read (flags_of (setting_read args)) [] reads p (rw t e) }

  -- A verdict is the reply only where no argument is bad and the message was read to its end, with the table that the arguments ask.
  pub reply-verdict : program_reply args files reads ≡ some (says_verdict v digest) → VerdictGrounds args files reads v digest
  unfolding program_reply
  reply-verdict e = by-setting (setting_read args).bad (setting_read args).table refl refl e

-- So every verdict that the program's contract allows is said for reads that go to the message's end.
pub replies-verdict : {v : Verdict} {digest : List ℕ} (r : ProgramReplies (says_verdict v digest)) → VerdictGrounds r.arguments r.files r.replies.reads v digest
replies-verdict {v} {digest} r =
    reply-verdict r.arguments r.files r.replies.reads r.replies.possible v digest r.replies.replied
