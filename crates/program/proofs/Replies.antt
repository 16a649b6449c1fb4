-- What is taken in, read and asked, as the replies to it. Assumes nothing.
use mathlib.Core.Path.{◌≡◌, refl, sym, ap, ◌∙◌, subst}
use mathlib.Core.Bool.{Bool, true, false, false≢true}
use mathlib.Core.List.{List, []}
use mathlib.Core.Option.{Option, some}
use Prim.Native.Nat.{ℕ, ◌+◌, ◌/◌, ◌≤◌}
use lib.ListN.{length, take}
use Rattle.std.specs.Prelude.{Result, Ok, Err, is_ok, Option as Maybe}
use Rattle.std.specs.Result.{result_map_both}
use Rattle.word.specs.Choice.{pick}
use Rattle.refusal.specs.Refusal.{Checked}
use Rattle.refusal.specs.declared.Refusal.TheVariants.{TableLength}
use Rattle.flags.specs.declared.Flags.{Flags}
use Rattle.hasher.specs.Hasher.{fresh_of}
use Rattle.table_file.specs.File.{most_words, most_file_bytes, table_of, file_fault}
use Rattle.table_file.proofs.Short.{short}
use Rattle.line.specs.Line.{Reply, Unread as NotRead, reply_of, saying_of, without_digest}
use Rattle.line.specs.declared.Failure.{Failure}
use Rattle.line.specs.declared.Failure.TheVariants.{Refused}
use Rattle.reads.specs.Reads.{Read}
use Rattle.program.specs.Intakes.{TookIn, handed_by}
use Rattle.reads.specs.Files.{File, Contents, contents_of, in_buffer, fault_check, check_of, Loads}
use Rattle.plan.specs.Given.{plan_flags, Asks}
use Rattle.program.specs.Reply.{outcome_reply, finish_reply, finish_said, checked_reply, checked_answer, intake_reply, reply_to_message, reply_with_contents, reply_with_file, table_reply, plan_reply, program_reply, Replies, RepliesWithFile, ProgramReplies}
use Rattle.finish.specs.Finish.{FinishAccount, Outcome, finished}
use Rattle.hasher.specs.declared.Hasher.{Hasher}
use Rattle.loan.specs.Loan.{loan_of}
use Rattle.plan.specs.declared.Plan.{Plan}

-- what the program says of a finish is what the finish says
pub said-is : (a : FinishAccount) → reply_of (finish_said a) ≡ finish_reply a
said-is a = by a.outcome a.digest
  where
    by : (o : Outcome) (digest : List ℕ) → reply_of (result_map_both (λ v. record { verdict = v; digest = digest }) Refused o) ≡ outcome_reply o digest
    by (Ok v) digest = refl
    by (Err r) digest = refl

-- the reply by what the program has of a message
abbrev pub message_reply : Result Hasher Failure → List ℕ → Reply
message_reply (Ok h) table = finish_reply (finished h (loan_of table [] []))
message_reply (Err e) table = without_digest (saying_of e)

handed-reply : (c : Checked) (failed : Bool) (h : Hasher) (table : List ℕ)
    → checked_reply c (pick failed (without_digest NotRead) (finish_reply (finished h (loan_of table [] [])))) ≡ message_reply (handed_by c failed h) table
handed-reply (Ok u) true h table = refl
handed-reply (Ok u) false h table = refl
handed-reply (Err r) failed h table = refl

-- what was taken in to its end has a reply
pub took-in-replies : {f : Flags} {table : List ℕ} {r : Result Hasher Failure} → TookIn (fresh_of f) table r → Replies (reply_to_message f table) (message_reply r table)
unfolding reply_to_message intake_reply
took-in-replies {f} {table} {r} t =
    record {
      reads = t.takes.reads;
      possible = t.takes.possible;
      replied =
          rw (← t.takes.intake, t.takes.ended, handed-reply t.intake.refusal t.intake.failed t.intake.hasher table, ← t.handed);
    }

-- a file with nothing wrong has no more words than the longest table
whole : (b : Bool) (r : Checked) → is_ok (pick b r (Err TableLength)) ≡ true → b ≡ true
whole true r e = refl
whole false r e = absurd (false≢true e)

pub file-short : (bytes : List ℕ) → is_ok (file_fault bytes) ≡ true → length bytes / 4 ≤ most_words
unfolding file_fault
file-short bytes e = short (length bytes) (whole _ _ e)

-- a sound file was read, and nothing is wrong with it
sound-by : (c : Checked) (m n : ℕ) → fault_check m c ≡ Ok n → (m ≡ n) × (is_ok c ≡ true)
sound-by (Ok u) m n e = (cc, refl)
sound-by (Err r) m n e = absurd cc

-- the reply with a file in a buffer, by its check
abbrev check_reply : Result ℕ Failure → Flags → List ℕ → List Read → Option Reply
check_reply (Ok n) f buffer reads = reply_to_message f (table_of (take n buffer)) reads
check_reply (Err e) f buffer reads = some (without_digest (saying_of e))

checked-by : (c : Checked) (n : ℕ) (f : Flags) (buffer : List ℕ) (reads : List Read)
    → checked_answer c (reply_to_message f (table_of (take n buffer)) reads) ≡ check_reply (fault_check n c) f buffer reads
checked-by (Ok u) n f buffer reads = refl
checked-by (Err r) n f buffer reads = refl

module _ {E : Type 0} where
  pub check_sound : (r : Result ℕ E) (buffer : List ℕ) (n : ℕ) → check_of r buffer ≡ Ok n → (r ≡ Ok n) × (is_ok (file_fault (take n buffer)) ≡ true)
  check_sound (Ok m) buffer n e =
      let x = sound-by (file_fault (take m buffer)) m n e in
      (ap (λ (k : ℕ). Ok k) x.0, rw x.0 at x.1)
  check_sound (Err e) buffer n k = absurd cc

  pub sound-fits : {buffer : List ℕ} {r : Result ℕ E} → Loads buffer r → (n : ℕ) → check_of r buffer ≡ Ok n → n ≤ length buffer
  sound-fits {buffer} {r} l n e = rw (check_sound r buffer n e).0 at l.fits

  check-replies : (r : Result ℕ E) (f : Flags) (buffer : List ℕ) (reads : List Read)
      → reply_with_contents f (in_buffer r buffer) reads ≡ check_reply (check_of r buffer) f buffer reads
  unfolding reply_with_contents
  check-replies (Ok n) f buffer reads = checked-by (file_fault (take n buffer)) n f buffer reads
  check-replies (Err e) f buffer reads = refl

  -- the replies that a file leads to, which was read into a buffer of the right length
  module _ {buffer : List ℕ} {r : Result ℕ E} (l : Loads buffer r) (long : length buffer ≡ most_file_bytes + 1) (f : Flags) (place : ℕ) where
    with-file : (reads : List Read) {x : Result ℕ Failure} → check_of r buffer ≡ x → reply_with_file f l.file reads ≡ check_reply x f buffer reads
    with-file reads e =
        ap (λ (n : ℕ). reply_with_contents f (contents_of n l.file) reads) (sym long)
        ∙ ap (λ (c : Contents). reply_with_contents f c reads) (sym l.loaded)
        ∙ check-replies r f buffer reads
        ∙ ap (λ (x : Result ℕ Failure). check_reply x f buffer reads) e

    pub sound-replies : (n : ℕ) {a : Reply} → check_of r buffer ≡ Ok n → Replies (reply_to_message f (table_of (take n buffer))) a → RepliesWithFile f place a
    sound-replies n e s =
        record { files = λ i. l.file; replies = record { reads = s.reads; possible = s.possible; replied = with-file s.reads e ∙ s.replied } }

    pub said-replies : {e : Failure} → check_of r buffer ≡ Err e → RepliesWithFile f place (without_digest (saying_of e))
    said-replies e = record { files = λ i. l.file; replies = record { reads = []; possible = tt; replied = with-file [] e } }

-- the replies that what is asked leads to
pub plan-replies : {p : Result Plan Failure} {r : Reply} (asks : Asks p) (files : ℕ → File) → Replies (plan_reply p files) r → ProgramReplies r
unfolding program_reply
plan-replies {p} asks files s =
    record {
      arguments = asks.arguments;
      files = files;
      replies = record {
        reads = s.reads;
        possible = s.possible;
        replied = ap (λ (q : Result Plan Failure). plan_reply q files s.reads) (sym asks.asked) ∙ s.replied;
      };
    }

-- the same by the table that is named
pub table-replies : {p : Plan} {r : Reply} (asks : Asks (Ok p)) (files : ℕ → File) (t : Maybe ℕ) → p.table ≡ t
    → Replies (table_reply t (plan_flags p) files) r → ProgramReplies r
table-replies {p} {r} asks files t e s =
    plan-replies asks files (subst (λ (u : Maybe ℕ). Replies (table_reply u (plan_flags p) files) r) (sym e) s)

-- what is said at once needs no read
pub said-at-once : (e : Failure) → Replies (λ reads. some (without_digest (saying_of e))) (reply_of (Err e))
said-at-once e = record { reads = []; possible = tt; replied = refl }
