-- What the program writes for a whole message with no table: 01's example among them. Assumes nothing.
use mathlib.Core.Path.{◌≡◌, refl, ap, ◌∙◌}
use mathlib.Core.Bool.{false}
use mathlib.Core.List.{List, [], ◌∷◌}
use mathlib.Core.Option.{some, map}
use Prim.Native.Nat.{ℕ, ◌≤◌}
use lib.Dec.{lit≤}
use lib.ListN.{length}
use Rattle.word.specs.Word.{rotl, not32, ch, maj}
use Rattle.word.specs.Lists.{list_of}
use Rattle.loan.specs.Loan.{tables_of}
use Rattle.step.specs.Step.{step_with, f_at, k_at, step_at, steps_of}
use Rattle.block.specs.Schedule.{scheduled}
use Rattle.block.specs.Compress.{over_schedule, compress_of}
use Rattle.verdict.specs.declared.Verdict.TheVariants.{Ok}
use Rattle.octets.specs.Octets.{bytes64}
use Rattle.fips.specs.Fips.{most_bytes, hash_blocks, digest_of, sha1}
use Rattle.flags.specs.declared.Flags.{Flags}
use Rattle.arguments.specs.Arguments.{flags_of}
use Rattle.line.specs.Line.{hex_of, verdict_text, line_of}
use Rattle.line.specs.Line.{Verdict}
use Rattle.arguments.specs.Arguments.{Setting}
use Rattle.arguments.proofs.Settings.{setting-none}
use Rattle.claims.specs.Pieces.{hashed}
use Rattle.claims.proofs.Every.{none-refused-off, every-message}
use Rattle.reads.specs.Reads.{Read, below0}
use Rattle.reads.specs.Files.{File}
use Rattle.plan.specs.Given.{Argument, setting_read}
use Rattle.program.specs.Reply.{finish_reply, program_reply}
use Rattle.line.specs.Line.{Reply}
use Rattle.program_claims.specs.Ends.{calls, message_of, Ends}
use Rattle.program_claims.specs.Grounds.{unasked}
use Rattle.program_claims.proofs.Verdicts.{end-says, reply-with}

undetected : (f : Flags) (rs : List Read) → f.detect ≡ false → length (message_of rs) ≤ most_bytes
    → finish_reply (hashed f (tables_of [] []) (calls rs) []) ≡ record { saying = Verdict Ok; digest = sha1 (message_of rs) }
undetected f rs off short = ap finish_reply (every-message f (tables_of [] []) (calls rs) [] short off)

-- With no bad argument and no table, a message that is read to its end has the verdict ok and FIPS 180-4's digest, in whatever pieces it comes.
pub no_table : (args : List Argument) (files : ℕ → File) (reads : List Read) → (setting_read args).bad ≡ false → (setting_read args).table ≡ false
    → (e : Ends reads) → below0 e.last.got ≡ false → length (message_of e.before) ≤ most_bytes
    → program_reply args files reads ≡ some (record { saying = Verdict Ok; digest = sha1 (message_of e.before) })
no_table args files reads good off e unfailed short =
    let f = flags_of (setting_read args) in
    reply-with args files reads good (unasked off)
    ∙ end-says f [] reads e (none-refused-off f (tables_of [] []) (calls e.before) [] short off).updates unfailed
    ∙ ap some (undetected f e.before off short)

-- the line of a reply
abbrev pub line_for : Reply → List ℕ
line_for a = line_of a.saying a.digest

-- `hello world`, and its line `ok 2aae6c35c94fcfb415dbe95f408b9ce91ee846ed`, in ASCII
abbrev pub hello : List ℕ
hello = 0x68 ∷ 0x65 ∷ 0x6C ∷ 0x6C ∷ 0x6F ∷ 0x20 ∷ 0x77 ∷ 0x6F ∷ 0x72 ∷ 0x6C ∷ 0x64 ∷ []

abbrev pub hello_line : List ℕ
hello_line = 0x6F ∷ 0x6B ∷ 0x20 ∷ 0x32 ∷ 0x61 ∷ 0x61 ∷ 0x65 ∷ 0x36 ∷ 0x63 ∷ 0x33 ∷ 0x35 ∷ 0x63 ∷ 0x39 ∷ 0x34 ∷ 0x66 ∷ 0x63 ∷ 0x66 ∷ 0x62 ∷ 0x34 ∷ 0x31 ∷ 0x35 ∷ 0x64 ∷ 0x62 ∷ 0x65 ∷ 0x39 ∷ 0x35 ∷ 0x66 ∷ 0x34 ∷ 0x30 ∷ 0x38 ∷ 0x62 ∷ 0x39 ∷ 0x63 ∷ 0x65 ∷ 0x39 ∷ 0x31 ∷ 0x65 ∷ 0x65 ∷ 0x38 ∷ 0x34 ∷ 0x36 ∷ 0x65 ∷ 0x64 ∷ 0x0A ∷ []

digest-line : line_for (record { saying = Verdict Ok; digest = sha1 hello }) ≡ hello_line
unfolding verdict_text hex_of sha1 bytes64 hash_blocks digest_of compress_of over_schedule scheduled list_of steps_of step_at step_with f_at k_at rotl not32 ch maj
digest-line = refl

-- With no argument the message `hello world`, in whatever pieces it comes, has the line that 01 gives.
pub hello-world : (files : ℕ → File) (reads : List Read) (e : Ends reads) → below0 e.last.got ≡ false → message_of e.before ≡ hello
    → map line_for (program_reply [] files reads) ≡ some hello_line
hello-world files reads e unfailed m =
    let short : length (message_of e.before) ≤ most_bytes = rw m (lit≤ tt) in
    let good = ap (λ (s : Setting). s.bad) setting-none in
    let off = ap (λ (s : Setting). s.table) setting-none in
    rw (no_table [] files reads good off e unfailed short, m) (ap some digest-line)
