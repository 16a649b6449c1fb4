-- The line that the program writes, and what it says.
use Rattle.std.specs.Prelude.{List, [], ◌∷◌, ◌++◌, ℕ, ◌+◌, ◌-◌, ◌/◌, ◌%◌, ltb, length, replicate, Result, Ok, Err}
use Rattle.word.specs.Choice.{pick}
use Rattle.refusal.specs.Refusal.{number}
use Rattle.refusal.specs.declared.Refusal.{Refusal}
use Rattle.verdict.specs.declared.Verdict.{Verdict as AnyVerdict}
use Rattle.verdict.specs.Verdict.{digest_size, verdict_word}
use Rattle.std.proofs.Math.Seq.{paste}
use Rattle.line.specs.declared.Line.{Line}
use Rattle.line.specs.declared.Said.{Said}
use Rattle.line.specs.declared.Failure.{Failure}
use Rattle.line.specs.declared.Failure.TheVariants.{Refused as RefusedBy, Unread as NotRead}

-- a space, in ASCII
abbrev pub space : ℕ
space = 0x20

-- the end of a line, in ASCII
abbrev pub newline : ℕ
newline = 0x0A

-- the digit of a number below 16: `0` to `9`, then `a` to `f`
abbrev pub hex_digit : ℕ → ℕ
hex_digit n = pick (ltb n 10) (0x30 + n) (0x61 + (n - 10))

-- two digits for each byte, the high one first
unfoldable pub hex_of : List ℕ → List ℕ
hex_of [] = []
hex_of (b ∷ bs) = hex_digit (b / 16) ∷ hex_digit (b % 16) ∷ hex_of bs

-- a number below 100 in decimal
abbrev pub decimal_of : ℕ → List ℕ
decimal_of n = pick (ltb n 10) ((0x30 + n) ∷ []) ((0x30 + n / 10) ∷ (0x30 + n % 10) ∷ [])

-- a verdict's word, a space and the digest in hex
unfoldable pub verdict_text : List ℕ → List ℕ → List ℕ
verdict_text word digest = word ++ (space ∷ []) ++ hex_of digest

-- `refused`, in ASCII
abbrev pub refused_sign : List ℕ
refused_sign = 0x72 ∷ 0x65 ∷ 0x66 ∷ 0x75 ∷ 0x73 ∷ 0x65 ∷ 0x64 ∷ []

-- `refused`, a space and the number
unfoldable pub refused_text : ℕ → List ℕ
refused_text n = refused_sign ++ (space ∷ []) ++ decimal_of n

-- what the program has to say: a verdict, what is refused, or that an argument, the table file or the message could not be taken in
pub data Saying : Type 0 where
  Verdict : AnyVerdict → Saying
  Refused : Refusal → Saying
  Unread : Saying

-- what is to be written: what is said, and the digest beside it
pub record Reply : Type 0 where
  pub saying : Saying
  pub digest : List ℕ

-- a reply with no digest
abbrev pub without_digest : Saying → Reply
without_digest s = record { saying = s; digest = replicate digest_size 0 }

-- what is said where there is no verdict
abbrev pub saying_of : Failure → Saying
saying_of (RefusedBy r) = Refused r
saying_of NotRead = Unread

-- the reply as the program has it: a verdict with its digest, or why there is none
abbrev pub reply_of : Result Said Failure → Reply
reply_of (Ok s) = record { saying = Verdict s.verdict; digest = s.digest }
reply_of (Err f) = without_digest (saying_of f)

-- the number of what is said in the table of docs/BEHAVIOUR.md: 0 for a verdict, a refusal's own, and 16 for what could not be read
abbrev pub saying_number : Saying → ℕ
saying_number (Verdict v) = 0
saying_number (Refused r) = number r
saying_number Unread = 16

-- the number of why there is no verdict
abbrev pub failure_number : Failure → ℕ
failure_number f = saying_number (saying_of f)

-- the text for what is said: a verdict with its digest, or the number of what is refused
abbrev pub text_of : Saying → List ℕ → List ℕ
text_of (Verdict v) digest = verdict_text (verdict_word v) digest
text_of (Refused r) digest = refused_text (saying_number (Refused r))
text_of Unread digest = refused_text (saying_number Unread)

-- a text and a newline
abbrev pub ended : List ℕ → List ℕ
ended text = text ++ (newline ∷ [])

-- the line
abbrev pub line_of : Saying → List ℕ → List ℕ
line_of s digest = ended (text_of s digest)

-- the line of a reply
abbrev pub line_for : Reply → List ℕ
line_for a = line_of a.saying a.digest

-- a line of 64 bytes, of which the first are given and the others zero
abbrev pub line_with : List ℕ → Line
line_with xs = record { bytes = xs ++ replicate (64 - length xs) 0; len = length xs }

-- a line with more bytes after it
abbrev pub written : Line → List ℕ → Line
written l s = record { bytes = paste l.bytes l.len s (length s); len = l.len + length s }
