-- Whether an answer of the proved code is the line's.
use Rattle.std.specs.Prelude.{ℕ, ◌+◌, Bool, not, ◌&&◌, List, eqb, take, Some, Result, Ok, Err, is_some, unwrap_or}
use Rattle.std.specs.Option.{option_eq}
use Rattle.std.specs.Cmp.Lexicographic.{pointwise}
use Rattle.refusal.specs.Refusal.{Checked}
use Rattle.refusal.specs.declared.Refusal.{Refusal}
use Rattle.verdict.specs.declared.Verdict.{Verdict}
use Rattle.verdict.specs.declared.Verdict.TheVariants.{Ok as Unmarked, Mitigated, Collision}
use Rattle.detect.specs.declared.OneBlock.{OneBlock}
use Rattle.hasher.specs.declared.Hasher.{Hasher}
use Rattle.replay_line.specs.Hex.{no_number}
use Rattle.replay_line.specs.Fields.{bytes_at, small_at, five_at, is_mark, is_refusal}
use Rattle.replay_line.specs.Kinds.{is_refused}

-- whether field i is this number; one that can't be read is read as no_number
abbrev pub is_small : List ℕ → ℕ → ℕ → Bool
is_small line i n = eqb (unwrap_or (small_at line i) no_number) n

-- whether field i is these five words
abbrev pub is_five : List ℕ → ℕ → List ℕ → Bool
is_five line i w = option_eq (pointwise eqb) (five_at line i) (Some w)

-- whether field i is these bytes
abbrev pub is_bytes : List ℕ → ℕ → List ℕ → Bool
is_bytes line i bytes = option_eq (pointwise eqb) (bytes_at line i) (Some bytes)

-- whether field i is the pending bytes of a hasher
abbrev pub is_pending : List ℕ → ℕ → Hasher → Bool
is_pending line i h = is_bytes line i (take h.fill h.pending)

-- a refusal, in fields i and i + 1
abbrev pub refused_agrees : Refusal → List ℕ → ℕ → Bool
refused_agrees r line i = is_refused line && is_refusal line i r

-- what is wrong with a table, or that nothing is
abbrev pub table_agrees : Checked → List ℕ → Bool
table_agrees (Ok u) line = not (is_refused line)
table_agrees (Err r) line = refused_agrees r line 2

-- a block's words, mark, place and tries, or its refusal
abbrev pub block_agrees : Result OneBlock Refusal → List ℕ → Bool
block_agrees (Ok b) line =
    not (is_refused line)
    && (is_five line 5 b.words
    && (is_mark line 6 (is_some b.found.by)
    && (is_small line 7 (unwrap_or b.found.by 0) && is_small line 8 b.found.tried)))
block_agrees (Err r) line = refused_agrees r line 5

-- a hasher's words, pending bytes, block count and mark after an update, or its refusal
abbrev pub update_agrees : Result Hasher Refusal → List ℕ → Bool
update_agrees (Ok h) line =
    not (is_refused line)
    && (is_five line 3 h.words
    && (is_pending line 4 h
    && (is_small line 5 h.blocks && is_mark line 6 h.mark)))
update_agrees (Err r) line = refused_agrees r line 3

-- a verdict's digit in the list
abbrev pub verdict_digit : Verdict → ℕ
verdict_digit Unmarked = 0
verdict_digit Mitigated = 1
verdict_digit Collision = 2

-- a verdict and a digest, in fields i and i + 1, or a refusal there
abbrev pub outcome_agrees : Result (Verdict × List ℕ) Refusal → List ℕ → ℕ → Bool
outcome_agrees (Ok a) line i = not (is_refused line) && (is_small line i (verdict_digit a.0) && is_bytes line (i + 1) a.1)
outcome_agrees (Err r) line i = refused_agrees r line i
