-- What a line gives: whether the proved code's answer is the line's, and the hasher for the next.
use Rattle.std.specs.Prelude.{◌≡◌, ℕ, Bool, false, ◌&&◌, List, [], nat_lt, Option, Some, None, is_some, is_ok, option_and_then}
use Rattle.word.specs.Choice.{pick}
use Rattle.table.specs.Table.{table_fault}
use Rattle.detect.specs.Detect.{one_block_of, block_handed}
use Rattle.stream.specs.Fold.{mode_of}
use Rattle.hasher.specs.Hasher.{fresh_of, reset_of}
use Rattle.hasher.specs.declared.Hasher.{Hasher}
use Rattle.cases.specs.Numbers.{flags_of_bits}
use Rattle.replay_line.specs.Fields.{word_list, bytes_at, small_at, hex_words, five_at, word_at}
use Rattle.replay_line.specs.declared.fields.Words.{Words}
use Rattle.replay_line.specs.declared.kind.Kind.{Kind}
use Rattle.replay_line.specs.declared.kind.Kind.TheVariants.{Comment, Table, Block, Fresh, Update, Finish, FinishReset, OneShot, Reset}
use Rattle.replay_run.specs.Agreed.{table_agrees, block_agrees}

-- the table lent after a line
abbrev pub lent_after : Option Words → Kind → List ℕ → Option Words
lent_after w Comment line = w
lent_after w Table line = hex_words line 1
lent_after w Block line = w
lent_after w Fresh line = w
lent_after w Update line = w
lent_after w Finish line = w
lent_after w FinishReset line = w
lent_after w OneShot line = w
lent_after w Reset line = w

-- the words of the table that is lent, none where none can be read
abbrev pub table_lent : Option Words → List ℕ
table_lent None = []
table_lent (Some w) = word_list w

-- the check of the table that the line lends
abbrev pub table_line : List ℕ → List ℕ → Bool
table_line line table = is_some (hex_words line 1) && table_agrees (table_fault table) line

-- one block: five words, a message, one mask, four bits
unfoldable pub block_line : List ℕ → List ℕ → Option Bool
block_line line table =
    option_and_then (λ five. option_and_then (λ message. option_and_then (λ mask. option_and_then (λ bits.
    pick (nat_lt bits 16) (Some (block_agrees (block_handed (one_block_of five message table mask (mode_of (flags_of_bits bits)))) line)) None)
    (small_at line 4)) (word_at line 3)) (bytes_at line 2)) (five_at line 1)

-- a fresh hasher with the flags of four bits; more than that can't be read, and leaves the hasher
abbrev pub fresh_line : Hasher → Option ℕ → Bool → Hasher → Type 0
fresh_line h None right new = (right ≡ false) × (new ≡ h)
fresh_line h (Some bits) right new = (right ≡ nat_lt bits 16) × (new ≡ pick (nat_lt bits 16) (fresh_of (flags_of_bits bits)) h)

-- the hasher that a reset leaves, and whether nothing was refused
abbrev pub reset_line : Hasher → Bool → Hasher → Type 0
reset_line h right new = (right ≡ is_ok (reset_of h).refusal) × (new ≡ (reset_of h).hasher)
