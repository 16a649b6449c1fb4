-- Which blocks of a message are marked, and the hash in which a marked block is compressed twice more: 01, "One block".
use Rattle.search.specs.Search.{is_marked, marking_place}
use Rattle.std.specs.Prelude.{◌≡◌, Bool, true, false, ◌&&◌, List, ℕ, zero, suc, ◌*◌, ◌/◌, ◌<◌, length, get_or, take, drop}
use Rattle.word.specs.Choice.{pick}
use Rattle.step.specs.declared.Regs.{Regs}
use Rattle.block.specs.Compress.{compress_of}
use Rattle.detect.specs.Detect.{selection_of, answer_of}
use Rattle.fips.specs.Fips.{padded, initial, digest_of}
use Rattle.flags.specs.declared.Flags.{Flags}
use Rattle.loan.specs.Loan.{Tables, Loan, looked_at, conditions_for}
use Rattle.stream.specs.Fold.{all_bits, mode_of}

-- the vectors that a block is tried with: those of its mask that survive the conditions, where they are looked at
abbrev pub selected_by : Flags → Tables → List ℕ → ℕ → ℕ
selected_by f t block mask = selection_of (conditions_for f t.conditions) block mask

-- whether the block that meets the chaining words h is marked: never with detection off
abbrev pub marked_by : Flags → Tables → Regs → List ℕ → ℕ → Bool
marked_by f t h block mask = f.detect && is_marked (answer_of (mode_of f) t.vectors h block (selected_by f t block mask)).found

-- the place of the record that marks it, where one does
abbrev pub place_by : Flags → Tables → Regs → List ℕ → ℕ → ℕ
place_by f t h block mask = marking_place (answer_of (mode_of f) t.vectors h block (selected_by f t block mask)).found

-- whether it is compressed twice more: it is marked, and mitigation is on
abbrev pub again_by : Flags → Tables → Regs → List ℕ → ℕ → Bool
again_by f t h block mask = marked_by f t h block mask && f.mitigate

-- the chaining words after a block that is compressed once, or twice more with the same block
abbrev pub compress_marked : Bool → Regs → List ℕ → Regs
compress_marked again h block =
    pick again (compress_of (compress_of (compress_of h block) block) block) (compress_of h block)

-- FIPS 180-4's fold of n blocks, in which those that `again` picks are compressed twice more
unfoldable pub hash_marked : (Regs → List ℕ → ℕ → Bool) → ℕ → Regs → List ℕ → List ℕ → Regs
hash_marked again zero h xs masks = h
hash_marked again (suc n) h xs masks =
    hash_marked again n (compress_marked (again h (take 64 xs) (get_or masks 0 all_bits)) h (take 64 xs)) (drop 64 xs) (drop 1 masks)

-- the whole blocks of a stream
abbrev pub whole_blocks : List ℕ → ℕ
whole_blocks xs = length xs / 64

-- block i of a stream
abbrev pub block_at : List ℕ → ℕ → List ℕ
block_at xs i = take 64 (drop (64 * i) xs)

-- the mask of block i: every bit where none is given
abbrev pub mask_for : List ℕ → ℕ → ℕ
mask_for masks i = get_or masks i all_bits

-- the vectors that block i of a stream is tried with
abbrev pub selected_at : Flags → Loan → List ℕ → ℕ → ℕ
selected_at f l xs i = selected_by f l.tables (block_at xs i) (mask_for (looked_at f l.masks) i)

-- the chaining words that block i of a stream meets, where h are those before the stream
abbrev pub words_at : Flags → Loan → Regs → List ℕ → ℕ → Regs
words_at f l h xs i = hash_marked (again_by f l.tables) i h xs (looked_at f l.masks)

-- whether block i of the stream is marked
abbrev pub marked_in : Flags → Loan → Regs → List ℕ → ℕ → Bool
marked_in f l h xs i = marked_by f l.tables (words_at f l h xs i) (block_at xs i) (mask_for (looked_at f l.masks) i)

-- the place of the record that marks block i of the stream, where one does
abbrev pub place_in : Flags → Loan → Regs → List ℕ → ℕ → ℕ
place_in f l h xs i = place_by f l.tables (words_at f l h xs i) (block_at xs i) (mask_for (looked_at f l.masks) i)

-- the blocks of a message, padding included
abbrev pub blocks_in : List ℕ → ℕ
blocks_in msg = whole_blocks (padded msg)

-- the digest by the fold in which the blocks that `again` picks are compressed twice more, of a message and the masks of its blocks
abbrev pub sha1_marked : (Regs → List ℕ → ℕ → Bool) → List ℕ → List ℕ → List ℕ
sha1_marked again msg masks = digest_of (hash_marked again (blocks_in msg) initial (padded msg) masks)

-- the chaining words that block i of the padded message meets
abbrev pub words_before : Flags → Loan → List ℕ → ℕ → Regs
words_before f l msg i = words_at f l initial (padded msg) i

-- whether block i of the padded message is marked
abbrev pub marked_at : Flags → Loan → List ℕ → ℕ → Bool
marked_at f l msg i = marked_in f l initial (padded msg) i

-- no block of a message is marked, padding included
abbrev pub NoneMarked : Flags → Loan → List ℕ → Type 0
NoneMarked f l msg = (i : ℕ) → i < blocks_in msg → marked_at f l msg i ≡ false

-- one is
abbrev pub OneMarked : Flags → Loan → List ℕ → Type 0
OneMarked f l msg = (i : ℕ) × (i < blocks_in msg) × (marked_at f l msg i ≡ true)
