-- A hasher in another masks setting, and loans with masks that select every vector, or those that survive the conditions.
use Rattle.std.specs.Prelude.{List, [], ◌∷◌, ℕ, zero, suc, length, take, drop, replicate}
use Rattle.block.specs.Schedule.{words_of, schedule_of}
use Rattle.conditions.specs.Conditions.{surviving_of}
use Rattle.fips.specs.Fips.{padded}
use Rattle.fips.specs.Tail.{tail_blocks, tail_of}
use Rattle.flags.specs.Flags.{with_masks}
use Rattle.flags.specs.declared.Masks.{Masks}
use Rattle.flags.specs.declared.Masks.TheVariants.{All, Lent, Conditions}
use Rattle.loan.specs.Loan.{Tables, Loan, lend}
use Rattle.stream.specs.Fold.{all_bits}
use Rattle.hasher.specs.Hasher.{taken}
use Rattle.hasher.specs.declared.Hasher.{Hasher}
use Rattle.absorb.specs.Absorb.{stream_of}
use Rattle.update.specs.Update.{blocks_filled, updated}
use Rattle.claims.specs.Pieces.{Piece}
use Rattle.claims.specs.Marked.{blocks_in}

-- the hasher with another masks setting, and all else as it was
abbrev pub set_masks : Hasher → Masks → Hasher
set_masks h masks =
    record { words = h.words; pending = h.pending; fill = h.fill; blocks = h.blocks; flags = with_masks h.flags masks; mark = h.mark; first = h.first }

-- every vector for every block
abbrev pub masks_off : Hasher → Hasher
masks_off h = set_masks h All

-- one lent mask a block
abbrev pub masks_on : Hasher → Hasher
masks_on h = set_masks h Lent

-- the vectors that survive the conditions
abbrev pub conditions_on : Hasher → Hasher
conditions_on h = set_masks h Conditions

-- the loan with every bit for each of n blocks, in place of its masks
abbrev pub every_bit : ℕ → Loan → Loan
every_bit n l = lend l.tables (replicate n all_bits)

-- for each block that an update with these bytes compresses
abbrev pub every_block : Hasher → List ℕ → Loan → Loan
every_block h bytes l = every_bit (blocks_filled h (length bytes)) l

-- for each of the last blocks, which a finish compresses
abbrev pub every_last : Hasher → Loan → Loan
every_last h l = every_bit (tail_blocks h.fill) l

-- for each of the first n blocks of a stream, the vectors that survive the conditions in it
unfoldable pub surviving_masks : List ℕ → ℕ → List ℕ → List ℕ
surviving_masks conditions zero xs = []
surviving_masks conditions (suc n) xs =
    surviving_of (schedule_of (words_of (take 64 xs))) conditions ∷ surviving_masks conditions n (drop 64 xs)

-- the loan with these in place of its masks
abbrev pub surviving_bits : ℕ → List ℕ → Loan → Loan
surviving_bits n xs l = lend l.tables (surviving_masks l.tables.conditions n xs)

-- for each block that an update with these bytes compresses
abbrev pub surviving_blocks : Hasher → List ℕ → Loan → Loan
surviving_blocks h bytes l = surviving_bits (blocks_filled h (length bytes)) (stream_of h bytes) l

-- for each of the last blocks, which a finish compresses
abbrev pub surviving_last : Hasher → Loan → Loan
surviving_last h l = surviving_bits (tail_blocks h.fill) (tail_of h.pending h.fill (taken h)) l

-- for each block of a message, padding included
abbrev pub message_masks : Tables → List ℕ → List ℕ
message_masks t msg = surviving_masks t.conditions (blocks_in msg) (padded msg)

-- pieces with the vectors that survive in each block that they fill in place of their masks, from a hasher on
unfoldable pub surviving_pieces : Hasher → Tables → List Piece → List Piece
surviving_pieces h t [] = []
surviving_pieces h t (p ∷ ps) =
    let l = surviving_blocks h p.bytes (lend t p.masks) in
    record { bytes = p.bytes; masks = l.masks } ∷ surviving_pieces (updated (masks_on h) p.bytes l).hasher t ps
