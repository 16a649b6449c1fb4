-- The last blocks of a message, as they are made of the bytes that are pending: 01, "The hasher".
use Rattle.std.specs.Prelude.{List, ◌∷◌, ◌++◌, ℕ, ◌-◌, ◌*◌, leb, take, replicate}
use Rattle.word.specs.Choice.{pick}
use Rattle.octets.specs.Octets.{bytes64}

-- `SHA1_PADDING`: the byte 80 and 63 zeros
abbrev pub padding_bytes : List ℕ
padding_bytes = 0x80 ∷ replicate 63 0

-- the blocks that padding makes of so many pending bytes: 55 leave room for the byte 80 and the length in one
abbrev pub tail_blocks : ℕ → ℕ
tail_blocks fill = pick (leb fill 55) 1 2

-- the padding bytes between the pending ones and the length
abbrev pub pad_len : ℕ → ℕ
pad_len fill = 64 * tail_blocks fill - 8 - fill

-- the last blocks: the pending bytes, the padding, and the message's length in bits
unfoldable pub tail_of : List ℕ → ℕ → ℕ → List ℕ
tail_of pending fill bytes = take fill pending ++ take (pad_len fill) padding_bytes ++ bytes64 (8 * bytes)
