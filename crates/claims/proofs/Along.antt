-- Along a message: its chaining words are words, and its blocks are bytes. Assumes nothing.
use mathlib.Core.Bool.{Bool}
use mathlib.Core.List.{List, [], ◌∷◌}
use Prim.Native.Nat.{ℕ, zero, suc, ◌*◌, ◌/◌, ◌^◌}
use native.Mathlib.Nat.{mod-lt}
use lib.Dec.{lit<}
use lib.ListN.{length, get_or, take, drop, replicate}
use lib.Pow.{pow_pos}
use Rattle.word.proofs.Tests.{of_either}
use Rattle.word.proofs.Below.{more-below, append-below, replicate-below, take_below, drop-below, remainders-below}
use Rattle.step.specs.Step.{Words}
use Rattle.step.specs.declared.Regs.{Regs}
use Rattle.block.specs.Compress.{over_schedule, compress_of}
use Rattle.octets.specs.Octets.{bytes64}
use Rattle.fips.specs.Fips.{zeros_for, padding_for, padded, initial}
use Rattle.stream.specs.Fold.{all_bits}
use Rattle.word.specs.Lists.{AllBytes}
use Rattle.claims.specs.Marked.{hash_marked, block_at}

-- a sum that wraps is a word
compress-words : (h : Regs) (block : List ℕ) → Words (compress_of h block)
unfolding compress_of over_schedule
compress-words h block =
    record { a_lt = mod-lt _ (pow_pos 32); b_lt = mod-lt _ (pow_pos 32); c_lt = mod-lt _ (pow_pos 32); d_lt = mod-lt _ (pow_pos 32); e_lt = mod-lt _ (pow_pos 32) }

pub hash-words : (again : Regs → List ℕ → ℕ → Bool) (n : ℕ) (h : Regs) (xs masks : List ℕ) → Words h → Words (hash_marked again n h xs masks)
unfolding hash_marked
hash-words again zero h xs masks w = w
hash-words again (suc n) h xs masks w =
    let block = take 64 xs in
    hash-words again n _ (drop 64 xs) (drop 1 masks)
    (of_either Words (again h block (get_or masks 0 all_bits)) _ _ (compress-words (compress_of (compress_of h block) block) block) (compress-words h block))

pub initial-words : Words initial
initial-words = record { a_lt = lit< tt; b_lt = lit< tt; c_lt = lit< tt; d_lt = lit< tt; e_lt = lit< tt }

length-bytes : (x : ℕ) → AllBytes (bytes64 x)
unfolding bytes64
length-bytes x =
    remainders-below (lit< tt) (x / 2 ^ 56 ∷ x / 2 ^ 48 ∷ x / 2 ^ 40 ∷ x / 2 ^ 32 ∷ x / 2 ^ 24 ∷ x / 2 ^ 16 ∷ x / 2 ^ 8 ∷ x ∷ [])

pub padding_bytes_lem : (n : ℕ) → AllBytes (padding_for n)
padding_bytes_lem n =
    let zeros : List ℕ = replicate (zeros_for n) 0 in
    append-below (0x80 ∷ zeros) (bytes64 (8 * n)) (more-below 0x80 zeros (lit< tt) (replicate-below (zeros_for n) 0 (lit< tt))) (length-bytes (8 * n))

pub padded-bytes : (msg : List ℕ) → AllBytes msg → AllBytes (padded msg)
padded-bytes msg h = append-below msg (padding_for (length msg)) h (padding_bytes_lem (length msg))

pub block-bytes : (xs : List ℕ) (i : ℕ) → AllBytes xs → AllBytes (block_at xs i)
block-bytes xs i h = take_below 64 (drop (64 * i) xs) (drop-below (64 * i) xs h)
