-- The sixteen words of a block of bytes are words, and so is every element of a schedule. Assumes nothing.
use mathlib.Core.List.{List}
use Prim.Native.Nat.{ℕ, zero, suc, ◌+◌, ◌-◌, ◌*◌, ◌^◌, ◌<◌}
use native.Mathlib.Omega.{arith}
use lib.Dec.{ltb}
use lib.ListN.{length}
use lib.Pow.{pow_pos}
use Rattle.word.specs.Lists.{AllWords, AllBytes}
use Rattle.word.proofs.Tests.{of_either}
use Rattle.word.proofs.Below.{none_below, last-below, list-below}
use Rattle.word.proofs.Xor.{rule-lt}
use Rattle.octets.specs.Octets.{be32_at}
use Rattle.block.specs.Schedule.{words_of, scheduled}

-- the sixteen words of a block of bytes
pub words-words : (block : List ℕ) → AllBytes block → AllWords (words_of block)
words-words block h =
    list-below (pow_pos 32) (be32_at block) 16 (λ i. omega (arith, h (4 * i), h (4 * i + 1), h (4 * i + 2), h (4 * i + 3)))

-- every element of a schedule of words
pub schedule_words_lem : (m : List ℕ) → AllWords m → (n : ℕ) → AllWords (scheduled m n)
unfolding scheduled
schedule_words_lem m h zero = none_below (pow_pos 32)
schedule_words_lem m h (suc n) =
    let w = scheduled m n in
    let g = schedule_words_lem m h n in
    let t = length w in
    last-below w _ g (of_either (λ (x : ℕ). x < 2 ^ 32) (ltb t 16) _ _ (h t) (rule-lt _ _ _ _ (g (t - 3)) (g (t - 8)) (g (t - 14)) (g (t - 16))))
