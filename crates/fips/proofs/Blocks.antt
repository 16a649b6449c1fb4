-- The fold over the blocks of a stream. Assumes nothing.
use mathlib.Core.Path.{◌≡◌, refl}
use mathlib.Core.List.{List}
use Prim.Native.Nat.{ℕ, zero, suc}
use lib.ListN.{take, drop}
use Rattle.std.specs.List.{fold}
use Rattle.std.specs.Simd.{first_chunks}
use Rattle.step.specs.declared.Regs.{Regs}
use Rattle.block.specs.Compress.{compress_of}
use Rattle.fips.specs.Fips.{hash_blocks}

-- no block, and one block more
pub hash-zero : (h : Regs) (xs : List ℕ) → hash_blocks zero h xs ≡ h
unfolding hash_blocks
hash-zero h xs = refl

pub hash-suc : (n : ℕ) (h : Regs) (xs : List ℕ) → hash_blocks (suc n) h xs ≡ hash_blocks n (compress_of h (take 64 xs)) (drop 64 xs)
unfolding hash_blocks
hash-suc n h xs = refl

-- the fold over a stream's blocks, cut out beforehand
pub fold_chunks : (n : ℕ) (h : Regs) (xs : List ℕ) → fold compress_of h (first_chunks 64 n xs) ≡ hash_blocks n h xs
unfolding hash_blocks
fold_chunks zero h xs = refl
fold_chunks (suc n) h xs = fold_chunks n (compress_of h (take 64 xs)) (drop 64 xs)
