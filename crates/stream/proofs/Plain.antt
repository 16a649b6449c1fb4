-- The fold with detection off is FIPS 180-4's, whatever is lent, and leaves the mark, and where it was made, as they are. Assumes nothing.
use mathlib.Core.Path.{◌≡◌, refl}
use mathlib.Core.List.{List}
use Prim.Native.Nat.{ℕ, zero, suc, ◌+◌}
use native.Mathlib.Omega.{arith}
use lib.ListN.{take, drop}
use Rattle.block.specs.Compress.{compress_of}
use Rattle.fips.specs.Fips.{hash_blocks}
use Rattle.fips.proofs.Blocks.{hash-zero, hash-suc}
use Rattle.stream.specs.Fold.{chained, plain_of}
use Rattle.stream.specs.declared.Chain.{Chain}
use Rattle.stream.proofs.Folds.{chained-zero, chained-suc}

pub plain-is : (c : Chain) (block : List ℕ) (mask : ℕ)
    → plain_of c block mask ≡ record { words = compress_of c.words block; mark = c.mark; first = c.first; blocks = c.blocks + 1 }
unfolding plain_of
plain-is c block mask = refl

pub chained_plain : (n : ℕ) (c : Chain) (xs ms : List ℕ)
    → chained plain_of n c xs ms ≡ record { words = hash_blocks n c.words xs; mark = c.mark; first = c.first; blocks = c.blocks + n }
chained_plain zero c xs ms =
    let e : c.blocks + 0 ≡ c.blocks = omega arith in
    rw (chained-zero plain_of, hash-zero, e)
chained_plain (suc n) c xs ms =
    let e : c.blocks + suc n ≡ c.blocks + 1 + n = omega arith in
    rw (chained-suc plain_of, plain-is, hash-suc, e)
    (chained_plain n (record { words = compress_of c.words (take 64 xs); mark = c.mark; first = c.first; blocks = c.blocks + 1 }) (drop 64 xs) (drop 1 ms))
