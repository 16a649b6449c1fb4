-- Where no block is compressed again, the fold in which some are is the standard's. Assumes nothing.
use mathlib.Core.Path.{◌≡◌, refl}
use mathlib.Core.Bool.{Bool, false}
use mathlib.Core.List.{List}
use Prim.Native.Nat.{ℕ, zero, suc, ◌+◌, ◌*◌, ◌<◌}
use native.Mathlib.Omega.{arith}
use lib.ListN.{get_or, take, drop}
use lib.Seq.{drop-drop, get_or-drop}
use Rattle.step.specs.declared.Regs.{Regs}
use Rattle.block.specs.Compress.{compress_of}
use Rattle.fips.specs.Fips.{hash_blocks}
use Rattle.stream.specs.Fold.{all_bits}
use Rattle.claims.specs.Marked.{hash_marked}

-- what a test says of block i of xs, of the chaining words that the blocks before it lead to, and of its mask
abbrev pub at_block : (Regs → List ℕ → ℕ → Bool) → (Regs → List ℕ → ℕ → Bool) → Regs → List ℕ → List ℕ → ℕ → Bool
at_block test again h xs masks i = test (hash_marked again i h xs masks) (take 64 (drop (64 * i) xs)) (get_or masks i all_bits)

pub hash-plain : (again : Regs → List ℕ → ℕ → Bool) (n : ℕ) (h : Regs) (xs masks : List ℕ)
    → ((i : ℕ) → i < n → at_block again again h xs masks i ≡ false) → hash_marked again n h xs masks ≡ hash_blocks n h xs
unfolding hash_marked hash_blocks
hash-plain again zero h xs masks never = refl
hash-plain again (suc n) h xs masks never =
    let first : again h (take 64 xs) (get_or masks 0 all_bits) ≡ false = never 0 (omega arith) in
    rw first
    (hash-plain again n (compress_of h (take 64 xs)) (drop 64 xs) (drop 1 masks)
    (λ i l.
    let a : 64 + 64 * i ≡ 64 * suc i = omega arith in
    let b : 1 + i ≡ suc i = omega arith in
    rw (drop-drop (64 * i) 64 xs, a, get_or-drop 1 masks i all_bits, b) (rw first at (never (suc i) (omega arith)))))

-- two tests that agree
pub hash-same : (again marked : Regs → List ℕ → ℕ → Bool) → ((h : Regs) (block : List ℕ) (mask : ℕ) → again h block mask ≡ marked h block mask)
    → (n : ℕ) (h : Regs) (xs masks : List ℕ) → hash_marked again n h xs masks ≡ hash_marked marked n h xs masks
unfolding hash_marked
hash-same again marked same zero h xs masks = refl
hash-same again marked same (suc n) h xs masks = rw (same h (take 64 xs) (get_or masks 0 all_bits)) (hash-same again marked same n _ (drop 64 xs) (drop 1 masks))
