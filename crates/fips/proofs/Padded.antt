-- The last blocks are the standard's padding: FIPS 180-4, section 5.1.1. Assumes nothing.
use mathlib.Core.Path.{◌≡◌, refl, ap, ◌∙◌}
use mathlib.Core.List.{List, ◌∷◌, ◌++◌, append_assoc}
use Prim.Native.Nat.{ℕ, suc, ◌+◌, ◌-◌, ◌*◌, ◌/◌, ◌%◌, ◌≤◌}
use native.Mathlib.Omega.{arith}
use lib.ListN.{length, take, replicate, length-append, length-replicate}
use Rattle.octets.specs.Octets.{bytes64}
use Rattle.octets.proofs.Zeros.{take-replicate}
use Rattle.fips.specs.Fips.{zeros_for, padding_for, padded}
use Rattle.fips.specs.Tail.{padding_bytes, tail_blocks, pad_len, tail_of}
use Rattle.fips.proofs.Tails.{tail-room, bytes64-length}

-- the padding of n bytes, by the f bytes after the last whole block
record Pad (n f blocks : ℕ) : Type 0 where
  len : 64 * blocks - 8 - f ≡ suc (zeros_for n)
  few : zeros_for n ≤ 63
  whole : f + (1 + zeros_for n + 8) ≡ 64 * blocks

pad-of : (n f : ℕ) → f ≡ n % 64 → Pad n f (tail_blocks f)
pad-of n f h = let r = tail-room f (omega arith) in record { len = omega arith; few = omega arith; whole = omega arith }

-- the last blocks are the pending bytes and the standard's padding
pub tail-is : (p : List ℕ) (f n : ℕ) → f ≡ n % 64 → tail_of p f n ≡ take f p ++ padding_for n
unfolding tail_of
tail-is p f n h =
    let k = pad-of n f h in
    let z : take (pad_len f) padding_bytes ≡ 0x80 ∷ replicate (zeros_for n) 0 =
    ap (λ (i : ℕ). take i padding_bytes) k.len ∙ ap (λ (l : List ℕ). 0x80 ∷ l) (take-replicate (zeros_for n) 63 0 k.few)
    in
    rw z (append_assoc (take f p) (0x80 ∷ replicate (zeros_for n) 0) (bytes64 (8 * n)))

-- the blocks of the padded message: the message's own, and the last ones
pub padded-blocks : (msg : List ℕ) → length (padded msg) ≡ 64 * (length msg / 64 + tail_blocks (length msg % 64))
padded-blocks msg =
    let n = length msg in
    let k = pad-of n (n % 64) refl in
    let e = bytes64-length (8 * n) in
    simp (length-append, length-replicate) (omega arith)
