-- The padding is the standard's, and makes as many blocks as masks are asked for. Assumes nothing.
use mathlib.Core.Path.{◌≡◌}
use mathlib.Core.List.{List}
use Prim.Native.Nat.{ℕ, ◌+◌, ◌%◌, ◌≤◌}
use native.Mathlib.Omega.{arith}
use lib.ListN.{length}
use Rattle.fips.specs.Fips.{zeros_for, padded}
use Rattle.fips.proofs.Padded.{padded-blocks}
use Rattle.one_shot.specs.Whole.{blocks_of}
use Rattle.claims.specs.Marked.{blocks_in}

-- After the byte 80 and the zeros, 8 bytes are left to a whole block.
pub zeros-right : (n : ℕ) → (n + 1 + zeros_for n) % 64 ≡ 56
zeros-right n = omega arith

-- No smaller number of zeros does so.
pub zeros-least : (n k : ℕ) → (n + 1 + k) % 64 ≡ 56 → zeros_for n ≤ k
zeros-least n k h = omega arith

-- The padded message is whole blocks.
pub padded-whole : (msg : List ℕ) → length (padded msg) % 64 ≡ 0
padded-whole msg = let e = padded-blocks msg in omega arith

-- They are the message's own and the one or two that a finish makes.
pub blocks-counted : (msg : List ℕ) → blocks_in msg ≡ blocks_of (length msg)
blocks-counted msg = let e = padded-blocks msg in omega arith
