-- `hasher::all_zero` meets its contract. The invariant: nothing was seen so far and what is left to look at is all zero, just where the whole is.
use Rattle.std.proofs.Common.{◌≡◌, ◌&&◌, drop, eqb}
use Rattle.hasher.specs.Hasher.{all_zero}
use Rattle.hasher.proofs.all_zero.Given as goal

abbrev pub invariant-loop-byte : goal.invariant-loop-byte
invariant-loop-byte l = (eqb l.seen 0 && all_zero (drop l.byte-index l.bytes)) ≡ all_zero l.bytes
