-- `fips::tail` meets its contract. Assumes nothing.
use mathlib.Core.Path.{◌≡◌, sym, ap, ◌∙◌}
use mathlib.Core.List.{List}
use Prim.Native.Nat.{ℕ, ◌+◌, ◌-◌, ◌*◌}
use native.Mathlib.Omega.{arith}
use lib.ListN.{length, take, replicate}
use lib.Seq.{paste}
use Rattle.octets.specs.Octets.{bytes64}
use Rattle.fips.specs.Tail.{padding_bytes, tail_blocks, tail_of}
use Rattle.fips.proofs.Tails.{tail-room, tail-stored, bytes64-length}
use borrow.Author.Rules.{rules}
use Rattle.fips.proofs.tail.Goals as goal

pub returns : goal.returns
unfolding tail_of
returns c =
    let a = c.args in
    let t = c.tail_blocks.ensures in
    let r = tail-room a.fill c.requires.0 in
    let end = 64 * tail_blocks a.fill - 8 in
    let lp : length a.pending ≡ 64 = search rules in
    let w : end + 8 ≡ 64 * tail_blocks a.fill = omega arith in
    let g : c.store-3.new.out
    ≡ paste (paste (paste (replicate 128 0) 0 a.pending a.fill) a.fill padding_bytes (end - a.fill)) end (bytes64 (8 * a.bytes)) 8 =
    rw (c.store-3.ensures, c.store-2.ensures, c.store.ensures, c.bytes_64.ensures, t)
    in
    ap (λ (k : ℕ). take k c.store-3.new.out) (sym w)
    ∙ ap (λ (l : List ℕ). take (end + 8) l) g
    ∙ tail-stored (replicate 128 0) a.pending padding_bytes (bytes64 (8 * a.bytes)) a.fill end (omega arith) (omega arith) (omega arith) (omega arith) (bytes64-length _)
