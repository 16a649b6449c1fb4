use mathlib.Core.Path.{◌≡◌, ap, ◌∙◌}
use Prim.Native.Nat.{◌/◌}
use native.Mathlib.Omega.{arith}
use lib.ListN.{length, take}
use lib.Seq.{take_all}
use Rattle.std.specs.List.{fold}
use Rattle.block.specs.Compress.{compress_of}
use Rattle.fips.proofs.Blocks.{fold_chunks}
use Rattle.fips.proofs.hash_blocks.Goals as goal

pub returns : goal.returns
returns c =
    let m = c.args.m.now in
    let blocks = c.as_chunks.result.0.now in
    let all : take c.loop-block.block-index blocks ≡ blocks = take_all c.loop-block.block-index blocks (omega arith) in
    c.loop-block.invariant ∙ ap (fold compress_of c.args.h) (all ∙ c.as_chunks.ensures.front) ∙ fold_chunks (length m / 64) c.args.h m
