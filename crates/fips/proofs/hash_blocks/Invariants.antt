-- `fips::hash_blocks` meets its contract. The invariant: the words are those after the blocks so far. Assumes nothing.
use Rattle.std.proofs.Common.{◌≡◌, take}
use Rattle.std.specs.List.{fold}
use Rattle.block.specs.Compress.{compress_of}
use Rattle.fips.proofs.hash_blocks.Given as goal

abbrev pub invariant-loop-block : goal.invariant-loop-block
invariant-loop-block l = l.words ≡ fold compress_of l.initial.words (take l.block-index l.blocks)
