-- `block::compression_plain` meets its contract: each call brings the compression on. Assumes nothing.
use mathlib.Core.Path.{refl}
use lib.ListN.{replicate}
use Rattle.block.specs.Schedule.{words_of}
use Rattle.block.specs.Compress.{compress_of, over_schedule}
use Rattle.block.proofs.Stages.{stage-start}
use Rattle.block.proofs.compression_plain.Goals as goal

pub returns : goal.returns
unfolding compress_of over_schedule
returns c =
    let a = c.args in
    let h = a.h in
    let m = words_of a.block.now in
    let g16 = c.begin-s16.ensures h (c.begin-s8.ensures h (stage-start m h (replicate 80 0) refl)) in
    let g40 = c.extend-s40.ensures m h (c.extend-s30.ensures m h (c.extend-s20.ensures m h g16)) in
    let g60 = c.extend-s60.ensures m h (c.extend-s50.ensures m h g40) in
    let g80 = c.extend-s80.ensures m h (c.extend-s70.ensures m h g60) in
    rw (c.add_regs.ensures, g80.regs)
