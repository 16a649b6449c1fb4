-- `block::first_forty` meets its contract: each call brings the compression on. That the array has eighty places is told by its first
-- loan as a slice. Assumes nothing.
use Rattle.std.proofs.Common.{arith}
use Rattle.block.specs.Schedule.{words_of}
use Rattle.block.proofs.Stages.{stage-start}
use Rattle.block.proofs.first_forty.Goals as goal

pub returns : goal.returns
returns c =
    let a = c.args in
    let m = words_of a.block.now in
    let g0 = stage-start m a.h a.w.now (omega arith) in
    let g16 = c.begin-s16.ensures a.h (c.begin-s8.ensures a.h g0) in
    c.extend.ensures m a.h (c.extend-s30.ensures m a.h (c.extend-s20.ensures m a.h g16))
