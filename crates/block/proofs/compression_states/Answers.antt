-- `block::compression_states` meets its contract. Assumes nothing.
use Rattle.block.specs.Schedule.{words_of}
use Rattle.block.specs.Compress.{states_of, over_schedule}
use Rattle.block.proofs.Stages.{stage-end}
use Rattle.block.proofs.compression_states.Goals as goal

pub returns : goal.returns
unfolding states_of over_schedule
returns c =
    let h = c.args.h in
    let m = words_of c.args.block.now in
    let g58 = c.extend-s58.ensures m h (c.extend-s50.ensures m h c.first_forty-s40.ensures) in
    let g65 = c.extend-s65.ensures m h (c.extend-s60.ensures m h g58) in
    let g80 = c.extend-s80.ensures m h (c.extend-s75.ensures m h g65) in
    (stage-end m h _ _ g80, rw (g58.regs, g65.regs, c.add_regs.ensures, g80.regs))
