-- `block::compression_w` meets its contract. Assumes nothing.
use Rattle.step.proofs.Runs.{steps-add}
use Rattle.block.specs.Compress.{over_schedule}
use Rattle.block.proofs.compression_w.Goals as goal

pub returns : goal.returns
unfolding over_schedule
returns c =
    let h = c.args.h in
    let w = c.args.w.now in
    rw (c.add_regs.ensures, c.steps.ensures, c.steps-s60.ensures, c.steps-s40.ensures, c.steps-s20.ensures)
    (rw (steps-add w 60 20 0 h, steps-add w 40 20 0 h, steps-add w 20 20 0 h))
