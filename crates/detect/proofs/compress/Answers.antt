-- `detect::compress` meets its contract. Assumes nothing.
use Rattle.block.specs.Compress.{states_of}
use Rattle.detect.specs.Detect.{selection_of, answer_of}
use Rattle.detect.proofs.compress.Goals as goal

pub returns : goal.returns
unfolding answer_of selection_of states_of
returns c =
    let e = c.compression_states-states.ensures in
    rw (c.mitigated.ensures, c.is_some.ensures, c.found_among-found.ensures, c.surviving.ensures, e.0, e.1)
