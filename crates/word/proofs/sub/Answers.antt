-- `word::sub` meets its contract. Assumes nothing.
use Rattle.std.proofs.Common.{rules}
use Rattle.word.proofs.Sums.{sub_of}
use Rattle.word.proofs.sub.Goals as goal

pub returns : goal.returns
returns c = sub_of c.wrapping_sub_u32.result c.args.x c.args.y (search rules) (search rules) c.wrapping_sub_u32.ensures.value
