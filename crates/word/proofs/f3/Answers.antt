-- `word::f3` meets its contract. Assumes nothing.
use Rattle.word.proofs.Rounds.{majority-by-or}
use Rattle.word.proofs.f3.Goals as goal

pub returns : goal.returns
returns c = majority-by-or c.args.b c.args.c c.args.d c.ranges.b.fits c.ranges.c.fits c.ranges.d.fits
