-- `word::f1` meets its contract. Assumes nothing.
use Rattle.word.proofs.Rounds.{choose}
use Rattle.word.proofs.f1.Goals as goal

pub returns : goal.returns
returns c = choose c.args.b c.args.c c.args.d c.ranges.b.fits c.ranges.c.fits c.ranges.d.fits
