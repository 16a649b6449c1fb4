-- `word::rotate_left` meets its contract. Assumes nothing.
use Rattle.std.proofs.Common.{refl}
use Rattle.word.specs.Word.{rotl}
use Rattle.word.proofs.rotate_left.Goals as goal

pub returns : goal.returns
unfolding rotl
returns c = refl
