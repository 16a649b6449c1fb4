use Rattle.std.proofs.Common.{◌&&◌, sym, ap, ◌∙◌, eqb, rules}
use mathlib.Core.Bool.{and-true}
use Rattle.hasher.proofs.Zeros.{zero_end}
use Rattle.hasher.proofs.all_zero.Goals as goal

pub returns : goal.returns
returns c =
    sym (and-true (eqb c.loop-byte.seen 0))
    ∙ ap (◌&&◌ (eqb c.loop-byte.seen 0)) (sym (zero_end c.args.bytes.now c.loop-byte.byte-index (search rules)))
    ∙ c.loop-byte.invariant
