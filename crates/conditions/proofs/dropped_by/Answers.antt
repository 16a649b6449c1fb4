-- `conditions::dropped_by` meets its contract. Assumes nothing.
use mathlib.Core.Path.{ap, ◌∙◌}
use lib.Bits.{bit_and}
use Rattle.conditions.proofs.Dropped.{drops}
use borrow.Author.Rules.{rules}
use Rattle.conditions.proofs.dropped_by.Goals as goal

pub returns : goal.returns
returns c =
    let a = c.args in
    ap (bit_and a.clearing) c.sub.ensures ∙ drops a.clearing (search rules) a.x a.y a.wanted (search rules)
