use mathlib.Core.Path.{sym, ap, ◌∙◌}
use mathlib.Core.Bool.{◌&&◌, and-true}
use borrow.Author.Rules.{rules}
use lib.Dec.{eqb}
use Rattle.table.specs.Limits.{dm_words}
use Rattle.table.proofs.Rule.{obeys-turn, obeys-done}
use Rattle.table.proofs.obeys_rule.Goals as goal

pub loop-t-preserved : goal.loop-t-preserved
loop-t-preserved c =
    let dm = c.args.dm.now in
    (search rules, rw c.mix.ensures (obeys-turn dm c.loop-t.t dm_words c.loop-t.off (search rules)) ∙ c.loop-t.invariant.1)

pub returns : goal.returns
returns c = sym (and-true (eqb c.loop-t.off 0)) ∙ ap (◌&&◌ (eqb c.loop-t.off 0)) (sym (obeys-done c.args.dm.now c.loop-t.t dm_words (search rules))) ∙ c.loop-t.invariant.1
