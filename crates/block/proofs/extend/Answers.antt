use mathlib.Core.Path.{◌≡◌}
use borrow.Author.Rules.{rules}
use Rattle.block.proofs.Stages.{stage-rule}
use Rattle.block.proofs.extend.Goals as goal

pub loop-t-init : goal.loop-t-init
loop-t-init c = (search rules, search rules, λ m h g. g)

pub loop-t-preserved : goal.loop-t-preserved
loop-t-preserved c =
    let l = c.loop-t in (
      search rules,
      search rules,
      λ m h g.
          stage-rule m h l.t l.w l.s c.mix-x.result c.step-s.result (l.invariant.2 m h g) c.step-s.ensures
          (search rules) (search rules) c.mix-x.ensures,
    )

pub returns : goal.returns
returns c =
    let e : c.loop-t.t ≡ c.args.to = search rules in
    rw (← e) c.loop-t.invariant.2
