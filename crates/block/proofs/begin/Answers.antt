use mathlib.Core.Path.{◌≡◌, sym, ◌∙◌}
use borrow.Author.Rules.{rules}
use Rattle.word.proofs.Fill.{list_at}
use Rattle.block.proofs.Stages.{stage-load}
use Rattle.block.proofs.begin.Goals as goal

pub loop-t-init : goal.loop-t-init
loop-t-init c = (search rules, λ h g. g)

pub loop-t-preserved : goal.loop-t-preserved
loop-t-preserved c =
    let l = c.loop-t in
    let x = c.word_at-x.result in (
      search rules,
      λ h g.
          stage-load _ h l.t l.w l.s x c.step-s.result (l.invariant.1 h g) c.step-s.ensures (search rules)
          (c.word_at-x.ensures ∙ sym (list_at _ 16 l.t (search rules))),
    )

pub returns : goal.returns
returns c =
    let e : c.loop-t.t ≡ c.args.to = search rules in
    rw (← e) c.loop-t.invariant.1
