use Rattle.std.proofs.Common.{length, refl, arith, rules}
use Rattle.hasher_run.proofs.PiecesLeft.{next-left, none_left}
use Rattle.hasher_run.proofs.ended.in_pieces.Goals as goal

pub loop-at-init : goal.loop-at-init
loop-at-init c = (search rules, record { pieces = length c.args.m.now; enough = omega arith; gives = refl })

pub loop-at-preserved : goal.loop-at-preserved
loop-at-preserved c =
    let l = c.loop-at in
    (search rules, rw (c.after_piece-g.ensures, c.lent_between.ensures) (next-left _ _ _ c.piece_end-to.result l.invariant.1 c.loop-at-test.true c.piece_end-to.ensures.value c.piece_end-to.ensures.lower_bound))

pub returns : goal.returns
returns c = none_left _ _ _ c.loop-at.invariant.1 (omega arith)
