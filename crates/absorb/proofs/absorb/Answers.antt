-- `absorb::absorb` meets its contract.
use Rattle.std.proofs.Common.{◌≡◌, sym, length, drop, ◌+◌, ◌-◌, ◌*◌, ◌/◌, ◌≤◌, arith, rules}
use Rattle.loan.specs.Loan.{loan_in}
use Rattle.stream.proofs.Folded.{folded-blocks}
use Rattle.hasher.specs.Hasher.{chain_of}
use Rattle.absorb.specs.Absorb.{absorbed, stream_of}
use Rattle.absorb.proofs.Moves.{advanced-none, advanced-join, stream-long, pend-more, filled, pend-block, pend-full}
use Rattle.absorb.proofs.absorb.Goals as goal

pub returns-then-bytes-fill : goal.returns-then-bytes-fill
unfolding absorbed
returns-then-bytes-fill c =
    let h = c.args.h in
    let d = c.args.bytes.now in
    let l : length h.pending ≡ 64 = search rules in
    let e = stream-long h.pending d h.fill l c.requires.fill-le in
    rw (
      c.at.ensures,
      c.store.ensures,
      c.chain.ensures,
      advanced-none h.flags (loan_in c.args.lent) (chain_of h) (stream_of h d) (omega arith),
      pend-more h.pending d h.fill l c.requires.fill-le c.requires.zeros (omega arith),
      e,
    )

pub returns-then-fill-eq0 : goal.returns-then-fill-eq0
unfolding absorbed
returns-then-fill-eq0 c = rw (c.advance.ensures, c.chain-c.ensures, c.if-fill-eq0.true)

pub advance-requires-2-clause-s_bound : goal.advance-requires-2-clause-s_bound
advance-requires-2-clause-s_bound c =
    let h = c.args.h in
    let d = c.args.bytes.now in
    let l : length h.pending ≡ 64 = search rules in
    let b = pend-block h.pending d h.fill l c.requires.fill-le (omega arith) in
    let e : c.fold_blocks-filled.result.blocks ≡ h.blocks + 64 / 64 =
    rw (c.fold_blocks-filled.ensures, c.chain-c.ensures, c.store-2.ensures, c.split_at.ensures.front, folded-blocks, b)
    in
    omega (arith, c.requires.fits, e, c.split_at.ensures.back_len)

pub returns : goal.returns
unfolding absorbed
returns c =
    let h = c.args.h in
    let d = c.args.bytes.now in
    let l : length h.pending ≡ 64 = search rules in
    let g : 64 ≤ h.fill + length d = omega arith in
    let b : length (filled h.pending d h.fill l c.requires.fill-le) ≡ 64 * 1 = pend-block h.pending d h.fill l c.requires.fill-le g in
    rw (
      c.advance-2.ensures,
      c.later.ensures,
      c.fold_blocks-filled.ensures,
      c.chain-c.ensures,
      c.store-2.ensures,
      c.split_at.ensures.front,
      c.split_at.ensures.back,
      pend-full h.pending d h.fill l c.requires.fill-le g,
    )
    (sym (advanced-join h.flags (loan_in c.args.lent) (chain_of h) 1 _ (drop (64 - h.fill) d) b))
