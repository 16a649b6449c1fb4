-- `absorb::advance` meets its contract.
use Rattle.std.proofs.Common.{length, drop, ◌*◌, ◌/◌}
use Rattle.octets.proofs.Stored.{tail-is}
use Rattle.absorb.specs.Absorb.{advanced}
use Rattle.absorb.proofs.Moves.{rest-stored}
use Rattle.absorb.proofs.advance.Goals as goal

pub returns : goal.returns
unfolding advanced
returns c =
    let s = c.args.s.now in
    let at = 64 * (length s / 64) in
    rw (c.at.ensures, c.fold_blocks-e.ensures, c.store.ensures, tail-is s at, rest-stored (drop at s))
