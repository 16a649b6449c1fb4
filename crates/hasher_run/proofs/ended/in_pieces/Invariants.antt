-- `hasher_run::ended::in_pieces` meets its contract. The loop's invariant: the pieces that are left give what the whole gives. Assumes nothing.
use Rattle.std.proofs.Common.{◌-◌, ◌≤◌, length}
use Rattle.loan.specs.Loan.{loan_in}
use Rattle.hasher_run.specs.Cut.{pieces_from}
use Rattle.hasher_run.proofs.PiecesLeft.{Left}
use Rattle.hasher_run.proofs.ended.in_pieces.Given as goal

abbrev pub invariant-loop-at : goal.invariant-loop-at
invariant-loop-at l = (l.at ≤ length l.m) × Left (pieces_from (length l.m) l.initial.g l.m (loan_in l.lent) l.initial.at l.initial.size l.initial.other) l.m (loan_in l.lent) l.g l.at l.size l.other

abbrev pub decreases-loop-at : goal.decreases-loop-at
decreases-loop-at l = length l.m - l.at
