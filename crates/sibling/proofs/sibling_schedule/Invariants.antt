-- `sibling::sibling_schedule` meets its contract. Assumes nothing.
use Prim.Native.Nat.{◌-◌}
use lib.Bits.{bit_xor}
use lib.ListN.{get_or}
use Rattle.word.proofs.Fill.{Filled}
use Rattle.sibling.proofs.sibling_schedule.Given as goal

abbrev pub invariant-loop-t : goal.invariant-loop-t
invariant-loop-t l = Filled (λ i. bit_xor (get_or l.w i 0) (get_or l.dm i 0)) 80 l.v l.t

abbrev pub decreases-loop-t : goal.decreases-loop-t
decreases-loop-t l = 80 - l.t
