-- How large the number of a refusal can be. Assumes nothing.
use Prim.Native.Nat.{◌≤◌, ◌<◌}
use native.Mathlib.Omega.{arith}
use lib.Dec.{lit≤}
use Rattle.std.specs.Prelude.{Err, Ok}
use Rattle.refusal.specs.Refusal.{number_of, Checked}
use Rattle.refusal.specs.declared.Refusal.TheVariants.{HasherForm, TableLength, MaskNumber, TestStep, DmRule, MaskCount, MessageLength, Size, SheetLength, NoLane, MaskRepeated, ConditionLength, Condition}

-- It is never 16, which is the program's own.
pub number-low : (r : Checked) → number_of r ≤ 15
number-low (Ok tt) = lit≤ tt
number-low (Err HasherForm) = lit≤ tt
number-low (Err TableLength) = lit≤ tt
number-low (Err (MaskNumber i)) = lit≤ tt
number-low (Err (TestStep i)) = lit≤ tt
number-low (Err (DmRule i)) = lit≤ tt
number-low (Err MaskCount) = lit≤ tt
number-low (Err MessageLength) = lit≤ tt
number-low (Err Size) = lit≤ tt
number-low (Err SheetLength) = lit≤ tt
number-low (Err NoLane) = lit≤ tt
number-low (Err (MaskRepeated i)) = lit≤ tt
number-low (Err ConditionLength) = lit≤ tt
number-low (Err (Condition i)) = lit≤ tt

-- So it is written with at most two digits.
pub number_small : (r : Checked) → number_of r < 100
number_small r = omega (arith, number-low r)
