-- Lists of equal numbers, as the zeros behind some bytes are: their parts. Assumes nothing.
use mathlib.Core.Path.{◌≡◌, refl, ap}
use mathlib.Core.List.{List, ◌∷◌}
use Prim.Native.Nat.{ℕ, zero, suc, ◌-◌, ◌≤◌}
use native.Mathlib.Nat.{not-suc-le-zero, le_of_suc-le-suc}
use native.Mathlib.Omega.{arith}
use lib.ListN.{take, drop, replicate}

-- the first of equal numbers, and those after them
pub take-replicate : (n m a : ℕ) → n ≤ m → take n (replicate m a) ≡ replicate n a
take-replicate zero m a h = refl
take-replicate (suc n) zero a h = absurd (not-suc-le-zero h)
take-replicate (suc n) (suc m) a h = ap (λ (l : List ℕ). a ∷ l) (take-replicate n m a (le_of_suc-le-suc h))

pub drop-replicate : (n m a : ℕ) → drop n (replicate m a) ≡ replicate (m - n) a
drop-replicate zero m a = let e : m - zero ≡ m = omega arith in rw e
drop-replicate (suc n) zero a = let e : zero - suc n ≡ zero = omega arith in rw e
drop-replicate (suc n) (suc m) a = let e : suc m - suc n ≡ m - n = omega arith in rw e (drop-replicate n m a)
