-- The turns of the search's loop up to place n, and a bit past a mask's last. Assumes nothing.
use mathlib.Core.Path.{◌≡◌, ap}
use mathlib.Core.Bool.{Bool, true, false}
use Prim.Native.Nat.{ℕ, suc, ◌+◌, ◌-◌, ◌%◌, ◌^◌, ◌≤◌, ◌<◌}
use native.Mathlib.Nat.{div-eq_of_lt, lt_of_lt_of_le}
use native.Mathlib.Numerals.{add-one}
use native.Mathlib.Omega.{arith}
use lib.Dec.{eqb}
use lib.Pow.{pow_mono}
use Rattle.std.specs.Prelude.{None, Some}
use Rattle.table.specs.Bits.{has_bit}
use Rattle.search.specs.Search.{search_from}

module _ (selected marks : ℕ → Bool) (i n k : ℕ) where
  pub turn-skip : i < n → selected i ≡ false
      → search_from selected marks i (n - i) k ≡ search_from selected marks (i + 1) (n - (i + 1)) k
  unfolding search_from
  turn-skip h s =
      let e : n - i ≡ suc (n - (i + 1)) = omega arith in
      rw (e, add-one i, s)

  pub turn-try : i < n → selected i ≡ true → marks i ≡ false
      → search_from selected marks i (n - i) k ≡ search_from selected marks (i + 1) (n - (i + 1)) (k + 1)
  unfolding search_from
  turn-try h s m =
      let e : n - i ≡ suc (n - (i + 1)) = omega arith in
      rw (e, add-one i, add-one k, s, m)

  pub turn-hit : i < n → selected i ≡ true → marks i ≡ true
      → search_from selected marks i (n - i) k ≡ record { by = Some i; tried = k + 1 }
  unfolding search_from
  turn-hit h s m =
      let e : n - i ≡ suc (n - (i + 1)) = omega arith in
      rw (e, add-one k, s, m)

  pub turn-done : n ≤ i → search_from selected marks i (n - i) k ≡ record { by = None; tried = k }
  unfolding search_from
  turn-done h =
      let e : n - i ≡ 0 = omega arith in
      rw e

pub past_the_end : (mask k : ℕ) → mask < 2 ^ 32 → 32 ≤ k → has_bit mask k ≡ false
past_the_end mask k h l = ap (λ (q : ℕ). eqb (q % 2) 1) (div-eq_of_lt (lt_of_lt_of_le h (pow_mono l)))
