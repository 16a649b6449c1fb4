-- Laws of the fold over blocks, for any block step. Assumes nothing.
use mathlib.Core.Path.{◌≡◌, refl}
use mathlib.Core.List.{List, [], ◌∷◌, ◌++◌}
use Prim.Native.Nat.{ℕ, zero, suc, ◌+◌, ◌-◌, ◌*◌, ◌/◌, ◌≤◌, ◌<◌}
use native.Mathlib.Nat.{not-suc-le-zero, le_of_suc-le-suc}
use native.Mathlib.Omega.{arith}
use lib.ListN.{length, get_or, take, drop, length-drop, get_or-append}
use lib.Seq.{drop-drop, get_or-drop, take-append-le, drop-append-le}
use Rattle.std.specs.Simd.{first_chunks}
use Rattle.table.proofs.Chunks.{chunk_is}
use Rattle.detect.specs.declared.Mode.{Mode}
use Rattle.stream.specs.Fold.{all_bits, checked_of, chained}
use Rattle.stream.specs.declared.Chain.{Chain}

-- below the length the default does not matter
pub get_d_any : (xs : List ℕ) (i d e : ℕ) → i < length xs → get_or xs i d ≡ get_or xs i e
get_d_any [] i d e h = absurd (not-suc-le-zero h)
get_d_any (x ∷ xs) zero d e h = refl
get_d_any (x ∷ xs) (suc i) d e h = get_d_any xs i d e (le_of_suc-le-suc h)

-- a block counts as one
pub checked-blocks : (mode : Mode) (table conditions : List ℕ) (c : Chain) (block : List ℕ) (mask : ℕ)
    → (checked_of mode table conditions c block mask).blocks ≡ c.blocks + 1
unfolding checked_of
checked-blocks mode table conditions c block mask = refl

module _ (step : Chain → List ℕ → ℕ → Chain) where
  -- no block, and one block more
  pub chained-zero : (c : Chain) (xs ms : List ℕ) → chained step zero c xs ms ≡ c
  unfolding chained
  chained-zero c xs ms = refl

  pub chained-suc : (n : ℕ) (c : Chain) (xs ms : List ℕ)
      → chained step (suc n) c xs ms ≡ chained step n (step c (take 64 xs) (get_or ms 0 all_bits)) (drop 64 xs) (drop 1 ms)
  unfolding chained
  chained-suc n c xs ms = refl

  -- a turn of a loop over the blocks, cut out beforehand
  pub chained_more : (c : Chain) (xs ms : List ℕ) (blocks : List (List ℕ)) (i : ℕ) → blocks ≡ first_chunks 64 (length xs / 64) xs → i < length xs / 64
      → chained step (length xs / 64 - i) c (drop (64 * i) xs) (drop i ms)
      ≡ chained step (length xs / 64 - (i + 1)) (step c (get_or blocks i []) (get_or ms i all_bits)) (drop (64 * (i + 1)) xs) (drop (i + 1) ms)
  chained_more c xs ms blocks i f h =
      let e : length xs / 64 - i ≡ suc (length xs / 64 - (i + 1)) = omega arith in
      let a : 64 * i + 64 ≡ 64 * (i + 1) = omega arith in
      let z : i + 0 ≡ i = omega arith in
      rw (e, chained-suc, drop-drop 64 (64 * i) xs, drop-drop 1 i ms, get_or-drop i ms 0 all_bits, a, z, f, chunk_is 64 (length xs / 64) i xs [] h)

  -- the end of the loop
  pub chained-done : (c : Chain) (xs ms : List ℕ) (i n : ℕ) → n ≤ i → chained step (n - i) c xs ms ≡ c
  chained-done c xs ms i n h =
      let e : n - i ≡ 0 = omega arith in
      rw (e, chained-zero)

  -- n blocks, and then m more
  pub chained-add : (n m : ℕ) (c : Chain) (xs ms : List ℕ)
      → chained step (n + m) c xs ms ≡ chained step m (chained step n c xs ms) (drop (64 * n) xs) (drop n ms)
  chained-add zero m c xs ms = let e : zero + m ≡ m = omega arith in rw (e, chained-zero)
  chained-add (suc n) m c xs ms =
      let e : suc n + m ≡ suc (n + m) = omega arith in
      let a : 64 + 64 * n ≡ 64 * suc n = omega arith in
      let b : 1 + n ≡ suc n = omega arith in
      rw (e, chained-suc (n + m), chained-add n m, drop-drop (64 * n) 64 xs, drop-drop n 1 ms, a, b, chained-suc n)

  -- what comes after the blocks is not looked at
  pub chained-front : (n : ℕ) (c : Chain) (xs ys ms : List ℕ) → 64 * n ≤ length xs → chained step n c (xs ++ ys) ms ≡ chained step n c xs ms
  chained-front zero c xs ys ms h = rw (chained-zero c (xs ++ ys) ms, chained-zero c xs ms)
  chained-front (suc n) c xs ys ms h =
      let l : 64 ≤ length xs = omega arith in
      let d : 64 * n ≤ length (drop 64 xs) = omega (arith, length-drop 64 xs) in
      rw (chained-suc n c (xs ++ ys) ms, chained-suc n c xs ms, take-append-le 64 xs ys l, drop-append-le 64 xs ys l)
      (chained-front n _ (drop 64 xs) ys (drop 1 ms) d)

  -- nor are the masks after theirs
  pub chained-masks : (n : ℕ) (c : Chain) (xs ms ns : List ℕ) → n ≤ length ms → chained step n c xs (ms ++ ns) ≡ chained step n c xs ms
  chained-masks zero c xs ms ns h = rw (chained-zero c xs (ms ++ ns), chained-zero c xs ms)
  chained-masks (suc n) c xs ms ns h =
      let l : 1 ≤ length ms = omega arith in
      let d : n ≤ length (drop 1 ms) = omega (arith, length-drop 1 ms) in
      rw (chained-suc n c xs (ms ++ ns), chained-suc n c xs ms, get_or-append ms ns all_bits 0 l, drop-append-le 1 ms ns l)
      (chained-masks n _ (drop 64 xs) (drop 1 ms) ns d)

  -- what one block keeps, all keep
  pub chained_keeps : (P : Chain → Type 0) → ((c : Chain) (block : List ℕ) (mask : ℕ) → P c → P (step c block mask))
      → (n : ℕ) (c : Chain) (xs ms : List ℕ) → P c → P (chained step n c xs ms)
  unfolding chained
  chained_keeps P one zero c xs ms p = p
  chained_keeps P one (suc n) c xs ms p = chained_keeps P one n _ (drop 64 xs) (drop 1 ms) (one c (take 64 xs) (get_or ms 0 all_bits) p)
