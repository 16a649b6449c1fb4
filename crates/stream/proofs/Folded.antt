-- Laws of the fold over all whole blocks of a stream. Assumes nothing.
use mathlib.Core.Path.{◌≡◌, refl, ◌∙◌}
use mathlib.Core.Bool.{Bool, true, false}
use mathlib.Core.List.{List, [], ◌++◌}
use Prim.Native.Nat.{ℕ, zero, suc, ◌+◌, ◌*◌, ◌/◌, ◌≤◌, ◌<◌}
use native.Mathlib.Omega.{arith}
use lib.ListN.{length, get_or, take, drop, length-append, length-drop, drop_of_length-le}
use lib.Seq.{drop-append-le, drop-nil}
use Rattle.word.specs.Choice.{pick}
use Rattle.detect.specs.declared.Mode.{Mode}
use Rattle.flags.specs.Flags.{uses_masks}
use Rattle.flags.specs.declared.Flags.{Flags}
use Rattle.loan.specs.Loan.{Loan, VectorsPass, looked_at, conditions_for, later}
use Rattle.stream.specs.Fold.{all_bits, mode_of, checked_of, plain_of, block_of, chained, folded}
use Rattle.stream.specs.declared.Chain.{Chain}
use Rattle.stream.proofs.Folds.{chained-zero, chained-add, chained-front, chained_keeps}
use Rattle.stream.proofs.MarkRight.{MarkRight, mark-right}

-- the masks that are looked at after the first n
drop-picked : (on : Bool) (ms : List ℕ) (n : ℕ) → drop n (pick on ms []) ≡ pick on (drop n ms) []
drop-picked true ms n = refl
drop-picked false ms n = drop-nil n

pub looked-later : (f : Flags) (ms : List ℕ) (n : ℕ) → drop n (looked_at f ms) ≡ looked_at f (drop n ms)
looked-later f ms n = drop-picked (uses_masks f) ms n

-- a block counts as one, by any step that counts it so
chained-blocks : (step : Chain → List ℕ → ℕ → Chain) → ((c : Chain) (xs : List ℕ) (mask : ℕ) → (step c xs mask).blocks ≡ c.blocks + 1)
    → (n : ℕ) (c : Chain) (xs ms : List ℕ) → (chained step n c xs ms).blocks ≡ c.blocks + n
unfolding chained
chained-blocks step one zero c xs ms = omega arith
chained-blocks step one (suc n) c xs ms =
    chained-blocks step one n (step c (take 64 xs) (get_or ms 0 all_bits)) (drop 64 xs) (drop 1 ms) ∙ rw (one c (take 64 xs) (get_or ms 0 all_bits)) (omega arith)

block-counts : (on : Bool) (mode : Mode) (table conditions : List ℕ) (c : Chain) (block : List ℕ) (mask : ℕ)
    → (pick on (checked_of mode table conditions) plain_of c block mask).blocks ≡ c.blocks + 1
unfolding checked_of plain_of
block-counts true mode table conditions c block mask = refl
block-counts false mode table conditions c block mask = refl

module _ (f : Flags) (l : Loan) (c : Chain) where
  -- a chain whose mark fits where it was made stays so, if for a block at least the vectors that are looked at are good
  pub folded-mark : (xs : List ℕ) → (1 ≤ length xs / 64 → VectorsPass f l.tables.vectors) → MarkRight f.detect c → MarkRight f.detect (folded f l c xs)
  unfolding folded chained
  folded-mark xs = by (length xs / 64)
    where
      by : (n : ℕ) → (1 ≤ n → VectorsPass f l.tables.vectors) → MarkRight f.detect c
          → MarkRight f.detect (chained (block_of f l.tables) n c xs (looked_at f l.masks))
      by zero good = λ right. right
      by (suc n) good =
          chained_keeps (block_of f l.tables) (MarkRight f.detect)
          (mark-right f.detect (mode_of f) l.tables.vectors (conditions_for f l.tables.conditions) (λ d. (good (omega arith) d).most))
          (suc n) c xs (looked_at f l.masks)

  pub folded-blocks : (xs : List ℕ) → (folded f l c xs).blocks ≡ c.blocks + length xs / 64
  unfolding folded
  folded-blocks xs =
      chained-blocks (block_of f l.tables) (block-counts f.detect (mode_of f) l.tables.vectors (conditions_for f l.tables.conditions)) (length xs / 64) c xs (looked_at f l.masks)

  pub folded-is : (xs : List ℕ) → folded f l c xs ≡ chained (block_of f l.tables) (length xs / 64) c xs (looked_at f l.masks)
  unfolding folded
  folded-is xs = refl

  -- less than a block
  pub folded-none : (xs : List ℕ) → length xs < 64 → folded f l c xs ≡ c
  folded-none xs h =
      let n : length xs / 64 ≡ 0 = omega arith in
      rw (folded-is xs, n, chained-zero)

  -- a stream, and what its rest makes with the next one
  pub folded-cut : (xs ys : List ℕ)
      → folded f l c (xs ++ ys) ≡ folded f (later (length xs / 64) l) (folded f l c xs) (drop (64 * (length xs / 64)) xs ++ ys)
  unfolding folded
  folded-cut xs ys =
      let n = length xs / 64 in
      let ms = looked_at f l.masks in
      let step = block_of f l.tables in
      let rest = drop (64 * n) xs ++ ys in
      let g : 64 * n ≤ length xs = omega arith in
      let e : length (xs ++ ys) / 64 ≡ n + length rest / 64 = omega (arith, length-append xs ys, length-append (drop (64 * n) xs) ys, length-drop (64 * n) xs) in
      rw (e, chained-add step n (length rest / 64) c (xs ++ ys) ms, chained-front step n c xs ys ms g, drop-append-le (64 * n) xs ys g, looked-later f l.masks n)

  -- whole blocks, and what follows them
  pub folded-join : (n : ℕ) (xs ys : List ℕ) → length xs ≡ 64 * n → folded f l c (xs ++ ys) ≡ folded f (later n l) (folded f l c xs) ys
  folded-join n xs ys h =
      let e : length xs / 64 ≡ n = omega arith in
      let d : length xs ≤ 64 * n = omega arith in
      rw (folded-cut xs ys, e, drop_of_length-le xs d)
