-- Which vectors survive, for any conditions and any width of a mask: from all ones, each condition that does not hold drops the
-- vectors of its clearing mask.
use Rattle.std.specs.Prelude.{◌≡◌, Bool, true, ℕ, zero, suc, ◌-◌, ◌^◌, ◌<◌}
use Rattle.std.specs.Int.Bits.{bit_or}
use Rattle.word.specs.Choice.{pick}
use Rattle.table.specs.Bits.{bit_at}

module _ (holds : ℕ → Bool) (clears : ℕ → ℕ) where
  -- the vectors that condition k drops
  abbrev pub dropped_by : ℕ → ℕ
  dropped_by k = pick (holds k) 0 (clears k)

  -- the vectors that one or more of the first n conditions drop
  unfoldable pub dropped_below : ℕ → ℕ
  dropped_below zero = 0
  dropped_below (suc n) = bit_or (dropped_below n) (dropped_by n)

  -- all ones without these: the subtraction takes bits away because every dropped bit lies below the width (Within)
  abbrev pub survivors : ℕ → ℕ → ℕ
  survivors width n = 2 ^ width - 1 - dropped_below n

  -- every one of the first n conditions that names bit b holds
  abbrev pub AllHold : ℕ → ℕ → Type 0
  AllHold b n = (k : ℕ) → k < n → bit_at (clears k) b ≡ 1 → holds k ≡ true

  -- the clearing masks of the first n conditions have no more bits than the width
  abbrev pub Within : ℕ → ℕ → Type 0
  Within width n = (k : ℕ) → k < n → clears k < 2 ^ width

-- each of the first n conditions of the one table is among the first m of the other
abbrev pub EachStands : (ℕ → Bool) → (ℕ → ℕ) → ℕ → (ℕ → Bool) → (ℕ → ℕ) → ℕ → Type 0
EachStands holds clears n holds' clears' m =
    (k : ℕ) → k < n → (j : ℕ) × (j < m) × (holds' j ≡ holds k) × (clears' j ≡ clears k)
