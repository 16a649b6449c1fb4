-- The pieces that are left to take: from where a loop stands they give what the whole gives. Assumes nothing.
use mathlib.Core.Path.{◌≡◌, sym, subst}
use mathlib.Core.List.{List}
use Prim.Native.Nat.{ℕ, zero, suc, ◌-◌, ◌/◌, ◌≤◌, ◌<◌}
use native.Mathlib.Omega.{arith}
use borrow.Author.Tests.{lt-ltb, le-ltb}
use lib.ListN.{length, take, drop}
use Rattle.loan.specs.Loan.{Loan}
use Rattle.hasher.specs.declared.Hasher.{Hasher}
use Rattle.hasher_run.specs.Cut.{after_piece, piece_end, loan_between, pieces_from}

module _ (whole : Hasher) (m : List ℕ) (l : Loan) where
  -- some number of pieces that is enough, and what they give
  pub record Left (g : Hasher) (at size other : ℕ) : Type 0 where
    pub pieces : ℕ
    pub enough : length m - at ≤ pieces
    pub gives : pieces_from pieces g m l at size other ≡ whole

  -- one piece taken
  abbrev pub onto : Hasher → ℕ → ℕ → Hasher
  onto g at to = after_piece g (take (to - at) (drop at m)) (loan_between l (at / 64) (to / 64))

  -- the same with the number of pieces given: there is one, as a byte is left
  next-from : (k : ℕ) (g : Hasher) (at size other to : ℕ) → length m - at ≤ k → pieces_from k g m l at size other ≡ whole
      → at < length m → to ≡ piece_end at (length m) size → at < to → Left (onto g at to) to other size
  unfolding pieces_from
  next-from zero g at size other to enough gives inside is on = absurd (omega arith)
  next-from (suc k) g at size other to enough gives inside is on =
      subst (λ (t : ℕ). at < t → Left (onto g at t) t other size) (sym is)
      (λ on. record { pieces = k; enough = omega arith; gives = rw (lt-ltb at (length m) inside) at gives })
      on

  -- a piece more is taken, and one less is left
  pub next-left : {g : Hasher} {at size other : ℕ} (to : ℕ) → Left g at size other
      → at < length m → to ≡ piece_end at (length m) size → at < to → Left (onto g at to) to other size
  next-left to s = next-from s.pieces _ _ _ _ to s.enough s.gives

  -- whatever the number
  all_from : (k : ℕ) (g : Hasher) (at size other : ℕ) → pieces_from k g m l at size other ≡ whole → length m ≤ at → g ≡ whole
  unfolding pieces_from
  all_from zero g at size other gives past = gives
  all_from (suc k) g at size other gives past = rw (le-ltb at (length m) past) at gives

  -- past the end nothing is left
  pub none_left : {g : Hasher} {at size other : ℕ} → Left g at size other → length m ≤ at → g ≡ whole
  none_left s = all_from s.pieces _ _ _ _ s.gives
