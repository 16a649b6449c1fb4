-- A schedule word by word: how long it is, what stands at a place, and that the rule looks only at earlier words. Assumes nothing.
use mathlib.Core.Path.{◌≡◌, refl, sym, ap, ◌∙◌}
use mathlib.Core.List.{List, [], ◌∷◌, ◌++◌}
use Prim.Native.Nat.{ℕ, zero, suc, ◌-◌, ◌≤◌, ◌<◌}
use native.Mathlib.Omega.{arith}
use borrow.Author.Tests.{lt-ltb, le-ltb}
use lib.Dec.{ltb}
use lib.ListN.{length, get_or}
use Rattle.word.specs.Choice.{pick}
use Rattle.word.specs.Rule.{rule_at}
use Rattle.word.specs.Lists.{list_of}
use Rattle.block.specs.Schedule.{scheduled}
use Rattle.word.proofs.Fill.{list_length, list_at}

-- the rule looks only at the words before place t
pub rule-agree : (v w : List ℕ) (t : ℕ) → 16 ≤ t → ((i : ℕ) → i < t → get_or v i 0 ≡ get_or w i 0) → rule_at v t ≡ rule_at w t
rule-agree v w t g h =
    rw (h (t - 3) (omega arith), h (t - 8) (omega arith), h (t - 14) (omega arith), h (t - 16) (omega arith))

module _ (m : List ℕ) where
  -- word t of the schedule of m
  pub word : ℕ → ℕ
  word t = pick (ltb t 16) (get_or m t 0) (rule_at (scheduled m t) t)

  pub schedule-list : (n : ℕ) → scheduled m n ≡ list_of word n
  unfolding scheduled list_of word
  schedule-list zero = refl
  schedule-list (suc n) =
      let e : length (scheduled m n) ≡ n = ap length (schedule-list n) ∙ list_length word n in
      rw e (ap (λ (w : List ℕ). w ++ (word n ∷ [])) (schedule-list n))

  pub schedule-at : (n i : ℕ) → i < n → get_or (scheduled m n) i 0 ≡ word i
  schedule-at n i h = ap (λ (w : List ℕ). get_or w i 0) (schedule-list n) ∙ list_at word n i h

  pub word-given : (t : ℕ) → t < 16 → word t ≡ get_or m t 0
  unfolding word
  word-given t h = rw (lt-ltb t 16 h)

  pub word-ruled : (t : ℕ) → 16 ≤ t → word t ≡ rule_at (scheduled m t) t
  unfolding word
  word-ruled t h = rw (le-ltb t 16 h)

  -- a schedule obeys the rule
  pub schedule-ruled : (n t : ℕ) → 16 ≤ t → t < n → get_or (scheduled m n) t 0 ≡ rule_at (scheduled m n) t
  schedule-ruled n t h l =
      schedule-at n t l ∙ word-ruled t h
      ∙ rule-agree (scheduled m t) (scheduled m n) t h (λ i o. schedule-at t i o ∙ sym (schedule-at n i (omega arith)))
