-- The sibling's schedule is the schedule of the sibling's sixteen words, since the rule is linear. Assumes nothing.
use mathlib.Core.Logic.{⊎_elim}
use mathlib.Core.Path.{◌≡◌, refl, sym, ap, ap₂, ◌∙◌}
use mathlib.Core.List.{List, [], ◌∷◌, ◌++◌}
use Prim.Native.Nat.{ℕ, zero, suc, ◌-◌, ◌≤◌, ◌<◌}
use native.Mathlib.Nat.{eq-zero-or-pos}
use native.Mathlib.Omega.{arith}
use lib.Bits.{bit_xor}
use lib.ListN.{get_or}
use Rattle.word.specs.Lists.{list_of, xor_words, AllWords}
use Rattle.word.specs.Rule.{rule_at}
use Rattle.word.proofs.Xor.{rule_xor}
use Rattle.word.proofs.Fill.{list_at}
use Rattle.block.specs.Schedule.{scheduled, schedule_of}
use Rattle.block.proofs.Growth.{word, schedule-list, schedule-at, word-given, word-ruled, schedule-ruled}
use Rattle.block.proofs.Bounds.{schedule_words_lem}
use Rattle.sibling.specs.Sibling.{sibling_schedule}

-- where the difference words obey the rule, the sibling has the schedule of a block
module _ (m dm : List ℕ) (hm : AllWords m) (hd : AllWords dm) (obeys : (t : ℕ) → 16 ≤ t → t < 80 → get_or dm t 0 ≡ rule_at dm t) where
  -- word t of the sibling's schedule
  abbrev f : ℕ → ℕ
  f t = bit_xor (get_or (schedule_of m) t 0) (get_or dm t 0)

  -- the sibling's sixteen words
  abbrev v : List ℕ
  v = xor_words 16 m dm

  first : (t : ℕ) → t < 16 → word v t ≡ f t
  first t l =
      word-given v t l ∙ list_at _ 16 t l
      ∙ ap (λ (x : ℕ). bit_xor x (get_or dm t 0)) (sym (schedule-at m 80 t (omega arith) ∙ word-given m t l))

  -- the rule on the sibling's words so far gives the next one
  next : (t : ℕ) → 16 ≤ t → t < 80 → rule_at (list_of f t) t ≡ f t
  next t h l =
      let hw = schedule_words_lem m hm 80 in
      rw (list_at f t (t - 3) (omega arith), list_at f t (t - 8) (omega arith), list_at f t (t - 14) (omega arith), list_at f t (t - 16) (omega arith))
      (rule_xor _ _ _ _ _ _ _ _ (hw (t - 3)) (hw (t - 8)) (hw (t - 14)) (hw (t - 16)) (hd (t - 3)) (hd (t - 8)) (hd (t - 14)) (hd (t - 16))
      ∙ ap₂ bit_xor (sym (schedule-ruled m 80 t h l)) (sym (obeys t h l)))

  -- the sibling's first n words are those of the schedule of its sixteen
  so_far : (n : ℕ) → n ≤ 80 → list_of f n ≡ scheduled v n
  unfolding scheduled list_of
  so_far zero h = refl
  so_far (suc n) h =
      let e = so_far n (omega arith) in
      let x : f n ≡ word v n =
      ⊎_elim (λ z. sym (first n (omega arith)))
      (λ p. sym (word-ruled v n (omega arith) ∙ ap (λ (l : List ℕ). rule_at l n) (sym e) ∙ next n (omega arith) (omega arith)))
      (eq-zero-or-pos (n - 15)) in
      ap₂ (λ (l : List ℕ) (y : ℕ). l ++ (y ∷ [])) (e ∙ schedule-list v n) x ∙ sym (schedule-list v (suc n))

  pub sibling_schedule_lem : sibling_schedule (schedule_of m) dm ≡ schedule_of (xor_words 16 m dm)
  sibling_schedule_lem = so_far 80 (omega arith)
