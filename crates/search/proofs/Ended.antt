-- What a search ends with: the first selected place that marks, and the count of those tried. Assumes nothing.
use mathlib.Core.Path.{◌≡◌, refl, sym, ◌∙◌, subst}
use mathlib.Core.Bool.{Bool, true, false, false≢true}
use mathlib.Core.Logic.{⊎_elim}
use Prim.Native.Nat.{ℕ, zero, suc, ◌+◌, ◌≤◌, ◌<◌}
use native.Mathlib.Nat.{zero-add, add-zero, add-suc, suc-add, eq-or-lt_of_le, le_refl, lt_of_not-le}
use native.Mathlib.Numerals.{add-one}
use native.Mathlib.Omega.{arith}
use mathlib.Core.List.{List}
use lib.ListN.{length}
use Rattle.std.specs.Prelude.{None, Some}
use Rattle.word.specs.Choice.{pick}
use Rattle.step.specs.declared.Regs.{Regs}
use Rattle.table.specs.Table.{records_in}
use Rattle.search.specs.Marks.{selects, marks, found_in}
use Rattle.search.specs.Search.{search_from, is_marked, marking_place, count_of}
use Rattle.search.specs.Ended.{NoneMarks, Ended, hit, miss}
use Rattle.search.specs.declared.Found.{Found}

module _ (selected marks : ℕ → Bool) where
  front : (i p : ℕ) → (selected i ≡ true → marks i ≡ false) → NoneMarks selected marks (suc i) p → NoneMarks selected marks i p
  front i p h none j a b s =
      ⊎_elim (λ e. subst (λ (k : ℕ). selected k ≡ true → marks k ≡ false) e h s) (λ l. none j l b s) (eq-or-lt_of_le a)

  -- one place more in front, which is not selected or does not mark
  widen : (n i : ℕ) {f : Found} → (selected i ≡ true → marks i ≡ false) → Ended selected marks n (suc i) f → Ended selected marks n i f
  widen n i h (hit p a b s m none) = hit p (omega arith) b s m (front i p h none)
  widen n i h (miss none) = miss (front i n h none)

  counted : (i : ℕ) (b : Bool) → selected i ≡ b → count_of selected (suc i) ≡ count_of selected i + pick b 1 0
  unfolding count_of
  counted i b e = rw e

  pub ended : (m i : ℕ) → Ended selected marks (i + m) i (search_from selected marks i m (count_of selected i))
  unfolding search_from
  ended zero i =
      let n : i + 0 ≡ i = add-zero i in
      subst (λ (k : ℕ). Ended selected marks (i + 0) i (record { by = None; tried = count_of selected k })) n (miss (λ j a b s. absurd (omega arith)))
  ended (suc m) i = go (ended m (suc i)) (selected i) (marks i) refl refl
    where
      go : Ended selected marks (suc i + m) (suc i) (search_from selected marks (suc i) m (count_of selected (suc i))) → (b d : Bool) → selected i ≡ b → marks i ≡ d
          → Ended selected marks (i + suc m) i (pick (selected i) (pick (marks i) (record { by = Some i; tried = suc (count_of selected i) }) (search_from selected marks (suc i) m (suc (count_of selected i)))) (search_from selected marks (suc i) m (count_of selected i)))
      go r true true s e =
          let t : suc (count_of selected i) ≡ count_of selected (suc i) = sym (add-one (count_of selected i)) ∙ sym (counted i true s) in
          rw (s, e, t) (hit i (le_refl i) (omega arith) s e (λ j a b. absurd (omega arith)))
      go r true false s e =
          let t : suc (count_of selected i) ≡ count_of selected (suc i) = sym (add-one (count_of selected i)) ∙ sym (counted i true s) in
          let n : i + suc m ≡ suc i + m = add-suc i m ∙ sym (suc-add i m) in
          rw (s, e, t, n) (widen (suc i + m) i (λ _. e) r)
      go r false d s e =
          let t : count_of selected i ≡ count_of selected (suc i) = sym (counted i false s ∙ add-zero (count_of selected i)) in
          let n : i + suc m ≡ suc i + m = add-suc i m ∙ sym (suc-add i m) in
          rw (s, t, n) (widen (suc i + m) i (λ u. absurd (false≢true (sym s ∙ u))) r)

  -- marked exactly when some place is selected and marks
  pub marked-some : {n : ℕ} {f : Found} → Ended selected marks n 0 f → is_marked f ≡ true → (j : ℕ) × (j < n) × (selected j ≡ true) × (marks j ≡ true)
  marked-some (hit p a b s m none) e = (p, b, s, m)
  marked-some (miss none) e = absurd (false≢true e)

  -- and then no later than any such place
  pub some-marked : {n : ℕ} {f : Found} → Ended selected marks n 0 f → (j : ℕ) → j < n → selected j ≡ true → marks j ≡ true → (is_marked f ≡ true) × (marking_place f ≤ j)
  some-marked (hit p a b s m none) j l t e =
      let q : p < suc j = lt_of_not-le (λ k. false≢true (sym (none j (omega arith) k t) ∙ e)) in
      (refl, omega arith)
  some-marked (miss none) j l t e = absurd (false≢true (sym (none j (omega arith) l t) ∙ e))

  -- nothing is tried where nothing is selected
  pub none_tried : ((j : ℕ) → selected j ≡ false) → (n i k : ℕ) → search_from selected marks i n k ≡ record { by = None; tried = k }
  unfolding search_from
  none_tried h zero i k = refl
  none_tried h (suc n) i k = rw (h i) (none_tried h n (suc i) k)

-- the search through a whole table
pub found-ended : (reduced : Bool) (table : List ℕ) (h : Regs) (w : List ℕ) (mask : ℕ)
    → Ended (selects mask table) (marks reduced h w table) (records_in (length table)) 0 (found_in reduced table h w mask)
unfolding found_in count_of
found-ended reduced table h w mask =
    subst (λ (n : ℕ). Ended (selects mask table) (marks reduced h w table) n 0 (found_in reduced table h w mask)) (zero-add (records_in (length table)))
    (ended (selects mask table) (marks reduced h w table) (records_in (length table)) 0)
