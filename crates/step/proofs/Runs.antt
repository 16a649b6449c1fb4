-- Runs of steps, forward and back: one step at a time, two runs in a row, and each undone by the other. Assumes nothing.
use mathlib.Core.Path.{◌≡◌, refl, sym, ap, ◌∙◌}
use mathlib.Core.List.{List}
use Prim.Native.Nat.{ℕ, zero, suc, ◌+◌, ◌-◌, ◌≤◌, ◌<◌}
use native.Mathlib.Nat.{zero-add, add-zero, suc-add, add-suc, add_assoc}
use native.Mathlib.Numerals.{add-one}
use native.Mathlib.Omega.{arith}
use lib.ListN.{get_or}
use Rattle.step.specs.Step.{step_at, undo_at, steps_of, undos_of, f_at, k_at, Words}
use Rattle.step.specs.declared.Regs.{Regs}
use Rattle.step.proofs.Inverse.{undoing-inverts-step, step-inverts-undoing, step_words, undo-words}

-- the turns of the two loops
module _ (w : List ℕ) (t : ℕ) (s : Regs) where
  pub steps-more : (to : ℕ) → t < to → steps_of w t (to - t) s ≡ steps_of w (t + 1) (to - (t + 1)) (step_at t s (get_or w t 0))
  unfolding steps_of
  steps-more to h =
      let e : to - t ≡ suc (to - (t + 1)) = omega arith in
      rw (e, add-one t)

  pub steps-done : (to : ℕ) → t ≤ to → to ≤ t → steps_of w t (to - t) s ≡ s
  unfolding steps_of
  steps-done to g h =
      let e : to - t ≡ 0 = omega arith in
      rw e

  pub undos-more : (from : ℕ) → from < t
      → undos_of w from (t - from) s ≡ undos_of w from (t - 1 - from) (undo_at (t - 1) s (get_or w (t - 1) 0))
  unfolding undos_of
  undos-more from h =
      let e : t - from ≡ suc (t - 1 - from) = omega arith in
      let g : from + (t - 1 - from) ≡ t - 1 = omega arith in
      ap (λ (k : ℕ). undos_of w from k s) e ∙ ap (λ (k : ℕ). undos_of w from (t - 1 - from) (undo_at k s (get_or w k 0))) g

  pub undos-done : (from : ℕ) → t ≤ from → undos_of w from (t - from) s ≡ s
  unfolding undos_of
  undos-done from h =
      let e : t - from ≡ 0 = omega arith in
      rw e

-- a run is a run and the rest of it
pub steps-add : (w : List ℕ) (n m t : ℕ) (s : Regs) → steps_of w t (n + m) s ≡ steps_of w (t + n) m (steps_of w t n s)
unfolding steps_of
steps-add w zero m t s = rw (zero-add m, add-zero t)
steps-add w (suc n) m t s = rw (suc-add n m, add-suc t n, ← suc-add t n) (steps-add w n m (suc t) (step_at t s (get_or w t 0)))

-- and undone, the rest first
pub undos-add : (w : List ℕ) (n m t : ℕ) (s : Regs) → undos_of w t (n + m) s ≡ undos_of w t n (undos_of w (t + n) m s)
unfolding undos_of
undos-add w n zero t s = rw (add-zero n)
undos-add w n (suc m) t s = rw (add-suc n m, add_assoc t n m) (undos-add w n m t (undo_at (t + (n + m)) s (get_or w (t + (n + m)) 0)))

-- two runs that meet at step `mid`
pub steps_through : (w : List ℕ) (from mid to : ℕ) (s : Regs) → from ≤ mid → mid ≤ to
    → steps_of w mid (to - mid) (steps_of w from (mid - from) s) ≡ steps_of w from (to - from) s
steps_through w from mid to s h l =
    let a : to - from ≡ (mid - from) + (to - mid) = omega arith in
    let b : from + (mid - from) ≡ mid = omega arith in
    sym (ap (λ (n : ℕ). steps_of w from n s) a ∙ steps-add w (mid - from) (to - mid) from s ∙ ap (λ (t : ℕ). steps_of w t (to - mid) (steps_of w from (mid - from) s)) b)

pub undos_through : (w : List ℕ) (from mid to : ℕ) (s : Regs) → from ≤ mid → mid ≤ to
    → undos_of w from (mid - from) (undos_of w mid (to - mid) s) ≡ undos_of w from (to - from) s
undos_through w from mid to s h l =
    let a : to - from ≡ (mid - from) + (to - mid) = omega arith in
    let b : from + (mid - from) ≡ mid = omega arith in
    sym (ap (λ (n : ℕ). undos_of w from n s) a ∙ undos-add w (mid - from) (to - mid) from s ∙ ap (λ (t : ℕ). undos_of w from (mid - from) (undos_of w t (to - mid) s)) b)

-- the last step by itself
pub steps-last : (w : List ℕ) (n t : ℕ) (s : Regs) → steps_of w t (suc n) s ≡ step_at (t + n) (steps_of w t n s) (get_or w (t + n) 0)
unfolding steps_of
steps-last w n t s = ap (λ (k : ℕ). steps_of w t k s) (sym (add-one n)) ∙ steps-add w n 1 t s

module _ (w : List ℕ) where
  pub steps-words : (n t : ℕ) (s : Regs) → Words s → Words (steps_of w t n s)
  unfolding steps_of step_at
  steps-words zero t s h = h
  steps-words (suc n) t s h =
      steps-words n (suc t) (step_at t s (get_or w t 0)) (step_words (f_at t) (k_at t) s (get_or w t 0) h)

  pub undos-words : (n t : ℕ) (s : Regs) → Words s → Words (undos_of w t n s)
  unfolding undos_of undo_at
  undos-words zero t s h = h
  undos-words (suc n) t s h =
      undos-words n t (undo_at (t + n) s (get_or w (t + n) 0)) (undo-words (f_at (t + n)) (k_at (t + n)) s (get_or w (t + n) 0) h)

  -- n steps in a row, undone and done again
  pub steps-undos : (n t : ℕ) (s : Regs) → Words s → steps_of w t n (undos_of w t n s) ≡ s
  unfolding undos_of undo_at steps_of step_at
  steps-undos zero t s h = refl
  steps-undos (suc n) t s h =
      let k = t + n in
      let x = get_or w (t + n) 0 in
      steps-last w n t (undos_of w t (suc n) s)
      ∙ ap (λ (q : Regs). step_at (t + n) q (get_or w (t + n) 0)) (steps-undos n t (undo_at k s x) (undo-words (f_at k) (k_at k) s x h))
      ∙ step-inverts-undoing k s x h

  -- n steps in a row, done and undone again
  pub undos-steps : (n t : ℕ) (s : Regs) → Words s → undos_of w t n (steps_of w t n s) ≡ s
  unfolding undos_of undo_at step_at steps_of
  undos-steps zero t s h = refl
  undos-steps (suc n) t s h =
      let k = t + n in
      ap (undos_of w t (suc n)) (steps-last w n t s)
      ∙ ap (undos_of w t n) (undoing-inverts-step k (steps_of w t n s) (get_or w k 0) (steps-words n t s h))
      ∙ undos-steps n t s h
