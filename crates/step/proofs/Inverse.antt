-- A step and its undoing are each other's inverse: for any round function and constant, and so for each step of FIPS 180-4. Assumes nothing.
use mathlib.Core.Path.{◌≡◌, ap, ◌∙◌}
use Prim.Native.Nat.{ℕ, ◌+◌, ◌%◌, ◌^◌, ◌<◌}
use native.Mathlib.Nat.{mod-lt, mod-add-mod, add-mod-mod}
use native.Mathlib.Omega.{arith}
use lib.Pow.{pow_pos}
use Rattle.word.specs.Word.{rotl, ◌⊞◌, ◌⊟◌}
use Rattle.step.specs.Step.{step_of, undo_of, step_with, undo_with, step_at, undo_at, f_at, k_at, Words}
use Rattle.step.specs.declared.Regs.{Regs}
use Rattle.word.proofs.Sums.{sub-add, add-sub}
use Rattle.word.proofs.Rotate.{rotl-back, rotl-again, rotl-lt}

-- the old e comes out of the sum
out : (r f e k w : ℕ) → r ⊞ f ⊞ e ⊞ k ⊞ w ≡ e ⊞ (r ⊞ f ⊞ k ⊞ w)
out r f e k w =
    let same : r + f + e + k + w ≡ e + (r + f + k + w) = omega arith in
    simp (mod-add-mod, add-mod-mod) (ap (λ (n : ℕ). n % 2 ^ 32) same)

sum_lt : (x w : ℕ) → x ⊞ w < 2 ^ 32
sum_lt x w = mod-lt (x + w) (pow_pos 32)

taken : (r f e k w : ℕ) → e < 2 ^ 32 → (r ⊞ f ⊞ e ⊞ k ⊞ w) ⊟ (r ⊞ f ⊞ k ⊞ w) ≡ e
taken r f e k w h = rw (out r f e k w) (sub-add e (r ⊞ f ⊞ k ⊞ w) h (sum_lt (r ⊞ f ⊞ k) w))

put : (r f a k w : ℕ) → a < 2 ^ 32 → r ⊞ f ⊞ (a ⊟ (r ⊞ f ⊞ k ⊞ w)) ⊞ k ⊞ w ≡ a
put r f a k w h =
    out r f (a ⊟ (r ⊞ f ⊞ k ⊞ w)) k w ∙ add-sub a (r ⊞ f ⊞ k ⊞ w) h (sum_lt (r ⊞ f ⊞ k) w)

module _ (f : ℕ → ℕ → ℕ → ℕ) (k : ℕ) (s : Regs) (w : ℕ) (h : Words s) where
  pub undo-step : undo_of f k (step_of f k s w) w ≡ s
  unfolding step_with undo_with
  undo-step = rw (rotl-back s.b h.b_lt, taken (rotl 5 s.a) (f s.b s.c s.d) s.e k w h.e_lt)

  pub step-undo : step_of f k (undo_of f k s w) w ≡ s
  unfolding step_with undo_with
  step-undo = rw (rotl-again s.c h.c_lt, put (rotl 5 s.b) (f (rotl 2 s.c) s.d s.e) s.a k w h.a_lt)

  pub step_words : Words (step_of f k s w)
  unfolding step_with
  step_words =
      record { a_lt = mod-lt _ (pow_pos 32); b_lt = h.a_lt; c_lt = rotl-lt 30 (omega arith) s.b h.b_lt; d_lt = h.c_lt; e_lt = h.d_lt }

  pub undo-words : Words (undo_of f k s w)
  unfolding undo_with ◌⊟◌
  undo-words =
      record { a_lt = h.b_lt; b_lt = rotl-lt 2 (omega arith) s.c h.c_lt; c_lt = h.d_lt; d_lt = h.e_lt; e_lt = mod-lt _ (pow_pos 32) }

-- step t of FIPS 180-4, of any state of words and any word
module _ (t : ℕ) (s : Regs) (w : ℕ) (h : Words s) where
  -- undone, it gives the state before
  pub undoing-inverts-step : undo_at t (step_at t s w) w ≡ s
  unfolding step_at undo_at
  undoing-inverts-step = undo-step (f_at t) (k_at t) s w h

  -- done after its undoing, it gives the state again
  pub step-inverts-undoing : step_at t (undo_at t s w) w ≡ s
  unfolding step_at undo_at
  step-inverts-undoing = step-undo (f_at t) (k_at t) s w h
