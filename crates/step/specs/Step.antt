-- A step of SHA-1, forward and back: FIPS 180-4, sections 4.1.1, 4.2.1 and 6.1.2, step 3.
use Rattle.std.specs.Prelude.{Bool, ◌&&◌, List, [], ◌∷◌, ℕ, zero, suc, ◌+◌, ◌^◌, ◌<◌, ltb, eqb, get_or}
use Rattle.word.specs.Choice.{pick}
use Rattle.word.specs.Word.{rotl, ◌⊞◌, ◌⊟◌, ch, parity, maj}
use Rattle.step.specs.declared.Regs.{Regs}

-- the step on (a, b, c, d, e) with the constant k and the word w, where f is what the round function gives for b, c, d
unfoldable pub step_with : ℕ → ℕ → Regs → ℕ → Regs
step_with f k s w =
    record { a = rotl 5 s.a ⊞ f ⊞ s.e ⊞ k ⊞ w; b = s.a; c = rotl 30 s.b; d = s.c; e = s.d }

-- that step undone: the moved words go back, and the old e is what the sum has left
unfoldable pub undo_with : ℕ → ℕ → Regs → ℕ → Regs
undo_with f k s w =
    record { a = s.b; b = rotl 2 s.c; c = s.d; d = s.e; e = s.a ⊟ (rotl 5 s.b ⊞ f ⊞ k ⊞ w) }

-- the step of a round with the function f and the constant k
abbrev pub step_of : (ℕ → ℕ → ℕ → ℕ) → ℕ → Regs → ℕ → Regs
step_of f k s w = step_with (f s.b s.c s.d) k s w

-- that step undone; the b, c, d that it started from stand in c, d, e now, b turned by 30
abbrev pub undo_of : (ℕ → ℕ → ℕ → ℕ) → ℕ → Regs → ℕ → Regs
undo_of f k s w = undo_with (f (rotl 2 s.c) s.d s.e) k s w

-- what the four rounds, of twenty steps each, have at step t
abbrev pub by_round : {A : Type 0} → ℕ → A → A → A → A → A
by_round t x y z u = pick (ltb t 20) x (pick (ltb t 40) y (pick (ltb t 60) z u))

-- the function of step t
unfoldable pub f_at : ℕ → ℕ → ℕ → ℕ → ℕ
f_at t = by_round t ch parity maj parity

-- the constant of step t
unfoldable pub k_at : ℕ → ℕ
k_at t = by_round t 0x5A827999 0x6ED9EBA1 0x8F1BBCDC 0xCA62C1D6

-- step t with the word w
unfoldable pub step_at : ℕ → Regs → ℕ → Regs
step_at t s w = step_of (f_at t) (k_at t) s w

-- step t undone
unfoldable pub undo_at : ℕ → Regs → ℕ → Regs
undo_at t s w = undo_of (f_at t) (k_at t) s w

-- n steps over the schedule w, from step t on
unfoldable pub steps_of : List ℕ → ℕ → ℕ → Regs → Regs
steps_of w t zero s = s
steps_of w t (suc n) s = steps_of w (suc t) n (step_at t s (get_or w t 0))

-- those n steps undone, the last first
unfoldable pub undos_of : List ℕ → ℕ → ℕ → Regs → Regs
undos_of w t zero s = s
undos_of w t (suc n) s = undos_of w t n (undo_at (t + n) s (get_or w (t + n) 0))

-- each of the five is a word
pub record Words (s : Regs) : Type 0 where
  pub a_lt : s.a < 2 ^ 32
  pub b_lt : s.b < 2 ^ 32
  pub c_lt : s.c < 2 ^ 32
  pub d_lt : s.d < 2 ^ 32
  pub e_lt : s.e < 2 ^ 32

-- five words in a list as registers
abbrev pub regs_of : List ℕ → Regs
regs_of h = record { a = get_or h 0 0; b = get_or h 1 0; c = get_or h 2 0; d = get_or h 3 0; e = get_or h 4 0 }

-- the registers as a list of five words
abbrev pub five_of : Regs → List ℕ
five_of s = s.a ∷ s.b ∷ s.c ∷ s.d ∷ s.e ∷ []

-- word by word, the sum that wraps
abbrev pub add_regs : Regs → Regs → Regs
add_regs s r = record { a = s.a ⊞ r.a; b = s.b ⊞ r.b; c = s.c ⊞ r.c; d = s.d ⊞ r.d; e = s.e ⊞ r.e }

-- whether the five words of both are the same
abbrev pub same_regs : Regs → Regs → Bool
same_regs s r = eqb s.a r.a && (eqb s.b r.b && (eqb s.c r.c && (eqb s.d r.d && eqb s.e r.e)))
