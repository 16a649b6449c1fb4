-- An array that is made of what a closure gives at each index, which changes nothing that it captures. Assumes nothing.
use mathlib.Core.Path.{◌≡◌, sym, ◌∙◌, subst}
use mathlib.Core.List.{List}
use mathlib.Core.Logic.{⊎_elim}
use Prim.Native.Nat.{ℕ, zero, suc, ◌+◌, ◌≤◌, ◌<◌}
use native.Mathlib.Nat.{eq-or-lt_of_le}
use native.Mathlib.Omega.{arith}
use lib.ListN.{length, get_or}
use denote.Param.Members.{Mut, Called}
use Rattle.std.specs.Array.{IsFromFnResult, IsFromFnResultFrom}
use Rattle.std.proofs.lemmas.List.{same_lists, get_or_default}
use Rattle.word.specs.Lists.{list_of}
use Rattle.word.proofs.Fill.{list_length, list_at}

module _ {F : Type 0} (g : Mut F (ℕ × Unit {0}) ℕ) (f : F) (h : ℕ → ℕ) (n : ℕ) (keeps : (i y : ℕ) (q : F) → Called g f (i, tt) y q → q ≡ f)
    (computes : (i y : ℕ) (q : F) → Called g f (i, tt) y q → y ≡ h i) (ys : List ℕ) where
  each : (m i : ℕ) → IsFromFnResultFrom g f ys i m → (k d : ℕ) → i ≤ k → k < i + m → get_or ys k d ≡ h k
  each zero i r k d l e = absurd (omega arith)
  each (suc m) i r k d l e =
      ⊎_elim
      (λ here. subst (λ (j : ℕ). get_or ys j d ≡ h j) here (r.2.1 d ∙ computes i r.1 r.0 r.3))
      (λ later. each m (i + 1) (subst (λ (q : F). IsFromFnResultFrom g q ys (i + 1) m) (keeps i r.1 r.0 r.3) r.4) k d (omega arith) (omega arith))
      (eq-or-lt_of_le l)

  pub from-fn-is : IsFromFnResult g f ys n → ys ≡ list_of h n
  from-fn-is r =
      let long : length ys ≡ length (list_of h n) = r.long ∙ sym (list_length h n) in
      same_lists ys (list_of h n) long (λ k d l.
      let below : k < n = omega (arith, r.long) in
      let inside : k < length (list_of h n) = omega arith in
      each n 0 r.each k d (omega arith) (omega arith) ∙ sym (get_or_default (list_of h n) k d 0 inside ∙ list_at h n k below))
