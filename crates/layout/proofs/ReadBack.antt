-- A number of flags that is read is written back as that number, and a hasher that is read from lent memory of the right form as it lay
-- there. Assumes nothing.
use mathlib.Core.Path.{◌≡◌, refl, sym, ap, ◌∙◌}
use mathlib.Core.Bool.{Bool, true, false, not, ◌&&◌, true≢false}
use mathlib.Core.Logic.{⊎_elim}
use mathlib.Core.List.{List, [], ◌∷◌}
use Prim.Native.Nat.{ℕ, zero, suc, ◌<◌}
use native.Mathlib.Nat.{eq-or-lt_of_le}
use native.Mathlib.Omega.{arith}
use lib.Dec.{leb, eqb}
use lib.ListN.{length}
use borrow.Author.Tests.{eqb-true, leb-true}
use Rattle.std.specs.Prelude.{Option, Some, None}
use Rattle.word.specs.Choice.{pick}
use Rattle.word.proofs.Tests.{both_true}
use Rattle.hasher.specs.declared.Hasher.{Hasher}
use Rattle.layout.specs.Layout.{bit_of, has_worth, flags_known, flags_in, flags_number, hasher_in, state_of, slices_of, state_fits, hasher_fits, hasher_read}

-- every number below n comes back from f
unfoldable backs : (ℕ → ℕ) → ℕ → Bool
backs f zero = true
backs f (suc n) = eqb (f n) n && backs f n

back : (f : ℕ → ℕ) (n : ℕ) → backs f n ≡ true → (x : ℕ) → x < n → f x ≡ x
unfolding backs
back f zero e x l = absurd (omega arith)
back f (suc n) e x l =
    let b = both_true (eqb (f n) n) (backs f n) e in
    ⊎_elim (λ (m : x ≡ n). rw m (eqb-true (f n) n b.0)) (λ (m : x < n). back f n b.1 x m) (eq-or-lt_of_le (omega arith))

known-below : (x : ℕ) → flags_known x ≡ true → x < 32
unfolding flags_known
known-below x k = omega (arith, leb-true x 31 (both_true (leb x 31) (not (has_worth x 4 && has_worth x 16)) k).0)

-- a number that stands for flags read and written, any other as it is
abbrev back_if_known : ℕ → ℕ
back_if_known x = pick (flags_known x) (flags_number (flags_in x)) x

known-back : (x : ℕ) → x < 32 → back_if_known x ≡ x
unfolding backs flags_known flags_number flags_in
known-back = back (λ (x : ℕ). back_if_known x) 32 refl

-- the flags that a number stands for have that number
pub flags-back : (x : ℕ) → flags_known x ≡ true → flags_number (flags_in x) ≡ x
flags-back x k = sym (ap (λ (b : Bool). pick b (flags_number (flags_in x)) x) k) ∙ known-back x (known-below x k)

mark-back : (x : ℕ) → x < 2 → bit_of (has_worth x 1) ≡ x
unfolding backs
mark-back = back (λ (x : ℕ). bit_of (has_worth x 1)) 2 refl

-- a state that fits is the state of the hasher that it is read as
state-back : (w p s : List ℕ) → state_fits s ≡ true → state_of (hasher_in w p s) ≡ s
unfolding state_of hasher_in
state-back w p (a ∷ b ∷ c ∷ d ∷ x ∷ y ∷ []) e =
    let f = both_true (leb c 1) (flags_known d) e in
    rw (mark-back c (omega (arith, leb-true c 1 f.0)), flags-back d f.1)
state-back w p [] e = absurd (true≢false (sym e))
state-back w p (a ∷ []) e = absurd (true≢false (sym e))
state-back w p (a ∷ b ∷ []) e = absurd (true≢false (sym e))
state-back w p (a ∷ b ∷ c ∷ []) e = absurd (true≢false (sym e))
state-back w p (a ∷ b ∷ c ∷ d ∷ []) e = absurd (true≢false (sym e))
state-back w p (a ∷ b ∷ c ∷ d ∷ x ∷ []) e = absurd (true≢false (sym e))
state-back w p (a ∷ b ∷ c ∷ d ∷ x ∷ y ∷ z ∷ s) e =
    let n = length (a ∷ b ∷ c ∷ d ∷ x ∷ y ∷ z ∷ s) in
    let k = eqb-true n 6 (both_true (eqb n 6) (leb c 1 && flags_known d) e).0 in
    absurd (omega (arith, k))

-- so the slices that a hasher is read from are those that it is written to
pub slices-back : (w p s : List ℕ) → hasher_fits (length w) (length p) s ≡ true → slices_of (hasher_in w p s) ≡ w ∷ p ∷ s ∷ []
unfolding hasher_in
slices-back w p s e =
    let f = both_true (eqb (length w) 5) (eqb (length p) 64 && state_fits s) e in
    ap (λ (t : List ℕ). w ∷ p ∷ t ∷ []) (state-back w p s (both_true (eqb (length p) 64) (state_fits s) f.1).1)

-- what is read is the hasher that lies there, and the slices are of the right form
pub read_is : (w p s : List ℕ) (h : Hasher) → hasher_read w p s ≡ Some h → (hasher_fits (length w) (length p) s ≡ true) × (hasher_in w p s ≡ h)
read_is w p s h = by (hasher_fits (length w) (length p) s)
  where
    by : (b : Bool) → pick {A = Option Hasher} b (Some (hasher_in w p s)) None ≡ Some h → (b ≡ true) × (hasher_in w p s ≡ h)
    by true e = (refl, cc)
    by false e = cc
