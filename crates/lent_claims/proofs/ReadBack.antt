-- A hasher that is read from lent memory of the right form is written back as it lay there; flags written as a number are read as these
-- flags, and a hasher that is written is read as that hasher; a new hasher has the flags that were asked for; and a verdict's number is read as
-- that verdict. Assumes nothing.
use mathlib.Core.Path.{◌≡◌, refl}
use mathlib.Core.Bool.{Bool, true, false}
use mathlib.Core.List.{List, [], ◌∷◌}
use Prim.Native.Nat.{ℕ}
use lib.Dec.{leb}
use lib.ListN.{length}
use Rattle.verdict.specs.declared.Verdict.{Verdict}
use Rattle.verdict.specs.declared.Verdict.TheVariants.{Ok, Mitigated, Collision}
use Rattle.flags.specs.declared.Flags.{Flags}
use Rattle.flags.specs.declared.Masks.{Masks}
use Rattle.flags.specs.declared.Masks.TheVariants.{All, Lent, Conditions}
use Rattle.hasher.specs.Hasher.{fresh_of}
use Rattle.hasher.specs.declared.Hasher.{Hasher}
use Rattle.layout.proofs.ReadBack as read_back
use Rattle.layout.specs.Layout.{bit_of, has_worth, flags_known, flags_in, flags_number, hasher_in, state_of, slices_of, state_fits, hasher_fits, verdict_number, verdict_known, verdict_for}

-- the flags that a number stands for have that number
pub flags-back : (x : ℕ) → flags_known x ≡ true → flags_number (flags_in x) ≡ x
flags-back = read_back.flags-back

-- the number of these flags stands for flags, and for these
abbrev Kept : Flags → Type 0
Kept f = (flags_known (flags_number f) ≡ true) × (flags_in (flags_number f) ≡ f)

abbrev settings : Bool → Bool → Bool → Masks → Flags
settings d m r k = record { detect = d; mitigate = m; masks = k; reduced = r }

by-setting : (d m r : Bool) → Kept (settings d m r All) → Kept (settings d m r Lent) → Kept (settings d m r Conditions) → (k : Masks) → Kept (settings d m r k)
by-setting d m r a l c All = a
by-setting d m r a l c Lent = l
by-setting d m r a l c Conditions = c

each-kept : (d m r : Bool) (k : Masks) → Kept (settings d m r k)
unfolding flags_known flags_number flags_in
each-kept true true true = by-setting true true true (refl, refl) (refl, refl) (refl, refl)
each-kept true true false = by-setting true true false (refl, refl) (refl, refl) (refl, refl)
each-kept true false true = by-setting true false true (refl, refl) (refl, refl) (refl, refl)
each-kept true false false = by-setting true false false (refl, refl) (refl, refl) (refl, refl)
each-kept false true true = by-setting false true true (refl, refl) (refl, refl) (refl, refl)
each-kept false true false = by-setting false true false (refl, refl) (refl, refl) (refl, refl)
each-kept false false true = by-setting false false true (refl, refl) (refl, refl) (refl, refl)
each-kept false false false = by-setting false false false (refl, refl) (refl, refl) (refl, refl)

-- so no two settings have one number, and the flags of a hasher that a call leaves are taken by the next call
pub flags-kept : (f : Flags) → (flags_known (flags_number f) ≡ true) × (flags_in (flags_number f) ≡ f)
flags-kept f = each-kept f.detect f.mitigate f.reduced f.masks

-- a mark written as a number is 0 or 1, and is read as that mark
mark-kept : (b : Bool) → (leb (bit_of b) 1 ≡ true) × (has_worth (bit_of b) 1 ≡ b)
mark-kept true = (refl, refl)
mark-kept false = (refl, refl)

-- a hasher that a call leaves is taken by the next call, and is read as it was, its first mark too
pub hasher-kept : (h : Hasher) → (state_fits (state_of h) ≡ true) × (hasher_in h.words h.pending (state_of h) ≡ h)
unfolding state_of hasher_in
hasher-kept h =
    let m = mark-kept h.mark in
    let f = flags-kept h.flags in
    (rw (m.0, f.0), rw (m.1, f.1))

-- a new hasher's state: nothing pending, no blocks, no mark, the flags that were asked for, and no first mark
pub new-state : (x : ℕ) → flags_known x ≡ true → state_of (fresh_of (flags_in x)) ≡ 0 ∷ 0 ∷ 0 ∷ x ∷ 0 ∷ 0 ∷ []
unfolding state_of
new-state x k = rw (flags-back x k)

-- so the slices that a hasher is read from are those that it is written to
pub slices-back : (w p s : List ℕ) → hasher_fits (length w) (length p) s ≡ true → slices_of (hasher_in w p s) ≡ w ∷ p ∷ s ∷ []
slices-back = read_back.slices-back

-- a verdict's number is taken,
pub verdict-number-known : (v : Verdict) → verdict_known (verdict_number v) ≡ true
verdict-number-known Ok = refl
verdict-number-known Mitigated = refl
verdict-number-known Collision = refl

-- and stands for that verdict, so that a comparison goes by the verdict that a finish gave
pub verdict-back : (v : Verdict) → verdict_for (verdict_number v) ≡ v
verdict-back Ok = refl
verdict-back Mitigated = refl
verdict-back Collision = refl
