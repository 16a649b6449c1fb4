-- What a copy leaves where it fills all of a slice, and a slice from a place on. Assumes nothing.
use mathlib.Core.Path.{◌≡◌, sym, ◌∙◌}
use mathlib.Core.List.{List, append-nil}
use Prim.Native.Nat.{ℕ, ◌+◌, ◌-◌}
use native.Mathlib.Omega.{arith}
use native.Mathlib.Nat.{zero-add}
use lib.ListN.{length, take, drop, length-drop}
use lib.Seq.{paste, take-length, take_all, drop-length}

-- n bytes into a slice of n
pub stored-n : (out s : List ℕ) (n : ℕ) → length out ≡ n → length s ≡ n → paste out 0 s n ≡ s
stored-n out s n o e =
    let k : 0 + n ≡ length out = zero-add n ∙ sym o in
    let m : n ≡ length s = sym e in
    rw (k, m, take-length s, drop-length out, append-nil s)

-- a list from a place on, as a part of a slice gives it
pub tail-is : (s : List ℕ) (at : ℕ) → take (length s - at) (drop at s) ≡ drop at s
tail-is s at = take_all (length s - at) (drop at s) (omega (arith, length-drop at s))
