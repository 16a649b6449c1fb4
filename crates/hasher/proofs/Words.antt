-- Five words, as registers and back. Assumes nothing.
use mathlib.Core.Path.{◌≡◌, sym, ap, ◌∙◌}
use mathlib.Core.List.{List, ◌∷◌}
use Prim.Native.Nat.{ℕ, suc, ◌<◌}
use native.Mathlib.Omega.{arith}
use lib.ListN.{length, get_or, drop, drop_of_length-le}
use lib.Seq.{drop-cons}
use Rattle.step.specs.Step.{regs_of, five_of}

next : (w : List ℕ) (i : ℕ) {ys : List ℕ} → i < length w → drop (suc i) w ≡ ys → drop i w ≡ get_or w i 0 ∷ ys
next w i l e = drop-cons w i 0 l ∙ ap (λ (ys : List ℕ). get_or w i 0 ∷ ys) e

pub five-is : (w : List ℕ) → length w ≡ 5 → five_of (regs_of w) ≡ w
five-is w h =
    let l : 4 < length w = omega arith in
    sym (next w 0 (omega arith) (next w 1 (omega arith) (next w 2 (omega arith) (next w 3 (omega arith) (next w 4 l (drop_of_length-le w {i = 5} (omega arith)))))))
