-- The last one or two blocks of a message, and the sizes of what is stored. Assumes nothing.
use mathlib.Core.Path.{◌≡◌, refl, ap, ap₂, ◌∙◌}
use mathlib.Core.Bool.{Bool, true, false}
use mathlib.Core.List.{List, ◌++◌}
use Prim.Native.Nat.{ℕ, ◌+◌, ◌-◌, ◌*◌, ◌≤◌}
use native.Mathlib.Omega.{arith}
use borrow.Author.Tests.{leb-true, leb-false}
use lib.Dec.{leb}
use lib.ListN.{length, take}
use lib.Seq.{paste, take-paste, length-paste, take_all}
use Rattle.word.specs.Choice.{pick}
use Rattle.octets.specs.Octets.{bytes64}
use Rattle.step.specs.declared.Regs.{Regs}
use Rattle.fips.specs.Fips.{digest_of}
use Rattle.fips.specs.Tail.{tail_blocks}

-- n blocks hold f bytes, the byte 80 and the length, and are the fewest that do
pub record Room (f n : ℕ) : Type 0 where
  pub room : f + 9 ≤ 64 * n
  pub near : 64 * n ≤ f + 72
  pub two : n ≤ 2

rooms : (f : ℕ) (b : Bool) → leb f 55 ≡ b → f ≤ 63 → Room f (pick b 1 2)
rooms f true e h = let a = leb-true f 55 e in record { room = omega arith; near = omega arith; two = omega arith }
rooms f false e h = let a = leb-false f 55 e in record { room = omega arith; near = omega arith; two = omega arith }

pub tail-room : (f : ℕ) → f ≤ 63 → Room f (tail_blocks f)
tail-room f h = rooms f (leb f 55) refl h

-- there is one at least
pub tail-some : (f : ℕ) → 1 ≤ tail_blocks f
tail-some f = by (leb f 55)
  where
    by : (b : Bool) → 1 ≤ pick b 1 2
    by true = omega arith
    by false = omega arith

pub bytes64-length : (x : ℕ) → length (bytes64 x) ≡ 8
unfolding bytes64
bytes64-length x = refl

-- three pieces stored one after the other, the second up to `end`
pub tail-stored : (z p s q : List ℕ) (f end : ℕ) → f ≤ end → end + 8 ≤ length z → f ≤ length p → end - f ≤ length s → length q ≡ 8
    → take (end + 8) (paste (paste (paste z 0 p f) f s (end - f)) end q 8) ≡ take f p ++ take (end - f) s ++ q
tail-stored z p s q f end fe ez fp es lq =
    let a = length-paste z 0 p f (omega arith) fp in
    let b = length-paste (paste z 0 p f) f s (end - f) (omega arith) es in
    let m : end ≡ f + (end - f) = omega arith in
    let o : f ≡ 0 + f = omega arith in
    let x : take f (paste z 0 p f) ≡ take f p =
    ap (λ (n : ℕ). take n (paste z 0 p f)) o ∙ take-paste z 0 p f (omega arith) fp
    in
    let y : take end (paste (paste z 0 p f) f s (end - f)) ≡ take f p ++ take (end - f) s =
    ap (λ (n : ℕ). take n (paste (paste z 0 p f) f s (end - f))) m
    ∙ take-paste (paste z 0 p f) f s (end - f) (omega arith) es
    ∙ ap (λ (l : List ℕ). l ++ take (end - f) s) x
    in
    take-paste (paste (paste z 0 p f) f s (end - f)) end q 8 (omega arith) (omega arith)
    ∙ ap₂ (λ (l r : List ℕ). l ++ r) y (take_all 8 q (omega arith))

pub digest-length : (h : Regs) → length (digest_of h) ≡ 20
unfolding digest_of
digest-length h = refl
