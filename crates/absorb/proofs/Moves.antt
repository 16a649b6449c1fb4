-- How a hasher moves over a stream: less than a block, whole blocks and what follows them, and the pending bytes. Assumes nothing.
use mathlib.Core.Path.{◌≡◌, refl, sym, ap, ◌∙◌}
use mathlib.Core.Bool.{true}
use mathlib.Core.List.{List, ◌++◌, append_assoc, append-nil}
use Prim.Native.Nat.{ℕ, ◌+◌, ◌-◌, ◌*◌, ◌/◌, ◌%◌, ◌≤◌, ◌<◌}
use native.Mathlib.Omega.{arith}
use lib.ListN.{length, take, drop, replicate, length-append, length-drop, drop_of_length-le, take-append-drop}
use lib.Seq.{drop-drop, drop-append-add, length-take-le, take-length, paste}
use Rattle.octets.proofs.Zeros.{drop-replicate}
use Rattle.flags.specs.declared.Flags.{Flags}
use Rattle.loan.specs.Loan.{Loan, later}
use Rattle.stream.specs.Fold.{folded}
use Rattle.stream.specs.declared.Chain.{Chain}
use Rattle.stream.proofs.Folded.{folded-none, folded-join}
use Rattle.hasher.specs.Hasher.{all_zero, chain_of, zeroed, hasher_at}
use Rattle.hasher.specs.declared.Hasher.{Hasher}
use Rattle.hasher.proofs.Zeros.{zero-all}
use Rattle.absorb.specs.Absorb.{stream_of, rest_of, advanced, absorbed}

pub rest-length : (s : List ℕ) → length (rest_of s) ≡ length s % 64
rest-length s = simp length-drop (omega arith)

-- a stream of less than a block
pub advanced-none : (f : Flags) (l : Loan) (c : Chain) (s : List ℕ) → length s < 64 → advanced f l c s ≡ hasher_at f c s
unfolding advanced
advanced-none f l c s h =
    let n : length s / 64 ≡ 0 = omega arith in
    rw (folded-none f l c s h, n)

-- n whole blocks, and what follows them
pub advanced-join : (f : Flags) (l : Loan) (c : Chain) (n : ℕ) (xs ys : List ℕ) → length xs ≡ 64 * n
    → advanced f l c (xs ++ ys) ≡ advanced f (later n l) (folded f l c xs) ys
unfolding advanced
advanced-join f l c n xs ys h =
    let m = length ys / 64 in
    let e : length (xs ++ ys) / 64 ≡ n + m = omega (arith, length-append xs ys) in
    let b : 64 * (n + m) ≡ length xs + 64 * m = omega arith in
    rw (folded-join f l c n xs ys h, e, b, drop-append-add xs ys (64 * m))

-- the chain after an update
abbrev pub chain_after : Hasher → List ℕ → Loan → Chain
chain_after h bytes l = folded h.flags l (chain_of h) (stream_of h bytes)

-- what an update that is not refused makes of a hasher
pub absorbed-is : (h : Hasher) (bytes : List ℕ) (l : Loan) → absorbed h bytes l ≡ hasher_at h.flags (chain_after h bytes l) (rest_of (stream_of h bytes))
unfolding absorbed advanced
absorbed-is h bytes l = refl

-- what a copy into zeros holds
pub rest-stored : (xs : List ℕ) → paste (replicate 64 0) 0 xs (length xs) ≡ zeroed xs
rest-stored xs =
    let z : 0 + length xs ≡ length xs = omega arith in
    rw (z, take-length xs, drop-replicate (length xs) 64 0)

module _ (p d : List ℕ) (f : ℕ) (long : length p ≡ 64) (below : f ≤ 63) where
  front : length (take f p) ≡ f
  front = length-take-le f p (omega arith)

  pub stream-long : length (take f p ++ d) ≡ f + length d
  stream-long = length-append (take f p) d ∙ ap (λ (n : ℕ). n + length d) front

  -- the pending bytes with a piece that leaves room
  pub pend-more : all_zero (drop f p) ≡ true → f + length d < 64 → paste p f d (length d) ≡ zeroed (take f p ++ d)
  pend-more z r =
      let q : length (drop f p) - length d ≡ 64 - length (take f p ++ d) = omega (arith, length-drop f p, stream-long) in
      let e : drop (f + length d) p ≡ replicate (64 - length (take f p ++ d)) 0 =
      sym (drop-drop (length d) f p) ∙ rw (zero-all (drop f p) z, drop-replicate (length d) (length (drop f p)) 0, q)
      in
      rw (take-length d, e)

  -- with a piece that fills them: a block, and the rest of the piece after it
  abbrev pub filled : List ℕ
  filled = paste p f (take (64 - f) d) (length (take (64 - f) d))

  filled-is : 64 ≤ f + length d → filled ≡ take f p ++ take (64 - f) d
  filled-is r =
      let e : length p ≤ f + length (take (64 - f) d) = omega (arith, length-take-le (64 - f) d) in
      rw (take-length (take (64 - f) d), drop_of_length-le p e, append-nil)

  pub pend-block : 64 ≤ f + length d → length filled ≡ 64
  pend-block r = rw (filled-is r) (omega (arith, length-append (take f p) (take (64 - f) d), front, length-take-le (64 - f) d (omega arith)))

  pub pend-full : 64 ≤ f + length d → take f p ++ d ≡ filled ++ drop (64 - f) d
  pend-full r = rw (filled-is r, append_assoc, take-append-drop (64 - f) d)
