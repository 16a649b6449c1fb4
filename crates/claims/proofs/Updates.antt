-- Two updates in a row, neither refused, make of a hasher what one does. Assumes nothing.
use mathlib.Core.Path.{◌≡◌, sym, ap, ◌∙◌}
use mathlib.Core.Bool.{true}
use mathlib.Core.List.{List, ◌++◌, append_assoc}
use Prim.Native.Nat.{ℕ, ◌+◌, ◌*◌, ◌/◌}
use native.Mathlib.Omega.{arith}
use lib.ListN.{length, take, drop, length-append}
use lib.Seq.{drop-drop, drop-append-le, take-append_seam}
use Rattle.flags.specs.Flags.{uses_masks}
use Rattle.flags.specs.declared.Flags.{Flags}
use Rattle.loan.specs.Loan.{Tables, Loan, lend}
use Rattle.stream.specs.Fold.{folded}
use Rattle.stream.specs.declared.Chain.{Chain}
use Rattle.hasher.specs.Hasher.{chain_of, zeroed, hasher_at}
use Rattle.hasher.specs.declared.Hasher.{Hasher}
use Rattle.absorb.specs.Absorb.{stream_of, rest_of, absorbed}
use Rattle.absorb.proofs.Moves.{rest-length, chain_after, absorbed-is}
use Rattle.one_shot.proofs.Padded.{folded-lent}

-- a stream that goes on: its whole blocks, and what is left of it
module _ (s e : List ℕ) where
  blocks-join : length (s ++ e) / 64 ≡ length s / 64 + length (rest_of s ++ e) / 64
  blocks-join = omega (arith, length-append s e, length-append (rest_of s) e, rest-length s)

  rest-join : rest_of (s ++ e) ≡ rest_of (rest_of s ++ e)
  rest-join =
      let n = length s / 64 in
      let m = length (rest_of s ++ e) / 64 in
      let q : 64 * (n + m) ≡ 64 * n + 64 * m = omega arith in
      rw (blocks-join, q) (sym (drop-drop (64 * m) (64 * n) (s ++ e)) ∙ ap (drop (64 * m)) (drop-append-le (64 * n) s e (omega arith)))

-- an update of a hasher that an update gave
absorbed-at : (f : Flags) (c : Chain) (rest e : List ℕ) (l : Loan)
    → absorbed (hasher_at f c rest) e l ≡ hasher_at f (folded f l c (rest ++ e)) (rest_of (rest ++ e))
absorbed-at f c rest e l =
    let s : take (length rest) (zeroed rest) ≡ rest = take-append_seam rest _ in
    absorbed-is (hasher_at f c rest) e l ∙ rw s

pub absorb-cut : (h : Hasher) (t : Tables) (d e ms ns : List ℕ) → (uses_masks h.flags ≡ true → length ms ≡ length (stream_of h d) / 64)
    → absorbed h (d ++ e) (lend t (ms ++ ns)) ≡ absorbed (absorbed h d (lend t ms)) e (lend t ns)
absorb-cut h t d e ms ns counts =
    let s = stream_of h d in
    absorbed-is h (d ++ e) (lend t (ms ++ ns))
    ∙ rw (
      ← append_assoc (take h.fill h.pending) d e,
      folded-lent h.flags t (chain_of h) s e ms ns counts,
      rest-join s e,
      absorbed-is h d (lend t ms),
      absorbed-at h.flags (chain_after h d (lend t ms)) (rest_of s) e (lend t ns),
    )
