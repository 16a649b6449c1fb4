-- An update of no bytes changes nothing. Assumes nothing.
use mathlib.Core.Path.{◌≡◌, ◌∙◌}
use mathlib.Core.Bool.{true}
use mathlib.Core.List.{List, [], append-nil}
use Prim.Native.Nat.{ℕ, ◌-◌, ◌/◌, ◌≤◌}
use native.Mathlib.Omega.{arith}
use lib.ListN.{length, take, drop, length-drop, take-append-drop}
use lib.Seq.{length-take-le}
use Rattle.loan.specs.Loan.{Loan}
use Rattle.stream.proofs.Folded.{folded-none}
use Rattle.hasher.specs.Hasher.{all_zero, well_formed, chain_of, zeroed}
use Rattle.hasher.specs.declared.Hasher.{Hasher}
use Rattle.hasher.proofs.Zeros.{zero-all}
use Rattle.hasher.proofs.Formed.{formed}
use Rattle.hasher.proofs.Words.{five-is}
use Rattle.absorb.specs.Absorb.{absorbed}
use Rattle.absorb.proofs.Moves.{absorbed-is}
use Rattle.claims.specs.Sound.{Sized}

-- the pending bytes with the zeros behind them
zeros-again : (p : List ℕ) (n : ℕ) → length p ≡ 64 → n ≤ 63 → all_zero (drop n p) ≡ true → zeroed (take n p) ≡ p
zeros-again p n long below z =
    let e : 64 - length (take n p) ≡ length (drop n p) = omega (arith, length-take-le n p (omega arith), length-drop n p) in
    rw (e, ← zero-all (drop n p) z) (take-append-drop n p)

pub absorb-none : (h : Hasher) → Sized h → well_formed h ≡ true → (l : Loan) → absorbed h [] l ≡ h
absorb-none h size well l =
    let s = formed h well in
    let below = s.fill-le in
    let long = size.pending-size in
    let n = length-take-le h.fill h.pending (omega arith) in
    let few : length (take h.fill h.pending) / 64 ≡ 0 = omega arith in
    absorbed-is h [] l
    ∙ rw (
      append-nil (take h.fill h.pending),
      folded-none h.flags l (chain_of h) (take h.fill h.pending) (omega arith),
      few,
      zeros-again h.pending h.fill long below s.zeros,
      five-is h.words size.words_size,
      n,
    )
