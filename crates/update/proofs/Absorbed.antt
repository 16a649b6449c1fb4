-- What a hasher has after an update that is not refused: its flags, its sizes, its count, and that it is well formed. Assumes nothing.
use mathlib.Core.Path.{◌≡◌, ap, ◌∙◌}
use mathlib.Core.Bool.{true}
use mathlib.Core.List.{List}
use Prim.Native.Nat.{ℕ, ◌+◌, ◌-◌, ◌/◌, ◌%◌, ◌≤◌}
use native.Mathlib.Omega.{arith}
use lib.ListN.{length, replicate, length-append, length-replicate}
use Rattle.loan.specs.Loan.{Loan}
use Rattle.loan.proofs.Loans.{loan-accepted, tables-good}
use Rattle.stream.proofs.Folded.{folded-mark, folded-blocks}
use Rattle.hasher.specs.Hasher.{well_formed, taken, chain_of}
use Rattle.hasher.specs.declared.Hasher.{Hasher}
use Rattle.hasher.proofs.Formed.{Formed, formed, at-formed}
use Rattle.absorb.specs.Absorb.{stream_of, rest_of, absorbed}
use Rattle.absorb.proofs.Moves.{rest-length, stream-long, chain_after, absorbed-is}
use Rattle.update.proofs.Taken.{Taken}

module _ (h : Hasher) (bytes : List ℕ) (l : Loan) where
  pub flags-after : (absorbed h bytes l).flags ≡ h.flags
  flags-after = rw (absorbed-is h bytes l)

  pub words-after : length (absorbed h bytes l).words ≡ 5
  words-after = rw (absorbed-is h bytes l)

  pub pending-after : length (absorbed h bytes l).pending ≡ 64
  pending-after =
      let r = rest_of (stream_of h bytes) in
      let z : ℕ = 0 in
      rw (absorbed-is h bytes l)
      (omega (arith, length-append r (replicate (64 - length r) 0), length-replicate (64 - length r) z, rest-length (stream_of h bytes)))

  pub fill-after : length h.pending ≡ 64 → h.fill ≤ 63 → (absorbed h bytes l).fill ≡ (h.fill + length bytes) % 64
  fill-after long below =
      rw (absorbed-is h bytes l) (rest-length (stream_of h bytes) ∙ ap (λ (n : ℕ). n % 64) (stream-long h.pending bytes h.fill long below))

  module _ (long : length h.pending ≡ 64) (a : Taken h bytes l) where
    sure : Formed h
    sure = formed h a.well

    -- the blocks and the rest of the stream are all its bytes
    counted : (chain_after h bytes l).blocks ≡ h.blocks + (h.fill + length bytes) / 64
    counted =
        folded-blocks h.flags l (chain_of h) (stream_of h bytes)
        ∙ ap (λ (n : ℕ). h.blocks + n / 64) (stream-long h.pending bytes h.fill long sure.fill-le)

    pub taken-after : taken (absorbed h bytes l) ≡ taken h + length bytes
    taken-after =
        let n = stream-long h.pending bytes h.fill long sure.fill-le in
        rw (absorbed-is h bytes l) (omega (arith, rest-length (stream_of h bytes), counted))

    pub formed-after : well_formed (absorbed h bytes l) ≡ true
    formed-after =
        let s = stream_of h bytes in
        let fits = a.fits in
        let n = stream-long h.pending bytes h.fill long sure.fill-le in
        rw (absorbed-is h bytes l)
        (at-formed h.flags (chain_after h bytes l) (rest_of s) (omega (arith, rest-length s)) (omega (arith, counted))
        (folded-mark h.flags l (chain_of h) s (λ some. (tables-good h.flags l.tables ((loan-accepted h.flags l _ a.loan).good (omega (arith, n)))).1) sure.mark-fits))
