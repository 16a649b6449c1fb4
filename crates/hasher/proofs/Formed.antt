-- What a well-formed hasher has, and a hasher that is well formed. Assumes nothing.
use mathlib.Core.Path.{◌≡◌}
use mathlib.Core.Bool.{true}
use mathlib.Core.List.{List}
use Prim.Native.Nat.{ℕ, ◌-◌, ◌≤◌}
use borrow.Author.Tests.{leb-true, le-leb}
use lib.Dec.{leb}
use lib.ListN.{length, drop, replicate}
use lib.Seq.{drop-append_seam}
use Rattle.word.proofs.Tests.{both_true}
use Rattle.flags.specs.declared.Flags.{Flags}
use Rattle.stream.specs.Fold.{mark_fits}
use Rattle.stream.specs.declared.Chain.{Chain}
use Rattle.stream.proofs.MarkRight.{MarkRight}
use Rattle.hasher.specs.Hasher.{all_zero, most_blocks, well_formed, hasher_at}
use Rattle.hasher.specs.declared.Hasher.{Hasher}
use Rattle.hasher.proofs.Zeros.{zeros-are}

pub record Formed (h : Hasher) : Type 0 where
  pub fill-le : h.fill ≤ 63
  pub blocks-le : h.blocks ≤ most_blocks
  pub zeros : all_zero (drop h.fill h.pending) ≡ true
  pub mark-fits : mark_fits h.flags.detect h.mark h.first h.blocks ≡ true

pub formed : (h : Hasher) → well_formed h ≡ true → Formed h
unfolding well_formed
formed h e =
    let p = both_true (leb h.fill 63) _ e in
    let q = both_true (leb h.blocks most_blocks) _ p.1 in
    let r = both_true (all_zero (drop h.fill h.pending)) _ q.1 in
    record { fill-le = leb-true _ _ p.0; blocks-le = leb-true _ _ q.0; zeros = r.0; mark-fits = r.1 }

-- one that has come to a chain whose blocks are in range, with fewer bytes than a block left
pub at-formed : (f : Flags) (c : Chain) (rest : List ℕ) → length rest ≤ 63 → c.blocks ≤ most_blocks → MarkRight f.detect c
    → well_formed (hasher_at f c rest) ≡ true
unfolding well_formed
at-formed f c rest l b m =
    rw (le-leb (length rest) 63 l, le-leb c.blocks most_blocks b, drop-append_seam rest (replicate (64 - length rest) 0), zeros-are (64 - length rest)) m
