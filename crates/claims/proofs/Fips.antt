-- Demand 2, the digest: FIPS 180-4's for the whole message under every cut, or with the marked blocks compressed twice more. Assumes nothing.
use mathlib.Core.Path.{◌≡◌, ap, ◌∙◌}
use mathlib.Core.Bool.{Bool, true, false, ◌&&◌, and-true, and-false}
use mathlib.Core.List.{List}
use Prim.Native.Nat.{ℕ, ◌<◌}
use Rattle.finish.specs.Finish.{FinishAccount}
use Rattle.step.specs.declared.Regs.{Regs}
use Rattle.fips.specs.Fips.{padded, initial, digest_of, sha1}
use Rattle.flags.specs.declared.Flags.{Flags}
use Rattle.loan.specs.Loan.{Tables}
use Rattle.claims.specs.Pieces.{Piece, bytes_of, hashed, loan_of_all, block_masks, NoneRefused}
use Rattle.claims.specs.Marked.{marked_by, again_by, blocks_in, sha1_marked, marked_at, NoneMarked}
use Rattle.claims.proofs.Unmarked.{at_block, hash-plain, hash-same}
use Rattle.claims.proofs.Whole.{hashed-is}

module _ (f : Flags) (t : Tables) (ps : List Piece) (last : List ℕ) (ok : NoneRefused f t ps last) where
  digest-is : (hashed f t ps last).digest ≡ sha1_marked (again_by f t) (bytes_of ps) (block_masks f ps last)
  digest-is = ap (λ (r : FinishAccount). r.digest) (hashed-is f t ps last ok)

  -- the standard's digest, where no block is compressed again
  once : ((i : ℕ) → i < blocks_in (bytes_of ps) → at_block (again_by f t) (again_by f t) initial (padded (bytes_of ps)) (block_masks f ps last) i ≡ false)
      → (hashed f t ps last).digest ≡ sha1 (bytes_of ps)
  unfolding sha1
  once never = digest-is ∙ ap digest_of (hash-plain (again_by f t) _ initial (padded (bytes_of ps)) (block_masks f ps last) never)

  -- With detection off the digest is FIPS 180-4's.
  pub fips-undetected : f.detect ≡ false → (hashed f t ps last).digest ≡ sha1 (bytes_of ps)
  fips-undetected off = once (λ i l. rw off)

  -- With mitigation off it is, whatever is marked.
  pub fips-unmitigated : f.mitigate ≡ false → (hashed f t ps last).digest ≡ sha1 (bytes_of ps)
  fips-unmitigated off =
      once (λ i l.
      let marked = marked_at f (loan_of_all t ps last) (bytes_of ps) i in
      ap (λ (b : Bool). marked && b) off ∙ and-false marked)

  -- Where no block is marked it is.
  pub fips-unmarked : NoneMarked f (loan_of_all t ps last) (bytes_of ps) → (hashed f t ps last).digest ≡ sha1 (bytes_of ps)
  fips-unmarked none = once (λ i l. ap (λ (b : Bool). b && f.mitigate) (none i l))

  -- With mitigation on it is the digest by the fold in which each marked block is compressed twice more with the same block.
  pub marked-twice-more : f.mitigate ≡ true → (hashed f t ps last).digest ≡ sha1_marked (marked_by f t) (bytes_of ps) (block_masks f ps last)
  marked-twice-more on =
      let again : (h : Regs) (block : List ℕ) (mask : ℕ) → again_by f t h block mask ≡ marked_by f t h block mask =
      λ h block mask. rw on (and-true _)
      in
      digest-is ∙ ap digest_of (hash-same (again_by f t) (marked_by f t) again _ initial (padded (bytes_of ps)) (block_masks f ps last))
