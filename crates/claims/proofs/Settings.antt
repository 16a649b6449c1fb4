-- One hasher in two masks settings, with a loan for each: where the loans are refused alike and lead to the same chain, every call gives
-- the same answer, and hands back the same hasher up to its setting. Assumes nothing.
use mathlib.Core.Path.{◌≡◌, refl}
use mathlib.Core.Bool.{Bool, true, false}
use mathlib.Core.List.{List}
use Prim.Native.Nat.{ℕ}
use lib.ListN.{length}
use Rattle.std.specs.Prelude.{is_ok}
use Rattle.word.specs.Choice.{pick}
use Rattle.verdict.specs.Verdict.{digest_size}
use Rattle.fips.specs.Fips.{padded}
use Rattle.fips.specs.Tail.{tail_blocks, tail_of}
use Rattle.flags.specs.Flags.{with_masks}
use Rattle.flags.specs.declared.Flags.{Flags}
use Rattle.flags.specs.declared.Masks.{Masks}
use Rattle.loan.specs.Loan.{Loan, loan_refusal}
use Rattle.stream.specs.Fold.{first_chain, folded}
use Rattle.stream.specs.declared.Chain.{Chain}
use Rattle.hasher.specs.Hasher.{well_formed, taken, chain_of, fresh_of}
use Rattle.hasher.specs.declared.Hasher.{Hasher}
use Rattle.absorb.specs.Absorb.{stream_of, advanced, absorbed}
use Rattle.update.specs.Update.{blocks_filled, update_refusal, updated}
use Rattle.finish.specs.Finish.{finish_refusal, last_chain, finished, finished_reset, written_out}
use Rattle.one_shot.specs.Whole.{blocks_of, whole_refusal, whole_chain, whole_of}
use Rattle.claims.specs.Settings.{set_masks}

set-picked : (b : Bool) (x y : Hasher) (masks : Masks) → set_masks (pick b x y) masks ≡ pick b (set_masks x masks) (set_masks y masks)
set-picked true x y masks = refl
set-picked false x y masks = refl

-- In the setting a the loan l, for so many blocks, is refused as k is in the setting b, and the stream xs leads from c to the same chain.
pub record Alike (a b : Masks) (l k : Loan) (f : Flags) (blocks : ℕ) (c : Chain) (xs : List ℕ) : Type 0 where
  pub loans : loan_refusal (with_masks f a) l blocks ≡ loan_refusal (with_masks f b) k blocks
  pub folds : folded (with_masks f a) l c xs ≡ folded (with_masks f b) k c xs

module _ (a b : Masks) (l k : Loan) where
  module _ (h : Hasher) (bytes : List ℕ) (e : Alike a b l k h.flags (blocks_filled h (length bytes)) (chain_of h) (stream_of h bytes)) where
    update_refusal_lem : update_refusal (set_masks h a) bytes l ≡ update_refusal (set_masks h b) bytes k
    unfolding update_refusal well_formed
    update_refusal_lem = rw e.loans

    update-hasher : absorbed (set_masks h a) bytes l ≡ set_masks (absorbed (set_masks h b) bytes k) a
    unfolding absorbed advanced
    update-hasher = rw e.folds

    pub update_alike : updated (set_masks h a) bytes l
        ≡ record { refusal = (updated (set_masks h b) bytes k).refusal; hasher = set_masks (updated (set_masks h b) bytes k).hasher a }
    unfolding updated
    update_alike =
        let p = is_ok (update_refusal (set_masks h b) bytes k) in
        rw (update_refusal_lem, update-hasher, set-picked p (absorbed (set_masks h b) bytes k) (set_masks h b) a)

  module _ (h : Hasher) (e : Alike a b l k h.flags (tail_blocks h.fill) (chain_of h) (tail_of h.pending h.fill (taken h))) where
    finish_refusal_lem : (size : ℕ) → finish_refusal (set_masks h a) size l ≡ finish_refusal (set_masks h b) size k
    unfolding finish_refusal well_formed
    finish_refusal_lem size = rw e.loans

    last-alike : last_chain (set_masks h a) l ≡ last_chain (set_masks h b) k
    unfolding last_chain
    last-alike = e.folds

    pub finish-alike : finished (set_masks h a) l
        ≡ record { outcome = (finished (set_masks h b) k).outcome; digest = (finished (set_masks h b) k).digest; first = (finished (set_masks h b) k).first; hasher = set_masks h a }
    unfolding finished
    finish-alike = rw (finish_refusal_lem digest_size, last-alike)

    pub finish-reset-alike : (size : ℕ) → finished_reset (set_masks h a) size l
        ≡ record { outcome = (finished_reset (set_masks h b) size k).outcome; first = (finished_reset (set_masks h b) size k).first; hasher = set_masks (finished_reset (set_masks h b) size k).hasher a }
    unfolding finished_reset
    finish-reset-alike size =
        let p = is_ok (finish_refusal (set_masks h b) size k) in
        rw (finish_refusal_lem size, last-alike, set-picked p (fresh_of (set_masks h b).flags) (set_masks h b) a)

    pub output-alike : (out : List ℕ) → written_out (set_masks h a) out l ≡ written_out (set_masks h b) out k
    unfolding written_out
    output-alike out = rw (finish_refusal_lem (length out), last-alike)

  module _ (f : Flags) (bytes : List ℕ) (e : Alike a b l k f (blocks_of (length bytes)) first_chain (padded bytes)) where
    pub whole-refusal-alike : whole_refusal (with_masks f a) (length bytes) l ≡ whole_refusal (with_masks f b) (length bytes) k
    unfolding whole_refusal
    whole-refusal-alike = rw e.loans

    pub whole-alike : whole_of (with_masks f a) bytes l ≡ whole_of (with_masks f b) bytes k
    unfolding whole_of whole_chain
    whole-alike = rw (whole-refusal-alike, e.folds)
