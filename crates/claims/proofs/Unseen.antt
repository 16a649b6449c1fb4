-- What a call does not look at changes nothing: the loan with detection off, masks and conditions where none are asked for; and masks off
-- is every bit for every block. Assumes nothing.
use mathlib.Core.Path.{◌≡◌, refl, sym}
use mathlib.Core.Bool.{Bool, true, false, not, ◌&&◌, and-false}
use mathlib.Core.List.{List, []}
use Prim.Native.Nat.{ℕ, zero, suc, ◌/◌}
use borrow.Author.Tests.{eq-eqb}
use lib.Dec.{eqb}
use lib.ListN.{length, take, drop, replicate, length-replicate}
use Rattle.word.specs.Choice.{pick}
use Rattle.word.proofs.Tests.{unless-true}
use Rattle.fips.specs.Fips.{padded}
use Rattle.fips.specs.Tail.{tail_blocks, tail_of}
use Rattle.flags.specs.Flags.{uses_masks, uses_conditions, with_masks}
use Rattle.flags.specs.declared.Flags.{Flags}
use Rattle.flags.specs.declared.Masks.TheVariants.{All, Lent}
use Rattle.loan.specs.Loan.{Tables, Loan, lend, loan_of, loan_refusal}
use Rattle.loan.proofs.Loans.{one-setting}
use Rattle.stream.specs.Fold.{all_bits, first_chain, chained, folded}
use Rattle.stream.specs.declared.Chain.{Chain}
use Rattle.hasher.specs.Hasher.{taken, chain_of}
use Rattle.hasher.specs.declared.Hasher.{Hasher}
use Rattle.absorb.specs.Absorb.{stream_of, advanced, absorbed}
use Rattle.update.specs.Update.{blocks_filled, update_refusal, updated}
use Rattle.finish.specs.Finish.{finish_refusal, last_chain, finished, finished_reset, written_out}
use Rattle.one_shot.specs.Whole.{blocks_of, whole_refusal, whole_chain, whole_of}
use Rattle.claims.specs.Settings.{masks_off, masks_on, every_bit, every_block, every_last}
use Rattle.claims.proofs.Settings.{Alike, update_alike, finish-alike, finish-reset-alike, output-alike, whole-alike}

-- With detection off nothing of the loan is looked at.
module _ (h : Hasher) (off : h.flags.detect ≡ false) (l other : Loan) where
  pub update-undetected : (bytes : List ℕ) → updated h bytes l ≡ updated h bytes other
  unfolding updated update_refusal loan_refusal absorbed advanced folded
  update-undetected bytes = rw off

  pub finish-undetected : finished h l ≡ finished h other
  unfolding finished finish_refusal loan_refusal last_chain folded
  finish-undetected = rw off

  pub finish-reset-undetected : (size : ℕ) → finished_reset h size l ≡ finished_reset h size other
  unfolding finished_reset finish_refusal loan_refusal last_chain folded
  finish-reset-undetected size = rw off

  pub output-undetected : (out : List ℕ) → written_out h out l ≡ written_out h out other
  unfolding written_out finish_refusal loan_refusal last_chain folded
  output-undetected out = rw off

pub whole-undetected : (f : Flags) → f.detect ≡ false → (bytes : List ℕ) (l other : Loan) → whole_of f bytes l ≡ whole_of f bytes other
unfolding whole_of whole_refusal loan_refusal whole_chain folded
whole-undetected f off bytes l other = rw off

-- Where the flags ask for no masks, those lent are not looked at.
module _ (h : Hasher) (off : uses_masks h.flags ≡ false) (t : Tables) (masks others : List ℕ) where
  pub update-unmasked : (bytes : List ℕ) → updated h bytes (lend t masks) ≡ updated h bytes (lend t others)
  unfolding updated update_refusal loan_refusal absorbed advanced folded
  update-unmasked bytes = rw off

  pub finish-unmasked : finished h (lend t masks) ≡ finished h (lend t others)
  unfolding finished finish_refusal loan_refusal last_chain folded
  finish-unmasked = rw off

  pub finish-reset-unmasked : (size : ℕ) → finished_reset h size (lend t masks) ≡ finished_reset h size (lend t others)
  unfolding finished_reset finish_refusal loan_refusal last_chain folded
  finish-reset-unmasked size = rw off

  pub output-unmasked : (out : List ℕ) → written_out h out (lend t masks) ≡ written_out h out (lend t others)
  unfolding written_out finish_refusal loan_refusal last_chain folded
  output-unmasked out = rw off

pub whole-unmasked : (f : Flags) → uses_masks f ≡ false → (bytes : List ℕ) (t : Tables) (masks others : List ℕ)
    → whole_of f bytes (lend t masks) ≡ whole_of f bytes (lend t others)
unfolding whole_of whole_refusal loan_refusal whole_chain folded
whole-unmasked f off bytes t masks others = rw off

-- With conditions, lent masks are not looked at: the settings exclude each other.
pub conditions-no-masks : (f : Flags) → uses_conditions f ≡ true → uses_masks f ≡ false
conditions-no-masks f on = unless-true (uses_masks f) (one-setting f on)

-- Where the flags ask for no conditions, those lent are not looked at: in the other two settings, and with detection off.
module _ (h : Hasher) (off : uses_conditions h.flags ≡ false) (vectors conditions others masks : List ℕ) where
  pub update-unconditioned : (bytes : List ℕ) → updated h bytes (loan_of vectors conditions masks) ≡ updated h bytes (loan_of vectors others masks)
  unfolding updated update_refusal loan_refusal absorbed advanced folded
  update-unconditioned bytes = rw off

  pub finish-unconditioned : finished h (loan_of vectors conditions masks) ≡ finished h (loan_of vectors others masks)
  unfolding finished finish_refusal loan_refusal last_chain folded
  finish-unconditioned = rw off

  pub finish-reset-unconditioned : (size : ℕ) → finished_reset h size (loan_of vectors conditions masks) ≡ finished_reset h size (loan_of vectors others masks)
  unfolding finished_reset finish_refusal loan_refusal last_chain folded
  finish-reset-unconditioned size = rw off

  pub output-unconditioned : (out : List ℕ) → written_out h out (loan_of vectors conditions masks) ≡ written_out h out (loan_of vectors others masks)
  unfolding written_out finish_refusal loan_refusal last_chain folded
  output-unconditioned out = rw off

pub whole-unconditioned : (f : Flags) → uses_conditions f ≡ false → (bytes vectors conditions others masks : List ℕ)
    → whole_of f bytes (loan_of vectors conditions masks) ≡ whole_of f bytes (loan_of vectors others masks)
unfolding whole_of whole_refusal loan_refusal whole_chain folded
whole-unconditioned f off bytes vectors conditions others masks = rw off

-- masks that have every bit, any number of them or none, say what no masks say
chained-bits : (step : Chain → List ℕ → ℕ → Chain) (n k : ℕ) (c : Chain) (xs : List ℕ) → chained step n c xs (replicate k all_bits) ≡ chained step n c xs []
unfolding chained
chained-bits step zero k c xs = refl
chained-bits step (suc n) zero c xs = refl
chained-bits step (suc n) (suc k) c xs = chained-bits step n k (step c (take 64 xs) all_bits) (drop 64 xs)

by_bits : (b : Bool) (step : Chain → List ℕ → ℕ → Chain) (n k : ℕ) (c : Chain) (xs : List ℕ)
    → chained step n c xs [] ≡ chained step n c xs (pick b (replicate k all_bits) [])
by_bits true step n k c xs = sym (chained-bits step n k c xs)
by_bits false step n k c xs = refl

-- the chain with masks off is that with masks of every bit
fold-bits : (f : Flags) (l : Loan) (c : Chain) (xs : List ℕ) (k : ℕ) → folded (with_masks f All) l c xs ≡ folded (with_masks f Lent) (every_bit k l) c xs
unfolding folded
fold-bits f l c xs k =
    rw (and-false f.detect) (by_bits (f.detect && true) _ (length xs / 64) k c xs)

-- as many masks as there are blocks are not a wrong number, and none are where none are asked for
counts-right : (on : Bool) (k n : ℕ) → ((on && false) && not (eqb k n)) ≡ ((on && true) && not (eqb (length (replicate n all_bits)) n))
counts-right on k n =
    rw (and-false on, eq-eqb _ n (length-replicate n all_bits), and-false (on && true))

-- so what is refused of a loan is the same
loan-bits : (f : Flags) (l : Loan) (n : ℕ) → loan_refusal (with_masks f All) l n ≡ loan_refusal (with_masks f Lent) (every_bit n l) n
unfolding loan_refusal
loan-bits f l n = rw (counts-right f.detect (length l.masks) n)

-- in every call and whatever the blocks
bits-alike : (l : Loan) (f : Flags) (n : ℕ) (c : Chain) (xs : List ℕ) → Alike All Lent l (every_bit n l) f n c xs
bits-alike l f n c xs = record { loans = loan-bits f l n; folds = fold-bits f l c xs n }

-- Masks off is every bit for every block: the answers are those with masks on and a mask of every bit lent for each block of the call.
module _ (h : Hasher) (l : Loan) where
  pub update-every-bit : (bytes : List ℕ) → updated (masks_off h) bytes l
      ≡ record { refusal = (updated (masks_on h) bytes (every_block h bytes l)).refusal; hasher = masks_off (updated (masks_on h) bytes (every_block h bytes l)).hasher }
  update-every-bit bytes =
      update_alike All Lent l (every_block h bytes l) h bytes (bits-alike l h.flags (blocks_filled h (length bytes)) (chain_of h) (stream_of h bytes))

  last-bits : Alike All Lent l (every_last h l) h.flags (tail_blocks h.fill) (chain_of h) (tail_of h.pending h.fill (taken h))
  last-bits = bits-alike l h.flags (tail_blocks h.fill) (chain_of h) (tail_of h.pending h.fill (taken h))

  pub finish-every-bit : finished (masks_off h) l
      ≡ record { outcome = (finished (masks_on h) (every_last h l)).outcome; digest = (finished (masks_on h) (every_last h l)).digest; first = (finished (masks_on h) (every_last h l)).first; hasher = masks_off h }
  finish-every-bit = finish-alike All Lent l (every_last h l) h last-bits

  pub finish-reset-every-bit : (size : ℕ) → finished_reset (masks_off h) size l
      ≡ record { outcome = (finished_reset (masks_on h) size (every_last h l)).outcome; first = (finished_reset (masks_on h) size (every_last h l)).first; hasher = masks_off (finished_reset (masks_on h) size (every_last h l)).hasher }
  finish-reset-every-bit = finish-reset-alike All Lent l (every_last h l) h last-bits

  pub output-every-bit : (out : List ℕ) → written_out (masks_off h) out l ≡ written_out (masks_on h) out (every_last h l)
  output-every-bit = output-alike All Lent l (every_last h l) h last-bits

pub whole-every-bit : (f : Flags) (bytes : List ℕ) (l : Loan)
    → whole_of (with_masks f All) bytes l ≡ whole_of (with_masks f Lent) bytes (every_bit (blocks_of (length bytes)) l)
whole-every-bit f bytes l =
    let n = blocks_of (length bytes) in
    whole-alike All Lent l (every_bit n l) f bytes (bits-alike l f n first_chain (padded bytes))
