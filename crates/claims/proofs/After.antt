-- What a hasher has after an update that is not refused. Assumes nothing.
use mathlib.Core.Path.{◌≡◌, ◌∙◌}
use mathlib.Core.Bool.{true, ◌||◌}
use mathlib.Core.List.{List}
use Prim.Native.Nat.{ℕ}
use Rattle.refusal.proofs.Passed.{of_refusal_lem}
use Rattle.flags.specs.declared.Flags.{Flags}
use Rattle.loan.specs.Loan.{Loan, looked_at}
use Rattle.stream.specs.Fold.{folded}
use Rattle.stream.specs.declared.Chain.{Chain}
use Rattle.stream.proofs.Folded.{folded-is}
use Rattle.hasher.specs.declared.Hasher.{Hasher}
use Rattle.absorb.specs.Absorb.{absorbed}
use Rattle.update.specs.Update.{update_refusal, updated}
use Rattle.update.proofs.Taken.{Taken, refusal_is, update-taken}
use Rattle.update.proofs.Absorbed.{words-after, pending-after}
use Rattle.claims.specs.Sound.{Sized}
use Rattle.claims.specs.Marked.{whole_blocks, words_at, marked_in}
use Rattle.claims.proofs.Blocks.{chained-words, chained-mark, first-kept}
use Rattle.claims.proofs.Below.{any_below}

module _ (f : Flags) (l : Loan) (c : Chain) (xs : List ℕ) where
  -- the words after a call: those that the next block would meet
  pub words-then : (folded f l c xs).words ≡ words_at f l c.words xs (whole_blocks xs)
  words-then = rw (folded-is f l c xs) (chained-words f l.tables (whole_blocks xs) c xs (looked_at f l.masks))

  -- the mark after a call: what it was, or with detection on that of one of the call's blocks
  pub mark-then : (folded f l c xs).mark ≡ (c.mark || any_below (marked_in f l c.words xs) (whole_blocks xs))
  mark-then = rw (folded-is f l c xs) (chained-mark f l.tables (whole_blocks xs) c xs (looked_at f l.masks))

  -- the numbers of a mark that was there: they stay
  pub fold-kept : c.mark ≡ true → (folded f l c xs).first ≡ c.first
  fold-kept e = rw (folded-is f l c xs) (first-kept f l.tables c xs (looked_at f l.masks) e (whole_blocks xs))

pub sized-after : (h : Hasher) (bytes : List ℕ) (l : Loan) → Sized (absorbed h bytes l)
sized-after h bytes l = record { words_size = words-after h bytes l; pending-size = pending-after h bytes l }

-- what holds of the hasher, and of the one after an update that is not refused, holds of the one that an update hands back
pub of-updated : (P : Hasher → Type 0) (h : Hasher) (bytes : List ℕ) (l : Loan)
    → P h → (Taken h bytes l → P (absorbed h bytes l)) → P (updated h bytes l).hasher
unfolding updated
of-updated P h bytes l p q =
    of_refusal_lem P (update_refusal h bytes l) (absorbed h bytes l) h (λ e. q (update-taken h bytes l (refusal_is h bytes l ∙ e))) (λ e. p)
