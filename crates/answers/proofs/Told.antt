-- What is told of a finish loses nothing of its account: beside ok no first mark is told, and there is none. Assumes nothing.
use mathlib.Core.Path.{◌≡◌, refl, sym, subst}
use mathlib.Core.Bool.{Bool, true, false}
use Prim.Native.Nat.{ℕ}
use Rattle.std.specs.Prelude.{Ok, Err, unwrap_or}
use Rattle.refusal.specs.Refusal.{Checked}
use Rattle.verdict.specs.Verdict.{verdict_of}
use Rattle.loan.specs.Loan.{Loan}
use Rattle.fips.specs.Tail.{tail_blocks, tail_of}
use Rattle.fips.proofs.Tails.{tail-some}
use Rattle.loan.proofs.Loans.{loan-accepted, tables-good}
use Rattle.stream.specs.Fold.{nowhere, mark_fits}
use Rattle.stream.specs.declared.FirstMark.{FirstMark}
use Rattle.stream.specs.declared.Chain.{Chain}
use Rattle.stream.proofs.MarkRight.{MarkRight, fits-none}
use Rattle.stream.proofs.Folded.{folded-mark}
use Rattle.hasher.specs.Hasher.{taken, chain_of}
use Rattle.hasher.specs.declared.Hasher.{Hasher}
use Rattle.hasher.proofs.Formed.{formed}
use Rattle.finish.specs.Finish.{Outcome, last_chain, finish_refusal, outcome_of, first_told, first_or}
use Rattle.finish.proofs.Finishing.{finish-finishing}
use Rattle.answers.specs.Answers.{told_of, told_outcome, told_first}

-- a chain without a mark has no first mark
abbrev pub Unmarked : Chain → Type 0
Unmarked c = c.mark ≡ false → c.first ≡ nowhere

-- the outcome that is told is that of the account,
pub told-outcome : (o : Outcome) (first : FirstMark) → told_outcome (told_of o first) ≡ o
told-outcome (Ok v) first = refl
told-outcome (Err r) first = refl

-- and the first mark too
pub told-first : (r : Checked) (c : Chain) (m : Bool) → (r ≡ Ok tt → Unmarked c) → told_first (told_of (outcome_of r c m) (first_or r c)) ≡ first_or r c
told-first (Err r) c m u = refl
told-first (Ok tt) c m u = by c.mark m (u refl)
  where
    by : (b m : Bool) → (b ≡ false → c.first ≡ nowhere) → unwrap_or (first_told (verdict_of b m) c.first) nowhere ≡ c.first
    by true true u = refl
    by true false u = refl
    by false m u = sym (u refl)

-- a mark that fits where it was made
pub right-unmarked : (detect : Bool) (c : Chain) → MarkRight detect c → Unmarked c
right-unmarked detect c right e = fits-none detect c.first c.blocks (subst (λ (b : Bool). mark_fits detect b c.first c.blocks ≡ true) e right)

-- so it is after the last blocks of a hasher whose finish is not refused
pub last-unmarked : (h : Hasher) (size : ℕ) (l : Loan) → finish_refusal h size l ≡ Ok tt → Unmarked (last_chain h l)
unfolding last_chain
last-unmarked h size l e =
    let f = finish-finishing h size l e in
    right-unmarked h.flags.detect (last_chain h l)
    (folded-mark h.flags l (chain_of h) (tail_of h.pending h.fill (taken h)) (λ some. (tables-good h.flags l.tables ((loan-accepted h.flags l (tail_blocks h.fill) f.loan).good (tail-some h.fill))).1) (formed h f.well).mark-fits)
