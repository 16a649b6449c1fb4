-- A whole message that is not refused: what is known of it, and of the hasher that has taken it. Assumes nothing.
use mathlib.Core.Path.{◌≡◌}
use mathlib.Core.Bool.{true}
use mathlib.Core.List.{List}
use Prim.Native.Nat.{ℕ, ◌/◌, ◌%◌, ◌≤◌}
use native.Mathlib.Omega.{arith}
use borrow.Author.Tests.{ltb-false, le-ltb}
use lib.Dec.{lit<}
use lib.ListN.{length}
use Rattle.std.specs.Prelude.{Err, Ok}
use Rattle.refusal.specs.declared.Refusal.TheVariants.{MessageLength}
use Rattle.refusal.proofs.Passed.{passed}
use Rattle.fips.specs.Fips.{most_bytes}
use Rattle.fips.proofs.Tails.{tail-some}
use Rattle.flags.specs.declared.Flags.{Flags}
use Rattle.conditions.specs.Good.{GoodConditions}
use Rattle.loan.specs.Loan.{Loan, VectorsPass, conditions_for, later, loan_refusal}
use Rattle.loan.proofs.Loans.{loan-accepted, tables-good, accepted-conditions}
use Rattle.stream.specs.Fold.{first_chain, folded}
use Rattle.stream.proofs.MarkRight.{none-fits}
use Rattle.stream.proofs.Folded.{folded-mark, folded-blocks}
use Rattle.hasher.specs.Hasher.{well_formed, fresh_of}
use Rattle.hasher.proofs.Formed.{at-formed}
use Rattle.hasher.proofs.Zeros.{zeros-are}
use Rattle.absorb.specs.Absorb.{rest_of, absorbed}
use Rattle.absorb.specs.Ready.{Ready}
use Rattle.absorb.proofs.Moves.{rest-length, absorbed-is}
use Rattle.finish.specs.Finish.{last_chain}
use Rattle.one_shot.specs.Whole.{blocks_of, whole_refusal, whole_chain}
use Rattle.one_shot.proofs.Padded.{last-chain-is}

pub record Whole (f : Flags) (n : ℕ) (l : Loan) : Type 0 where
  pub short : n ≤ most_bytes
  pub loan : loan_refusal f l (blocks_of n) ≡ Ok tt

module _ (f : Flags) (n : ℕ) (l : Loan) where
  pub refusal-whole : whole_refusal f n l ≡ (Ok tt) → Whole f n l
  unfolding whole_refusal
  refusal-whole e = let p = passed _ (Err MessageLength) _ (lit< tt) e in record { short = ltb-false _ _ p.0; loan = p.1 }

  pub whole_refusal_lem : Whole f n l → whole_refusal f n l ≡ Ok tt
  unfolding whole_refusal
  whole_refusal_lem w = rw (le-ltb _ _ w.short) w.loan

-- a whole message has a block at least
pub blocks-some : (n : ℕ) → 1 ≤ blocks_of n
blocks-some n = omega (arith, tail-some (n % 64))

-- the vectors that are looked at are good then
pub whole-vectors : (f : Flags) (n : ℕ) (l : Loan) → Whole f n l → VectorsPass f l.tables.vectors
whole-vectors f n l w = (tables-good f l.tables ((loan-accepted f l (blocks_of n) w.loan).good (blocks-some n))).1

-- and so are the conditions
pub whole_conditions_lem : (f : Flags) (n : ℕ) (l : Loan) → Whole f n l → GoodConditions (conditions_for f l.tables.conditions)
whole_conditions_lem f n l w = accepted-conditions f l (blocks_of n) w.loan (blocks-some n)

-- a new hasher can take a message that is short enough
pub whole_ready : (f : Flags) (bytes conditions : List ℕ) → length bytes ≤ most_bytes → GoodConditions (conditions_for f conditions) → Ready (fresh_of f) bytes conditions
whole_ready f bytes conditions s g = record { fill-le = omega arith; zeros = zeros-are 64; fits = omega arith; selects = λ some. g }

module _ (f : Flags) (bytes : List ℕ) (l : Loan) where
  -- and is well formed then
  pub fed-formed : length bytes ≤ most_bytes → VectorsPass f l.tables.vectors → well_formed (absorbed (fresh_of f) bytes l) ≡ true
  fed-formed s good =
      let r = rest-length bytes in
      rw (absorbed-is (fresh_of f) bytes l)
      (at-formed f (folded f l first_chain bytes) (rest_of bytes) (omega arith) (omega (arith, folded-blocks f l first_chain bytes)) (folded-mark f l first_chain bytes (λ some. good) (none-fits f.detect 0)))

  -- its last blocks end where the padded message does
  pub fed-chain : last_chain (absorbed (fresh_of f) bytes l) (later (length bytes / 64) l) ≡ whole_chain f bytes l
  unfolding whole_chain
  fed-chain = last-chain-is f bytes l
