-- Where a call looks at the tables: of one that is not refused they pass if it compresses a block, as a finish and a whole message always do.
-- Assumes nothing.
use mathlib.Core.Path.{◌≡◌}
use mathlib.Core.Bool.{true}
use mathlib.Core.List.{List}
use Prim.Native.Nat.{ℕ, ◌≤◌, ◌<◌}
use native.Mathlib.Nat.{min-le_left, min_comm}
use native.Mathlib.Omega.{arith}
use lib.ListN.{length, take, length-append, length-take}
use Rattle.std.specs.Prelude.{Ok}
use Rattle.fips.specs.Tail.{tail_blocks}
use Rattle.fips.proofs.Tails.{tail-some}
use Rattle.flags.specs.declared.Flags.{Flags}
use Rattle.loan.specs.Loan.{Loan, tables_refusal}
use Rattle.loan.proofs.Loans.{AcceptedLoan, loan-accepted, tables-good}
use Rattle.hasher.specs.declared.Hasher.{Hasher}
use Rattle.absorb.specs.Absorb.{stream_of}
use Rattle.update.specs.Update.{blocks_filled}
use Rattle.update.proofs.Taken.{Taken}
use Rattle.finish.specs.Finish.{finish_refusal}
use Rattle.finish.proofs.Finishing.{finish-finishing}
use Rattle.one_shot.specs.Whole.{blocks_of, whole_refusal}
use Rattle.one_shot.proofs.Fed.{refusal-whole, blocks-some}
use Rattle.claims.specs.Sound.{VectorsGood, PassFor}
use Rattle.claims.specs.Marked.{whole_blocks}

-- vectors that are looked at are good where the tables pass, if there is a block i
pub looked-good : (f : Flags) (l : Loan) (xs : List ℕ) → PassFor f l xs → (i : ℕ) → i < whole_blocks xs → f.detect ≡ true → VectorsGood l.tables
looked-good f l xs fine i inside = (tables-good f l.tables (fine (omega arith))).1

-- what is taken of a list is no more than asked for, nor than there is
pub taken-most : (n : ℕ) (xs : List ℕ) → (length (take n xs) ≤ n) × (length (take n xs) ≤ length xs)
taken-most n xs =
    rw (length-take n xs) (min-le_left n (length xs), rw (min_comm n (length xs)) (min-le_left (length xs) n))

-- a stream has no more whole blocks than an update counts
pub stream-few : (h : Hasher) (bytes : List ℕ) → whole_blocks (stream_of h bytes) ≤ blocks_filled h (length bytes)
stream-few h bytes =
    let short = (taken-most h.fill h.pending).0 in
    omega (arith, length-append (take h.fill h.pending) bytes)

-- what an update that is not refused is lent
pub taken-accepted : (h : Hasher) (bytes : List ℕ) (l : Loan) → Taken h bytes l → AcceptedLoan h.flags l (blocks_filled h (length bytes))
taken-accepted h bytes l a = loan-accepted h.flags l (blocks_filled h (length bytes)) a.loan

-- the tables of an update that is not refused pass, if it fills a block
pub update-passes : (h : Hasher) (bytes : List ℕ) (l : Loan) → Taken h bytes l → PassFor h.flags l (stream_of h bytes)
update-passes h bytes l a some = (taken-accepted h bytes l a).good (omega (arith, stream-few h bytes))

-- those of a finish pass,
pub finish-passes : (h : Hasher) (size : ℕ) (l : Loan) → finish_refusal h size l ≡ (Ok tt) → tables_refusal h.flags l.tables ≡ Ok tt
finish-passes h size l e =
    (loan-accepted h.flags l (tail_blocks h.fill) (finish-finishing h size l e).loan).good (tail-some h.fill)

-- and those of a whole message
pub whole-passes : (f : Flags) (n : ℕ) (l : Loan) → whole_refusal f n l ≡ (Ok tt) → tables_refusal f l.tables ≡ Ok tt
whole-passes f n l e = (loan-accepted f l (blocks_of n) (refusal-whole f n l e).loan).good (blocks-some n)
