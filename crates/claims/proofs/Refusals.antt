-- 01's table of numbers, line by line: for each entry point, each number is given exactly when the table says so, in the
-- order of 01 with 02's requests d, f and g, and no other number; and then nothing has changed. What is refused of a loan, 6 and the numbers of
-- the tables, is said once, in loan/proofs/Loans (`loan-0`, `-6`, `-conditions`, `-table`, `-gives`, `-only`): here it stands behind the tests
-- of each call. An update looks at the tables only where it compresses a block, which a finish and a whole message always do. Lines 2 to 5 and 11 are
-- those of the table's check, `table_fault`: `is-2` of table/proofs/Faults, `line-3`, `-4`, `-5` and `-11` of table/proofs/Lines. Lines 12 and 13 are
-- those of `condition_fault`: `conditions-12` and `-13` of conditions/proofs/Faults. Assumes nothing.
use mathlib.Core.Path.{◌≡◌, refl, sym, ap, ◌∙◌, subst}
use mathlib.Core.Logic.Iff
use mathlib.Core.Logic.{◌⊎◌, inl, inr, ⊎_elim, ◌↔◌}
use mathlib.Core.Bool.{Bool, true, false, not, ◌&&◌, ◌||◌, or-true, true≢false, false≢true}
use mathlib.Core.List.{List, [], ◌∷◌}
use Prim.Native.Nat.{ℕ, ◌+◌, ◌≤◌, ◌<◌}
use native.Mathlib.Omega.{arith}
use borrow.Author.Tests.{eqb-true, eq-eqb}
use lib.Dec.{eqb}
use lib.ListN.{length, replicate}
use Rattle.std.specs.Prelude.{Err, Ok, IsErrAnd, Err as Refused}
use Rattle.word.specs.Choice.{pick}
use Rattle.word.proofs.Tests.{both_true, one-true, of_either}
use Rattle.refusal.specs.Refusal.{number_of, table_numbers, condition_numbers, placed_numbers, one_of, Checked}
use Rattle.refusal.specs.declared.Refusal.TheVariants.{HasherForm, MessageLength, Size}
use Rattle.refusal.proofs.Chains.{Decides, refuses, refused_and, decided, negated, less, equal, first-exactly, inside-exactly, last-exactly, inside_is, place_none}
use Rattle.refusal.proofs.Numbers.{within, apart, Among, over, InFront, in-front}
use Rattle.refusal.proofs.Passed.{of_refusal_lem}
use Rattle.verdict.specs.Verdict.{digest_size}
use Rattle.table.specs.Table.{table_fault}
use Rattle.table.specs.Good.{GoodTable}
use Rattle.table.proofs.Faults.{fault-numbers}
use Rattle.table.proofs.Good.{table-0}
use Rattle.conditions.specs.Conditions.{condition_fault}
use Rattle.conditions.specs.Good.{GoodConditions}
use Rattle.detect.specs.Detect.{one_block_refusal, one_block_of, refused_block, BlockAccount}
use Rattle.detect.specs.declared.Mode.{Mode}
use Rattle.fips.specs.Fips.{most_bytes}
use Rattle.fips.specs.Tail.{tail_blocks}
use Rattle.fips.proofs.Tails.{tail-some}
use Rattle.flags.specs.Flags.{uses_conditions, defaults}
use Rattle.flags.specs.declared.Flags.{Flags}
use Rattle.loan.specs.Loan.{Tables, Loan, tables_refusal, loan_refusal, both_numbers, loan_numbers, WellCounted, Miscounted, ConditionsPass, GoodTables, ConditionsGive, VectorsGive, GoodLoan}
use Rattle.loan.proofs.Loans.{loan-0, loan-6, loan-conditions, loan-table, loan-gives, loan-gives-conditions, loan-is, loan-only, one-setting}
use Rattle.stream.specs.Fold.{nowhere}
use Rattle.stream.specs.declared.Chain.{Chain}
use Rattle.hasher.specs.Hasher.{well_formed, taken, fresh_of, reset_of, UpdateAccount}
use Rattle.hasher.specs.declared.Hasher.{Hasher}
use Rattle.update.specs.Update.{blocks_filled, update_refusal, updated}
use Rattle.finish.specs.Finish.{finish_refusal, outcome_of, outcome_refusal, outcome_number, outcome_place, finished, finished_reset, written_out, Outcome}
use Rattle.one_shot.specs.Whole.{blocks_of, whole_refusal, whole_of, digested}
use Rattle.one_shot.proofs.Fed.{blocks-some}
use Rattle.in_place.specs.InPlace.{InPlace}
use Rattle.claims.specs.Refusals.{WellFormed, ByTables}
use Rattle.claims.proofs.Formed.{well_formed_lem}

-- the tests, and what they decide
well-decides : (h : Hasher) → Decides (well_formed h) (WellFormed h) (WellFormed h → ⊥)
well-decides h = decided (well_formed h) (WellFormed h) (well_formed_lem h)

form-decides : (h : Hasher) → Decides (not (well_formed h)) (WellFormed h → ⊥) (WellFormed h)
form-decides h = negated (well-decides h)

-- a number of the table is one that a loan can give
of-table : (n : ℕ) → one_of table_numbers n ≡ true → one_of (0 ∷ loan_numbers) n ≡ true
of-table n = within (0 ∷ loan_numbers) table_numbers n refl

-- so is one of the conditions
of-conditions : (n : ℕ) → one_of condition_numbers n ≡ true → one_of (0 ∷ loan_numbers) n ≡ true
of-conditions n = within (0 ∷ loan_numbers) condition_numbers n refl

-- each number of the third list is in one of the first two
abbrev each_in : List ℕ → List ℕ → List ℕ → Bool
each_in l k [] = true
each_in l k (x ∷ xs) = (one_of l x || one_of k x) && each_in l k xs

-- so what is in the third and not in the second is in the first
pub without : (l k m : List ℕ) (n : ℕ) → each_in l k m ≡ true → one_of m n ≡ true → (one_of k n ≡ true → ⊥) → one_of l n ≡ true
without l k [] n a o out = absurd (false≢true o)
without l k (x ∷ xs) n a o out =
    let b = both_true (one_of l x || one_of k x) _ a in
    ⊎_elim
    (λ e. ⊎_elim (λ i. i) (λ i. absurd (out i)) (one-true (one_of l n) (one_of k n) (rw (eqb-true x n e) at b.0)))
    (λ e. without l k xs n b.1 e out)
    (one-true (eqb x n) _ o)

-- a number of the tables is one of the conditions, or one of the vectors
which-table : (n : ℕ) → one_of both_numbers n ≡ true → (one_of condition_numbers n ≡ true) ⊎ (one_of table_numbers n ≡ true)
which-table n o =
    ⊎_elim (λ (e : eqb 12 n ≡ true). inl (rw e))
    (λ (o : (eqb 13 n || one_of table_numbers n) ≡ true). ⊎_elim (λ (e : eqb 13 n ≡ true). inl (rw e (or-true (eqb 12 n)))) inr (one-true (eqb 13 n) _ o))
    (one-true (eqb 12 n) _ o)

-- flags that ask for conditions never give 6, and those that do not neither 12 nor 13
never-6 : (f : Flags) (l : Loan) (blocks : ℕ) → uses_conditions f ≡ true → Miscounted f l blocks → ⊥
never-6 f l blocks u m = one-setting f u m.0

never-given : (f : Flags) (t : Tables) (n : ℕ) → uses_conditions f ≡ false → ConditionsGive f t n → ⊥
never-given f t n off g = true≢false (sym g.0 ∙ off)

-- what is asked where a block is compressed, and what holds with one compressed, of a call that compresses one
asked-some : {blocks : ℕ} → 1 ≤ blocks → (A : Type 0) → (1 ≤ blocks → A) ↔ A
asked-some some A = (λ h. h some, λ a n. a)

with-some : {blocks : ℕ} → 1 ≤ blocks → (A : Type 0) → ((1 ≤ blocks) × A) ↔ A
with-some some A = (λ h. h.1, λ a. (some, a))

-- A loan for a block at least: the tables are looked at.
module _ (f : Flags) (l : Loan) (blocks : ℕ) (some : 1 ≤ blocks) where
  some-0 : (number_of (loan_refusal f l blocks) ≡ 0) ↔ (WellCounted f l blocks × GoodTables f l.tables)
  some-0 = Iff.trans (loan-0 f l blocks) (Iff.and Iff.rfl (asked-some some _))

  some-conditions : (n : ℕ) → one_of condition_numbers n ≡ true → (number_of (loan_refusal f l blocks) ≡ n) ↔ ConditionsGive f l.tables n
  some-conditions n i = Iff.trans (loan-conditions f l blocks n i) (with-some some _)

  some-table : (n : ℕ) → one_of table_numbers n ≡ true → (number_of (loan_refusal f l blocks) ≡ n) ↔ (WellCounted f l blocks × VectorsGive f l.tables n)
  some-table n t = Iff.trans (loan-table f l blocks n t) (Iff.and Iff.rfl (with-some some _))

-- A loan that is refused by a number of the tables is for a block at least, and what is given is what is wrong with the tables.
loan-by-tables : (f : Flags) (l : Loan) (blocks : ℕ) → ByTables (loan_refusal f l blocks) → (1 ≤ blocks) × (loan_refusal f l blocks ≡ tables_refusal f l.tables)
loan-by-tables f l blocks o =
    let n = number_of (loan_refusal f l blocks) in
    ⊎_elim
    (λ i. let g = (loan-conditions f l blocks n i).0 refl in (g.0, loan-is f l blocks g.0 (λ u. absurd (one-setting f g.1.0 u))))
    (λ i. let g = (loan-table f l blocks n i).0 refl in (g.1.0, loan-is f l blocks g.1.0 g.0))
    (which-table n o)

-- what each line of the table says of the refusal r of a call that refuses 1, then by a test of its own, then of its loan
record Lines (r : Checked) (h : Hasher) (own : ℕ) (P Q : Type 0) (l : Loan) (blocks : ℕ) : Type 1 where
  at_1 : (number_of r ≡ 1) ↔ (WellFormed h → ⊥)
  at_own : (number_of r ≡ own) ↔ (WellFormed h × P)
  at-loan : (n : ℕ) (R : Type 0) → one_of (0 ∷ loan_numbers) n ≡ true → (number_of (loan_refusal h.flags l blocks) ≡ n) ↔ R
      → (number_of r ≡ n) ↔ (WellFormed h × (Q × R))
  is : WellFormed h → Q → r ≡ loan_refusal h.flags l blocks
  among : Among (1 ∷ own ∷ 0 ∷ loan_numbers) r

-- the chain of an update and of a finish-and-reset: the number of the test of its own is no other's
lines : (h : Hasher) {b : Bool} {P Q : Type 0} → Decides b P Q → (own : Checked) (l : Loan) (blocks : ℕ) → one_of (0 ∷ loan_numbers) (number_of own) ≡ false
    → one_of (number_of own ∷ 0 ∷ loan_numbers) 1 ≡ false → (r : Checked) → r ≡ pick (not (well_formed h)) (Err HasherForm) (pick b own (loan_refusal h.flags l blocks))
    → Lines r h (number_of own) P Q l blocks
lines h {b = b} {P = P} {Q = Q} says own l blocks other late r e =
    let s = loan_refusal h.flags l blocks in
    let inner = in-front says (pick b own s) own s (0 ∷ loan_numbers) refl (loan-only h.flags l blocks) other in
    let outer = in-front (form-decides h) r (Err HasherForm) (pick b own s) (number_of own ∷ 0 ∷ loan_numbers) e inner.among late in
    record {
      at_1 = outer.at_own;
      at_own = outer.behind (number_of own) P (rw (eq-eqb (number_of own) (number_of own) refl)) inner.at_own;
      at-loan = λ n R i d. outer.behind n (Q × R) (rw i (or-true (eqb (number_of own) n))) (inner.behind n R i d);
      is = λ w q. outer.is w ∙ inner.is q;
      among = outer.among;
    }

-- Reset: 1.
module _ (h : Hasher) where
  reset-is : (reset_of h).refusal ≡ pick (well_formed h) (Ok tt) (Err HasherForm)
  unfolding reset_of
  reset-is = by (well_formed h)
    where
      by : (b : Bool) → (pick {A = UpdateAccount} b (record { refusal = (Ok tt); hasher = fresh_of h.flags }) (record { refusal = (Err HasherForm); hasher = h })).refusal ≡ pick b (Ok tt) (Err HasherForm)
      by true = refl
      by false = refl

  pub reset-0 : (number_of (reset_of h).refusal ≡ 0) ↔ WellFormed h
  reset-0 = over 0 _ reset-is (first-exactly (well-decides h) (Ok tt) (Err HasherForm) 0 refl (λ e. omega arith))

  pub reset-1 : (number_of (reset_of h).refusal ≡ 1) ↔ (WellFormed h → ⊥)
  reset-1 = over 1 _ reset-is (last-exactly (well-decides h) (Ok tt) (Err HasherForm) 1 (λ e. omega arith) refl)

  pub reset-only : one_of (0 ∷ 1 ∷ []) (number_of (reset_of h).refusal) ≡ true
  reset-only =
      let l : List ℕ = 0 ∷ 1 ∷ [] in
      subst (Among l) (sym reset-is) (of_either (Among l) (well_formed h) (Ok tt) (Err HasherForm) refl refl)

  -- a refusal hands the hasher back as it was
  pub reset-refused : (WellFormed h → ⊥) → reset_of h ≡ record { refusal = (Err HasherForm); hasher = h }
  unfolding reset_of
  reset-refused n = rw ((well-decides h).off.1 n)

-- Update: 1, 7, then its loan.
module _ (h : Hasher) (bytes : List ℕ) (l : Loan) where
  update-lines : Lines (updated h bytes l).refusal h 7 (most_bytes < taken h + length bytes) (taken h + length bytes ≤ most_bytes)
      l (blocks_filled h (length bytes))
  unfolding updated update_refusal
  update-lines =
      lines h (less most_bytes (taken h + length bytes)) (Err MessageLength) l (blocks_filled h (length bytes)) refl refl _ refl

  -- nothing is refused exactly when no line of the table holds
  pub update-0 : (number_of (updated h bytes l).refusal ≡ 0)
      ↔ (WellFormed h × ((taken h + length bytes ≤ most_bytes) × GoodLoan h.flags l (blocks_filled h (length bytes))))
  update-0 = update-lines.at-loan 0 _ refl (loan-0 h.flags l (blocks_filled h (length bytes)))

  pub update-1 : (number_of (updated h bytes l).refusal ≡ 1) ↔ (WellFormed h → ⊥)
  update-1 = update-lines.at_1

  pub update-7 : (number_of (updated h bytes l).refusal ≡ 7) ↔ (WellFormed h × (most_bytes < taken h + length bytes))
  update-7 = update-lines.at_own

  pub update-6 : (number_of (updated h bytes l).refusal ≡ 6)
      ↔ (WellFormed h × ((taken h + length bytes ≤ most_bytes) × Miscounted h.flags l (blocks_filled h (length bytes))))
  update-6 = update-lines.at-loan 6 _ refl (loan-6 h.flags l (blocks_filled h (length bytes)))

  -- 2 to 5 and 11, only where a block is compressed
  pub update-table : (n : ℕ) → one_of table_numbers n ≡ true → (number_of (updated h bytes l).refusal ≡ n)
      ↔ (WellFormed h × ((taken h + length bytes ≤ most_bytes)
      × (WellCounted h.flags l (blocks_filled h (length bytes)) × ((1 ≤ blocks_filled h (length bytes)) × VectorsGive h.flags l.tables n))))
  update-table n t = update-lines.at-loan n _ (of-table n t) (loan-table h.flags l (blocks_filled h (length bytes)) n t)

  -- 12 and 13, where 6 would stand, likewise
  pub update-conditions : (n : ℕ) → one_of condition_numbers n ≡ true → (number_of (updated h bytes l).refusal ≡ n)
      ↔ (WellFormed h × ((taken h + length bytes ≤ most_bytes) × ((1 ≤ blocks_filled h (length bytes)) × ConditionsGive h.flags l.tables n)))
  update-conditions n i = update-lines.at-loan n _ (of-conditions n i) (loan-conditions h.flags l (blocks_filled h (length bytes)) n i)

  -- where a block is compressed and the conditions are looked at and bad, what is wrong with them is what is given, number and place
  pub update-gives-conditions : WellFormed h → taken h + length bytes ≤ most_bytes → 1 ≤ blocks_filled h (length bytes) → uses_conditions h.flags ≡ true
      → (GoodConditions l.tables.conditions → ⊥) → (updated h bytes l).refusal ≡ condition_fault l.tables.conditions
  update-gives-conditions w q some u b = update-lines.is w q ∙ loan-gives-conditions h.flags l (blocks_filled h (length bytes)) some u b

  -- where one is, the table is looked at and the conditions pass, what is wrong with it is what is given, number and place
  pub update-gives : WellFormed h → taken h + length bytes ≤ most_bytes → 1 ≤ blocks_filled h (length bytes) → WellCounted h.flags l (blocks_filled h (length bytes))
      → ConditionsPass h.flags l.tables.conditions → h.flags.detect ≡ true → (updated h bytes l).refusal ≡ table_fault l.tables.vectors
  update-gives w q some c p d = update-lines.is w q ∙ loan-gives h.flags l (blocks_filled h (length bytes)) some c p d

  -- in short: where a block is compressed and the masks are as many, what is wrong with the tables is what is given, number and place
  pub update-tables : WellFormed h → taken h + length bytes ≤ most_bytes → 1 ≤ blocks_filled h (length bytes) → WellCounted h.flags l (blocks_filled h (length bytes))
      → (updated h bytes l).refusal ≡ tables_refusal h.flags l.tables
  update-tables w q some c = update-lines.is w q ∙ loan-is h.flags l (blocks_filled h (length bytes)) some c

  -- and it is given only there
  pub update-by-tables : ByTables (updated h bytes l).refusal
      → WellFormed h × (taken h + length bytes ≤ most_bytes) × (1 ≤ blocks_filled h (length bytes)) × ((updated h bytes l).refusal ≡ tables_refusal h.flags l.tables)
  update-by-tables o =
      let n = number_of (updated h bytes l).refusal in
      let k = (update-lines.at-loan n _ (within (0 ∷ loan_numbers) both_numbers n refl o) Iff.rfl).0 refl in
      let g = loan-by-tables h.flags l (blocks_filled h (length bytes)) (ap (one_of both_numbers) k.1.1 ∙ o) in
      (k.0, k.1.0, g.0, update-lines.is k.0 k.1.0 ∙ g.1)

  -- 6 is never given where conditions are asked for, and 12 and 13 never where they are not: with detection off or in another setting
  pub update-never-6 : uses_conditions h.flags ≡ true → number_of (updated h bytes l).refusal ≡ 6 → ⊥
  update-never-6 u e = never-6 h.flags l (blocks_filled h (length bytes)) u (update-6.0 e).1.1

  pub update-never-conditions : uses_conditions h.flags ≡ false → (n : ℕ) → one_of condition_numbers n ≡ true → number_of (updated h bytes l).refusal ≡ n → ⊥
  update-never-conditions off n i e = never-given h.flags l.tables n off ((update-conditions n i).0 e).1.1.1

  pub update-only : one_of (0 ∷ 1 ∷ 7 ∷ loan_numbers) (number_of (updated h bytes l).refusal) ≡ true
  update-only = within (0 ∷ 1 ∷ 7 ∷ loan_numbers) (1 ∷ 7 ∷ 0 ∷ loan_numbers) (number_of (updated h bytes l).refusal) refl update-lines.among

  -- a refusal hands the hasher back as it was
  pub update-refused : (number_of (updated h bytes l).refusal ≡ 0 → ⊥) → (updated h bytes l).hasher ≡ h
  unfolding updated
  update-refused n = rw (refuses (update_refusal h bytes l) n)

  -- and one in place leaves the lent hasher as it was
  pub in-place-refused : (r : Checked) (g : Hasher) → InPlace h bytes l r g → (number_of r ≡ 0 → ⊥) → g ≡ h
  in-place-refused r g p n = p.0 ∙ update-refused (λ e. n (ap number_of p.1 ∙ e))

-- One block: 8, then the table.
module _ (five block table : List ℕ) (mask : ℕ) (mode : Mode) where
  block_is_lem : (one_block_of five block table mask mode).refusal ≡ one_block_refusal (length block) table
  unfolding one_block_of
  block_is_lem =
      let r = one_block_refusal (length block) table in
      of_refusal_lem (λ (o : BlockAccount). o.refusal ≡ r) r _ (refused_block r) (λ e. sym e) (λ e. refl)

  pub block_0 : (number_of (one_block_of five block table mask mode).refusal ≡ 0) ↔ ((length block ≡ 64) × GoodTable table)
  block_0 =
      over 0 _ block_is_lem
      (Iff.trans (inside-exactly (equal (length block) 64) (table_fault table) (Err Size) 0 (λ e. omega arith)) (Iff.and Iff.rfl (table-0 table)))

  pub block-8 : (number_of (one_block_of five block table mask mode).refusal ≡ 8) ↔ (length block ≡ 64 → ⊥)
  block-8 =
      over 8 _ block_is_lem
      (last-exactly (equal (length block) 64) (table_fault table) (Err Size) 8 (λ e. apart (0 ∷ table_numbers) 8 (number_of (table_fault table)) (fault-numbers table) refl (sym e)) refl)

  pub block-table : (n : ℕ) → one_of table_numbers n ≡ true
      → (number_of (one_block_of five block table mask mode).refusal ≡ n) ↔ ((length block ≡ 64) × (number_of (table_fault table) ≡ n))
  block-table n t =
      over n _ block_is_lem (inside-exactly (equal (length block) 64) (table_fault table) (Err Size) n (apart table_numbers 8 n t refl))

  -- where the table is looked at, what is wrong with it is what is given, number and place
  pub block-gives : length block ≡ 64 → (one_block_of five block table mask mode).refusal ≡ table_fault table
  block-gives e = block_is_lem ∙ inside_is (equal (length block) 64) (table_fault table) (Err Size) e

  pub block-only : one_of (0 ∷ 8 ∷ table_numbers) (number_of (one_block_of five block table mask mode).refusal) ≡ true
  block-only =
      let l : List ℕ = 0 ∷ 8 ∷ table_numbers in
      subst (Among l) (sym block_is_lem)
      (of_either (Among l) (eqb (length block) 64) _ (Err Size) (within l (0 ∷ table_numbers) (number_of (table_fault table)) refl (fault-numbers table)) refl)

  -- a refusal gives no mark and zeros
  pub block_refused : (number_of (one_block_of five block table mask mode).refusal ≡ 0 → ⊥)
      → one_block_of five block table mask mode ≡ refused_block (one_block_of five block table mask mode).refusal
  unfolding one_block_of
  block_refused n = rw (refuses (one_block_refusal (length block) table) (λ e. n (ap number_of block_is_lem ∙ e)))

-- an outcome refuses what its call refuses
outcome-is : (r : Checked) (c : Chain) (mitigate : Bool) → outcome_refusal (outcome_of r c mitigate) ≡ r
outcome-is (Ok tt) c mitigate = refl
outcome-is (Err r) c mitigate = refl

-- its place is 0 for every number but those that name a record's place, as it is for every refusal
pub outcome_place_lem : (o : Outcome) → one_of placed_numbers (outcome_number o) ≡ false → outcome_place o ≡ 0
outcome_place_lem o = place_none (outcome_refusal o)

-- Finish: 1, then its loan. Its output is its own, of 20 bytes.
module _ (h : Hasher) (l : Loan) where
  finish-is : outcome_refusal (finished h l).outcome ≡ finish_refusal h digest_size l
  unfolding finished
  finish-is = outcome-is _ _ _

  finish-front : InFront (outcome_refusal (finished h l).outcome) (Err HasherForm) (loan_refusal h.flags l (tail_blocks h.fill))
      (WellFormed h → ⊥) (WellFormed h) (0 ∷ loan_numbers)
  unfolding finish_refusal
  finish-front = in-front (form-decides h) _ (Err HasherForm) _ (0 ∷ loan_numbers) finish-is (loan-only h.flags l (tail_blocks h.fill)) refl

  pub finish-0 : (outcome_number (finished h l).outcome ≡ 0)
      ↔ (WellFormed h × (WellCounted h.flags l (tail_blocks h.fill) × GoodTables h.flags l.tables))
  finish-0 = finish-front.behind 0 _ refl (some-0 h.flags l (tail_blocks h.fill) (tail-some h.fill))

  pub finish-1 : (outcome_number (finished h l).outcome ≡ 1) ↔ (WellFormed h → ⊥)
  finish-1 = finish-front.at_own

  pub finish-6 : (outcome_number (finished h l).outcome ≡ 6) ↔ (WellFormed h × Miscounted h.flags l (tail_blocks h.fill))
  finish-6 = finish-front.behind 6 _ refl (loan-6 h.flags l (tail_blocks h.fill))

  pub finish-table : (n : ℕ) → one_of table_numbers n ≡ true → (outcome_number (finished h l).outcome ≡ n)
      ↔ (WellFormed h × (WellCounted h.flags l (tail_blocks h.fill) × VectorsGive h.flags l.tables n))
  finish-table n t = finish-front.behind n _ (of-table n t) (some-table h.flags l (tail_blocks h.fill) (tail-some h.fill) n t)

  -- 12 and 13, where 6 would stand
  pub finish-conditions : (n : ℕ) → one_of condition_numbers n ≡ true
      → (outcome_number (finished h l).outcome ≡ n) ↔ (WellFormed h × ConditionsGive h.flags l.tables n)
  finish-conditions n i = finish-front.behind n _ (of-conditions n i) (some-conditions h.flags l (tail_blocks h.fill) (tail-some h.fill) n i)

  -- where the conditions are looked at and bad, what is wrong with them is what is given, number and place
  pub finish-gives-conditions : WellFormed h → uses_conditions h.flags ≡ true → (GoodConditions l.tables.conditions → ⊥)
      → outcome_refusal (finished h l).outcome ≡ condition_fault l.tables.conditions
  finish-gives-conditions w u b = finish-front.is w ∙ loan-gives-conditions h.flags l (tail_blocks h.fill) (tail-some h.fill) u b

  -- where the table is looked at and the conditions pass, what is wrong with it is what is given, number and place
  pub finish-gives : WellFormed h → WellCounted h.flags l (tail_blocks h.fill) → ConditionsPass h.flags l.tables.conditions
      → h.flags.detect ≡ true → outcome_refusal (finished h l).outcome ≡ table_fault l.tables.vectors
  finish-gives w c p d = finish-front.is w ∙ loan-gives h.flags l (tail_blocks h.fill) (tail-some h.fill) c p d

  -- in short: where the masks are as many, what is wrong with the tables is what is given, number and place
  pub finish-tables : WellFormed h → WellCounted h.flags l (tail_blocks h.fill) → outcome_refusal (finished h l).outcome ≡ tables_refusal h.flags l.tables
  finish-tables w c = finish-front.is w ∙ loan-is h.flags l (tail_blocks h.fill) (tail-some h.fill) c

  -- 6 is never given where conditions are asked for, and 12 and 13 never where they are not: with detection off or in another setting
  pub finish-never-6 : uses_conditions h.flags ≡ true → outcome_number (finished h l).outcome ≡ 6 → ⊥
  finish-never-6 u e = never-6 h.flags l (tail_blocks h.fill) u (finish-6.0 e).1

  pub finish-never-conditions : uses_conditions h.flags ≡ false → (n : ℕ) → one_of condition_numbers n ≡ true → outcome_number (finished h l).outcome ≡ n → ⊥
  finish-never-conditions off n i e = never-given h.flags l.tables n off ((finish-conditions n i).0 e).1

  pub finish-only : one_of (0 ∷ 1 ∷ loan_numbers) (outcome_number (finished h l).outcome) ≡ true
  finish-only = within (0 ∷ 1 ∷ loan_numbers) (1 ∷ 0 ∷ loan_numbers) (outcome_number (finished h l).outcome) refl finish-front.among

  -- a refusal gives no verdict and zeros, and the hasher as it was
  pub finish-refused : (outcome_number (finished h l).outcome ≡ 0 → ⊥)
      → IsErrAnd (finish_refusal h digest_size l)
      (λ r. finished h l ≡ record { outcome = Refused r; digest = replicate digest_size 0; first = nowhere; hasher = h })
  unfolding finished
  finish-refused n = refused_and _ _ (refuses _ (λ e. n (ap number_of finish-is ∙ e))) (λ r e. rw e)

-- Finish-and-reset: 1, 8, then its loan. It is lent an output of some size.
module _ (h : Hasher) (size : ℕ) (l : Loan) where
  pub finish-reset-is : outcome_refusal (finished_reset h size l).outcome ≡ finish_refusal h size l
  unfolding finished_reset
  finish-reset-is = outcome-is _ _ _

  finish-reset-lines : Lines (outcome_refusal (finished_reset h size l).outcome) h 8 (size ≡ digest_size → ⊥) (size ≡ digest_size)
      l (tail_blocks h.fill)
  unfolding finish_refusal
  finish-reset-lines = lines h (negated (equal size digest_size)) (Err Size) l (tail_blocks h.fill) refl refl _ finish-reset-is

  pub finish-reset-0 : (outcome_number (finished_reset h size l).outcome ≡ 0)
      ↔ (WellFormed h × ((size ≡ digest_size) × (WellCounted h.flags l (tail_blocks h.fill) × GoodTables h.flags l.tables)))
  finish-reset-0 = finish-reset-lines.at-loan 0 _ refl (some-0 h.flags l (tail_blocks h.fill) (tail-some h.fill))

  pub finish-reset-1 : (outcome_number (finished_reset h size l).outcome ≡ 1) ↔ (WellFormed h → ⊥)
  finish-reset-1 = finish-reset-lines.at_1

  pub finish-reset-8 : (outcome_number (finished_reset h size l).outcome ≡ 8) ↔ (WellFormed h × (size ≡ digest_size → ⊥))
  finish-reset-8 = finish-reset-lines.at_own

  pub finish-reset-6 : (outcome_number (finished_reset h size l).outcome ≡ 6)
      ↔ (WellFormed h × ((size ≡ digest_size) × Miscounted h.flags l (tail_blocks h.fill)))
  finish-reset-6 = finish-reset-lines.at-loan 6 _ refl (loan-6 h.flags l (tail_blocks h.fill))

  pub finish-reset-table : (n : ℕ) → one_of table_numbers n ≡ true → (outcome_number (finished_reset h size l).outcome ≡ n)
      ↔ (WellFormed h × ((size ≡ digest_size) × (WellCounted h.flags l (tail_blocks h.fill) × VectorsGive h.flags l.tables n)))
  finish-reset-table n t = finish-reset-lines.at-loan n _ (of-table n t) (some-table h.flags l (tail_blocks h.fill) (tail-some h.fill) n t)

  -- 12 and 13, where 6 would stand
  pub finish-reset-conditions : (n : ℕ) → one_of condition_numbers n ≡ true → (outcome_number (finished_reset h size l).outcome ≡ n)
      ↔ (WellFormed h × ((size ≡ digest_size) × ConditionsGive h.flags l.tables n))
  finish-reset-conditions n i = finish-reset-lines.at-loan n _ (of-conditions n i) (some-conditions h.flags l (tail_blocks h.fill) (tail-some h.fill) n i)

  -- where the conditions are looked at and bad, what is wrong with them is what is given, number and place
  pub finish-reset-gives-conditions : WellFormed h → size ≡ digest_size → uses_conditions h.flags ≡ true
      → (GoodConditions l.tables.conditions → ⊥) → outcome_refusal (finished_reset h size l).outcome ≡ condition_fault l.tables.conditions
  finish-reset-gives-conditions w q u b = finish-reset-lines.is w q ∙ loan-gives-conditions h.flags l (tail_blocks h.fill) (tail-some h.fill) u b

  -- where the table is looked at and the conditions pass, what is wrong with it is what is given, number and place
  pub finish-reset-gives : WellFormed h → size ≡ digest_size → WellCounted h.flags l (tail_blocks h.fill)
      → ConditionsPass h.flags l.tables.conditions → h.flags.detect ≡ true
      → outcome_refusal (finished_reset h size l).outcome ≡ table_fault l.tables.vectors
  finish-reset-gives w q c p d = finish-reset-lines.is w q ∙ loan-gives h.flags l (tail_blocks h.fill) (tail-some h.fill) c p d

  -- in short: where the masks are as many, what is wrong with the tables is what is given, number and place
  pub finish-reset-tables : WellFormed h → size ≡ digest_size → WellCounted h.flags l (tail_blocks h.fill)
      → outcome_refusal (finished_reset h size l).outcome ≡ tables_refusal h.flags l.tables
  finish-reset-tables w q c = finish-reset-lines.is w q ∙ loan-is h.flags l (tail_blocks h.fill) (tail-some h.fill) c

  -- 6 is never given where conditions are asked for, and 12 and 13 never where they are not: with detection off or in another setting
  pub finish-reset-never-6 : uses_conditions h.flags ≡ true → outcome_number (finished_reset h size l).outcome ≡ 6 → ⊥
  finish-reset-never-6 u e = never-6 h.flags l (tail_blocks h.fill) u (finish-reset-6.0 e).1.1

  pub finish-reset-never-conditions : uses_conditions h.flags ≡ false → (n : ℕ) → one_of condition_numbers n ≡ true → outcome_number (finished_reset h size l).outcome ≡ n → ⊥
  finish-reset-never-conditions off n i e = never-given h.flags l.tables n off ((finish-reset-conditions n i).0 e).1.1

  pub finish-reset-only : one_of (0 ∷ 1 ∷ 8 ∷ loan_numbers) (outcome_number (finished_reset h size l).outcome) ≡ true
  finish-reset-only = within (0 ∷ 1 ∷ 8 ∷ loan_numbers) (1 ∷ 8 ∷ 0 ∷ loan_numbers) (outcome_number (finished_reset h size l).outcome) refl finish-reset-lines.among

-- a refused finish-and-reset gives no verdict, the hasher as it was, and writes nothing
pub finish-reset-refused : (h : Hasher) (out : List ℕ) (l : Loan) → (outcome_number (finished_reset h (length out) l).outcome ≡ 0 → ⊥)
    → IsErrAnd (finish_refusal h (length out) l)
    (λ r. (finished_reset h (length out) l ≡ record { outcome = Refused r; first = nowhere; hasher = h }) × (written_out h out l ≡ out))
unfolding finished_reset written_out
finish-reset-refused h out l n =
    refused_and _ _ (refuses _ (λ e. n (ap number_of (finish-reset-is h (length out) l) ∙ e))) (λ r e. (rw e, rw e))

-- what is left of it where it is refused, without the refusal
pub finish-reset-kept : (h : Hasher) (out : List ℕ) (l : Loan) → (outcome_number (finished_reset h (length out) l).outcome ≡ 0 → ⊥)
    → ((finished_reset h (length out) l).hasher ≡ h) × ((finished_reset h (length out) l).first ≡ nowhere) × (written_out h out l ≡ out)
unfolding finished_reset written_out
finish-reset-kept h out l n =
    let e = refuses (finish_refusal h (length out) l) (λ e. n (ap number_of (finish-reset-is h (length out) l) ∙ e)) in
    (rw e, rw e, rw e)

-- A whole message with any flags: 7, then its loan.
module _ (f : Flags) (bytes : List ℕ) (l : Loan) where
  whole_is : outcome_refusal (whole_of f bytes l).outcome ≡ whole_refusal f (length bytes) l
  unfolding whole_of
  whole_is = outcome-is _ _ _

  whole-front : InFront (outcome_refusal (whole_of f bytes l).outcome) (Err MessageLength) (loan_refusal f l (blocks_of (length bytes)))
      (most_bytes < length bytes) (length bytes ≤ most_bytes) (0 ∷ loan_numbers)
  unfolding whole_refusal
  whole-front =
      in-front (less most_bytes (length bytes)) _ (Err MessageLength) _ (0 ∷ loan_numbers) whole_is (loan-only f l (blocks_of (length bytes))) refl

  pub whole-0 : (outcome_number (whole_of f bytes l).outcome ≡ 0)
      ↔ ((length bytes ≤ most_bytes) × (WellCounted f l (blocks_of (length bytes)) × GoodTables f l.tables))
  whole-0 = whole-front.behind 0 _ refl (some-0 f l (blocks_of (length bytes)) (blocks-some (length bytes)))

  pub whole-7 : (outcome_number (whole_of f bytes l).outcome ≡ 7) ↔ (most_bytes < length bytes)
  whole-7 = whole-front.at_own

  pub whole-6 : (outcome_number (whole_of f bytes l).outcome ≡ 6) ↔ ((length bytes ≤ most_bytes) × Miscounted f l (blocks_of (length bytes)))
  whole-6 = whole-front.behind 6 _ refl (loan-6 f l (blocks_of (length bytes)))

  pub whole-table : (n : ℕ) → one_of table_numbers n ≡ true → (outcome_number (whole_of f bytes l).outcome ≡ n)
      ↔ ((length bytes ≤ most_bytes) × (WellCounted f l (blocks_of (length bytes)) × VectorsGive f l.tables n))
  whole-table n t = whole-front.behind n _ (of-table n t) (some-table f l (blocks_of (length bytes)) (blocks-some (length bytes)) n t)

  -- 12 and 13, where 6 would stand
  pub whole_conditions_lem : (n : ℕ) → one_of condition_numbers n ≡ true
      → (outcome_number (whole_of f bytes l).outcome ≡ n) ↔ ((length bytes ≤ most_bytes) × ConditionsGive f l.tables n)
  whole_conditions_lem n i = whole-front.behind n _ (of-conditions n i) (some-conditions f l (blocks_of (length bytes)) (blocks-some (length bytes)) n i)

  -- where the conditions are looked at and bad, what is wrong with them is what is given, number and place
  pub whole-gives-conditions : length bytes ≤ most_bytes → uses_conditions f ≡ true → (GoodConditions l.tables.conditions → ⊥)
      → outcome_refusal (whole_of f bytes l).outcome ≡ condition_fault l.tables.conditions
  whole-gives-conditions s u b = whole-front.is s ∙ loan-gives-conditions f l (blocks_of (length bytes)) (blocks-some (length bytes)) u b

  -- where the table is looked at and the conditions pass, what is wrong with it is what is given, number and place
  pub whole-gives : length bytes ≤ most_bytes → WellCounted f l (blocks_of (length bytes)) → ConditionsPass f l.tables.conditions
      → f.detect ≡ true → outcome_refusal (whole_of f bytes l).outcome ≡ table_fault l.tables.vectors
  whole-gives s c p d = whole-front.is s ∙ loan-gives f l (blocks_of (length bytes)) (blocks-some (length bytes)) c p d

  -- in short: where the masks are as many, what is wrong with the tables is what is given, number and place
  pub whole-tables : length bytes ≤ most_bytes → WellCounted f l (blocks_of (length bytes)) → outcome_refusal (whole_of f bytes l).outcome ≡ tables_refusal f l.tables
  whole-tables s c = whole-front.is s ∙ loan-is f l (blocks_of (length bytes)) (blocks-some (length bytes)) c

  -- and it is given only there
  pub whole-by-tables : ByTables (outcome_refusal (whole_of f bytes l).outcome)
      → (length bytes ≤ most_bytes) × (outcome_refusal (whole_of f bytes l).outcome ≡ tables_refusal f l.tables)
  whole-by-tables o =
      let n = outcome_number (whole_of f bytes l).outcome in
      let k = (whole-front.behind n _ (within (0 ∷ loan_numbers) both_numbers n refl o) Iff.rfl).0 refl in
      (k.0, whole-front.is k.0 ∙ (loan-by-tables f l (blocks_of (length bytes)) (ap (one_of both_numbers) k.1 ∙ o)).1)

  -- 6 is never given where conditions are asked for, and 12 and 13 never where they are not: with detection off or in another setting
  pub whole-never-6 : uses_conditions f ≡ true → outcome_number (whole_of f bytes l).outcome ≡ 6 → ⊥
  whole-never-6 u e = never-6 f l (blocks_of (length bytes)) u (whole-6.0 e).1

  pub whole-never-conditions : uses_conditions f ≡ false → (n : ℕ) → one_of condition_numbers n ≡ true → outcome_number (whole_of f bytes l).outcome ≡ n → ⊥
  whole-never-conditions off n i e = never-given f l.tables n off ((whole_conditions_lem n i).0 e).1

  pub whole-only : one_of (0 ∷ 7 ∷ loan_numbers) (outcome_number (whole_of f bytes l).outcome) ≡ true
  whole-only = within (0 ∷ 7 ∷ loan_numbers) (7 ∷ 0 ∷ loan_numbers) (outcome_number (whole_of f bytes l).outcome) refl whole-front.among

  -- a refusal gives no verdict and zeros
  pub whole-refused : (outcome_number (whole_of f bytes l).outcome ≡ 0 → ⊥)
      → IsErrAnd (whole_refusal f (length bytes) l)
      (λ r. whole_of f bytes l ≡ record { outcome = Refused r; digest = replicate digest_size 0; first = nowhere })
  unfolding whole_of
  whole-refused n = refused_and _ _ (refuses _ (λ e. n (ap number_of whole_is ∙ e))) (λ r e. rw e)

-- what holds where a flag is on, and what holds with it on, of a flag that is
where-on : (A : Type 0) → (true ≡ true → A) ↔ A
where-on A = (λ h. h refl, λ a e. a)

with-on : (A : Type 0) → ((true ≡ true) × A) ↔ A
with-on A = (λ h. h.1, λ a. (refl, a))

-- what is wanted of conditions by flags that do not ask for them, and of vectors by flags that do
unlooked : (A : Type 0) → false ≡ true → A
unlooked A e = absurd (false≢true e)

vectors-on : (A B : Type 0) → ((false ≡ true → A) × (true ≡ true → B)) ↔ B
vectors-on A B = (λ h. h.1 refl, λ b. (unlooked A, λ e. b))

vectors-give-on : (A B : Type 0) → ((false ≡ true → A) × (true ≡ true) × B) ↔ B
vectors-give-on A B = (λ h. h.2, λ b. (unlooked A, refl, b))

-- One-shot: the same with the default flags, by which a mask is asked for each block, the table looked at, and conditions not.
module _ (bytes : List ℕ) (l : Loan) where
  pub shot-0 : (outcome_number (digested bytes l).outcome ≡ 0)
      ↔ ((length bytes ≤ most_bytes) × ((length l.masks ≡ blocks_of (length bytes)) × GoodTable l.tables.vectors))
  shot-0 = Iff.trans (whole-0 defaults bytes l) (Iff.and Iff.rfl (Iff.and (where-on _) (vectors-on _ _)))

  pub shot-7 : (outcome_number (digested bytes l).outcome ≡ 7) ↔ (most_bytes < length bytes)
  shot-7 = whole-7 defaults bytes l

  pub shot-6 : (outcome_number (digested bytes l).outcome ≡ 6)
      ↔ ((length bytes ≤ most_bytes) × (length l.masks ≡ blocks_of (length bytes) → ⊥))
  shot-6 = Iff.trans (whole-6 defaults bytes l) (Iff.and Iff.rfl (with-on _))

  pub shot-table : (n : ℕ) → one_of table_numbers n ≡ true → (outcome_number (digested bytes l).outcome ≡ n)
      ↔ ((length bytes ≤ most_bytes) × ((length l.masks ≡ blocks_of (length bytes)) × (number_of (table_fault l.tables.vectors) ≡ n)))
  shot-table n t = Iff.trans (whole-table defaults bytes l n t) (Iff.and Iff.rfl (Iff.and (where-on _) (vectors-give-on _ _)))

  -- where the table is looked at, what is wrong with it is what is given, number and place
  pub shot-gives : length bytes ≤ most_bytes → length l.masks ≡ blocks_of (length bytes)
      → outcome_refusal (digested bytes l).outcome ≡ table_fault l.tables.vectors
  shot-gives s c = whole-gives defaults bytes l s (λ u. c) (unlooked _) refl

  pub shot-only : one_of (0 ∷ 7 ∷ 6 ∷ table_numbers) (outcome_number (digested bytes l).outcome) ≡ true
  shot-only =
      let n = outcome_number (digested bytes l).outcome in
      without (0 ∷ 7 ∷ 6 ∷ table_numbers) condition_numbers (0 ∷ 7 ∷ loan_numbers) n refl (whole-only defaults bytes l)
      (λ i. whole-never-conditions defaults bytes l refl n i refl)

  -- a refusal gives no verdict and zeros
  pub shot-refused : (outcome_number (digested bytes l).outcome ≡ 0 → ⊥)
      → IsErrAnd (whole_refusal defaults (length bytes) l)
      (λ r. digested bytes l ≡ record { outcome = Refused r; digest = replicate digest_size 0; first = nowhere })
  shot-refused = whole-refused defaults bytes l
