-- What is known of a loan of which nothing is refused, and that nothing is refused of one of which this is known; and each
-- number that a loan gives, exactly when. Assumes nothing.
use mathlib.Core.Path.{◌≡◌, refl, sym, ap, ◌∙◌}
use mathlib.Core.Logic.{◌↔◌}
use mathlib.Core.Bool.{Bool, true, false, not, ◌&&◌, false≢true}
use mathlib.Core.List.{List, [], ◌∷◌}
use Prim.Native.Nat.{ℕ, ◌≤◌}
use native.Mathlib.Omega.{arith}
use borrow.Author.Tests.{eqb-true, eqb-false, eq-eqb, ne_eqb, not-true, not-false}
use lib.Dec.{eqb, lit<}
use lib.ListN.{length}
use Rattle.std.specs.Prelude.{Err, Ok}
use Rattle.word.specs.Choice.{pick}
use Rattle.word.proofs.Tests.{both_true, of_either}
use Rattle.refusal.specs.Refusal.{number_of, table_numbers, condition_numbers, one_of, Checked}
use Rattle.refusal.specs.declared.Refusal.TheVariants.{MaskCount}
use Rattle.refusal.proofs.Chains.{Decides, itself, later-exactly, later-is, inside-exactly, inside_is, nothing_is, passes}
use Rattle.refusal.proofs.Numbers.{within, outside, apart, Among, InFront, in-front, first-of-0, first-of-own, first-of-behind, first-of-among, first-of-second, first-of-first}
use Rattle.refusal.proofs.Passed.{passed}
use Rattle.table.specs.Table.{table_fault}
use Rattle.table.specs.Good.{GoodTable}
use Rattle.table.proofs.Faults as vectors
use Rattle.table.proofs.Good.{table-0}
use Rattle.conditions.specs.Conditions.{condition_fault}
use Rattle.conditions.specs.Good.{GoodConditions}
use Rattle.conditions.proofs.Faults as selecting
use Rattle.flags.specs.Flags.{is_lent, is_conditions, uses_masks, uses_conditions}
use Rattle.flags.specs.declared.Masks.{Masks}
use Rattle.flags.specs.declared.Masks.TheVariants.{All, Lent, Conditions}
use Rattle.flags.specs.declared.Flags.{Flags}
use Rattle.loan.specs.Loan.{Tables, Loan, lend, conditions_for, masks_wrong, conditions_refusal, vectors_refusal, tables_refusal, loan_refusal, both_numbers, loan_numbers, WellCounted, Miscounted, ConditionsPass, VectorsPass, GoodTables, ConditionsGive, VectorsGive, GoodLoan}

right : (on : Bool) (k n : ℕ) → ((on && not (eqb k n)) ≡ false) ↔ (on ≡ true → k ≡ n)
right true k n = (λ e u. eqb-true k n (not-false (eqb k n) e), λ h. ap not (eq-eqb k n (h refl)))
right false k n = (λ e u. absurd (false≢true u), λ h. refl)

-- the number of masks is not wrong exactly when it is the number of blocks, where masks are asked for
pub masks-right : (f : Flags) (k n : ℕ) → (masks_wrong f k n ≡ false) ↔ (uses_masks f ≡ true → k ≡ n)
masks-right f k n = right (uses_masks f) k n

-- no block, or one at least
no_block : (blocks : ℕ) → Decides (eqb blocks 0) (blocks ≡ 0) (1 ≤ blocks)
no_block blocks =
    record { on = (eqb-true blocks 0, eq-eqb blocks 0); off = (λ e. let n = eqb-false blocks 0 e in omega (arith, n), λ n. ne_eqb blocks 0 (λ z. omega arith)) }

-- what is nothing where it is looked at is nothing
in_either : {b : Bool} {P Q : Type 0} → Decides b P Q → (r : Checked) → (Q → r ≡ (Ok tt)) → pick b (Ok tt) r ≡ Ok tt
in_either {b = true} d r g = refl
in_either {b = false} d r g = g (d.off.0 refl)

pub record AcceptedLoan (f : Flags) (l : Loan) (blocks : ℕ) : Type 0 where
  pub counts : WellCounted f l blocks
  pub good : 1 ≤ blocks → tables_refusal f l.tables ≡ Ok tt

module _ (f : Flags) (l : Loan) (blocks : ℕ) where
  pub loan-accepted : loan_refusal f l blocks ≡ (Ok tt) → AcceptedLoan f l blocks
  unfolding loan_refusal
  loan-accepted e =
      let r = passed _ (Err MaskCount) _ (lit< tt) e in
      record { counts = (masks-right f (length l.masks) blocks).0 r.0; good = λ n. sym (later-is (no_block blocks) (Ok tt) _ n) ∙ r.1 }

  pub accepted-loan : AcceptedLoan f l blocks → loan_refusal f l blocks ≡ Ok tt
  unfolding loan_refusal
  accepted-loan a =
      rw ((masks-right f (length l.masks) blocks).1 a.counts)
      (in_either (no_block blocks) (tables_refusal f l.tables) a.good)

-- what the test of the masks says
masks-decide : (f : Flags) (l : Loan) (blocks : ℕ) → Decides (masks_wrong f (length l.masks) blocks) (Miscounted f l blocks) (WellCounted f l blocks)
masks-decide f l blocks =
    let k = length l.masks in
    record {
      on = (
        λ e. let b = both_true (uses_masks f) _ e in (b.0, eqb-false k blocks (not-true (eqb k blocks) b.1)),
        λ m. rw (m.0, ne_eqb k blocks m.1),
      );
      off = masks-right f k blocks;
    }

-- A table, asked for or not: its numbers only where it is, and none where it is good.
module _ (on : Bool) (fault : Checked) (ns : List ℕ) (none : one_of ns 0 ≡ false) (numbers : Among (0 ∷ ns) fault) (Good : Type 0) (good : (number_of fault ≡ 0) ↔ Good) where
  looked-among : Among (0 ∷ ns) (pick on fault (Ok tt))
  looked-among = of_either (Among (0 ∷ ns)) on fault (Ok tt) numbers refl

  looked-0 : (number_of (pick on fault (Ok tt)) ≡ 0) ↔ (on ≡ true → Good)
  looked-0 = by on
    where
      by : (b : Bool) → (number_of (pick b fault (Ok tt)) ≡ 0) ↔ (b ≡ true → Good)
      by true = (λ e d. good.0 e, λ g. good.1 (g refl))
      by false = (λ e d. absurd (false≢true d), λ g. refl)

  looked-gives : (n : ℕ) → one_of ns n ≡ true → (number_of (pick on fault (Ok tt)) ≡ n) ↔ ((on ≡ true) × (number_of fault ≡ n))
  looked-gives n i = inside-exactly (itself on) fault (Ok tt) n (apart ns 0 n i none)

-- masks and conditions are not asked for in one setting
pub one-setting : (f : Flags) → uses_conditions f ≡ true → uses_masks f ≡ true → ⊥
one-setting f c m = by f.masks (both_true f.detect _ c).1 (both_true f.detect _ m).1
  where
    by : (masks : Masks) → is_conditions masks ≡ true → is_lent masks ≡ true → ⊥
    by All x y = false≢true x
    by Lent x y = false≢true x
    by Conditions x y = false≢true y

-- The tables: the conditions, then the vectors. None of their numbers where they are good or not asked for.
module _ (f : Flags) (t : Tables) where
  conditions-0 : (number_of (conditions_refusal f t.conditions) ≡ 0) ↔ ConditionsPass f t.conditions
  conditions-0 =
      looked-0 (uses_conditions f) (condition_fault t.conditions) condition_numbers refl (selecting.fault-numbers t.conditions) (GoodConditions t.conditions) (selecting.conditions-0 t.conditions)

  conditions-among : Among (0 ∷ condition_numbers) (conditions_refusal f t.conditions)
  conditions-among =
      looked-among (uses_conditions f) (condition_fault t.conditions) condition_numbers refl (selecting.fault-numbers t.conditions) (GoodConditions t.conditions) (selecting.conditions-0 t.conditions)

  conditions-give : (n : ℕ) → one_of condition_numbers n ≡ true → (number_of (conditions_refusal f t.conditions) ≡ n) ↔ ConditionsGive f t n
  conditions-give =
      looked-gives (uses_conditions f) (condition_fault t.conditions) condition_numbers refl (selecting.fault-numbers t.conditions) (GoodConditions t.conditions) (selecting.conditions-0 t.conditions)

  vectors-0 : (number_of (vectors_refusal f t.vectors) ≡ 0) ↔ VectorsPass f t.vectors
  vectors-0 =
      looked-0 f.detect (table_fault t.vectors) table_numbers refl (vectors.fault-numbers t.vectors) (GoodTable t.vectors) (table-0 t.vectors)

  vectors-among : Among (0 ∷ table_numbers) (vectors_refusal f t.vectors)
  vectors-among =
      looked-among f.detect (table_fault t.vectors) table_numbers refl (vectors.fault-numbers t.vectors) (GoodTable t.vectors) (table-0 t.vectors)

  vectors-give : (n : ℕ) → one_of table_numbers n ≡ true → (number_of (vectors_refusal f t.vectors) ≡ n) ↔ ((f.detect ≡ true) × (number_of (table_fault t.vectors) ≡ n))
  vectors-give =
      looked-gives f.detect (table_fault t.vectors) table_numbers refl (vectors.fault-numbers t.vectors) (GoodTable t.vectors) (table-0 t.vectors)

  tables-among : Among (0 ∷ both_numbers) (tables_refusal f t)
  tables-among =
      first-of-among (conditions_refusal f t.conditions) (vectors_refusal f t.vectors) (0 ∷ both_numbers)
      (within (0 ∷ both_numbers) (0 ∷ condition_numbers) (number_of (conditions_refusal f t.conditions)) refl conditions-among)
      (within (0 ∷ both_numbers) (0 ∷ table_numbers) (number_of (vectors_refusal f t.vectors)) refl vectors-among)

  tables-0 : (number_of (tables_refusal f t) ≡ 0) ↔ GoodTables f t
  tables-0 =
      let b = first-of-0 (conditions_refusal f t.conditions) (vectors_refusal f t.vectors) in
      (λ e. (conditions-0.0 (b.0 e).0, vectors-0.0 (b.0 e).1), λ g. b.1 (conditions-0.1 g.0, vectors-0.1 g.1))

  tables-conditions : (n : ℕ) → one_of condition_numbers n ≡ true → (number_of (tables_refusal f t) ≡ n) ↔ ConditionsGive f t n
  tables-conditions n i =
      let o = first-of-own (conditions_refusal f t.conditions) (vectors_refusal f t.vectors) n (λ z. apart condition_numbers 0 n i refl (sym z)) (λ z. apart (0 ∷ table_numbers) n (number_of (vectors_refusal f t.vectors)) vectors-among (outside (0 ∷ table_numbers) condition_numbers n refl i) (sym z)) in
      (λ e. (conditions-give n i).0 (o.0 e), λ g. o.1 ((conditions-give n i).1 g))

  tables-vectors : (n : ℕ) → one_of table_numbers n ≡ true → (number_of (tables_refusal f t) ≡ n) ↔ VectorsGive f t n
  tables-vectors n i =
      let o = first-of-behind (conditions_refusal f t.conditions) (vectors_refusal f t.vectors) n (λ z. apart (0 ∷ condition_numbers) n (number_of (conditions_refusal f t.conditions)) conditions-among (outside (0 ∷ condition_numbers) table_numbers n refl i) (sym z)) in
      let v = vectors-give n i in (
        λ e. (conditions-0.0 (o.0 e).0, (v.0 (o.0 e).1).0, (v.0 (o.0 e).1).1),
        λ g. o.1 (conditions-0.1 g.0, v.1 (g.1, g.2)),
      )

  -- the tables that pass are good where they are asked for
  pub tables-good : tables_refusal f t ≡ (Ok tt) → GoodTables f t
  tables-good e = tables-0.0 (ap number_of e)

  pub good-tables : GoodTables f t → tables_refusal f t ≡ Ok tt
  good-tables g = nothing_is _ (passes (tables_refusal f t) (tables-0.1 g))

-- The tables for so many blocks: those of no block are not looked at.
module _ (f : Flags) (t : Tables) (blocks : ℕ) where
  -- what is wrong with them
  abbrev behind_masks : Checked
  behind_masks = pick (eqb blocks 0) (Ok tt) (tables_refusal f t)

  behind-among : Among (0 ∷ both_numbers) behind_masks
  behind-among = of_either (Among (0 ∷ both_numbers)) (eqb blocks 0) (Ok tt) (tables_refusal f t) refl (tables-among f t)

  behind-0 : (number_of behind_masks ≡ 0) ↔ (1 ≤ blocks → GoodTables f t)
  behind-0 = by (eqb blocks 0) (no_block blocks)
    where
      by : (b : Bool) → Decides b (blocks ≡ 0) (1 ≤ blocks) → (number_of (pick b (Ok tt) (tables_refusal f t)) ≡ 0) ↔ (1 ≤ blocks → GoodTables f t)
      by true d = (λ e n. absurd (omega (arith, d.on.0 refl, n)), λ g. refl)
      by false d = (λ e n. (tables-0 f t).0 e, λ g. (tables-0 f t).1 (g (d.off.0 refl)))

  behind-gives : (n : ℕ) (R : Type 0) → one_of both_numbers n ≡ true → (number_of (tables_refusal f t) ≡ n) ↔ R → (number_of behind_masks ≡ n) ↔ ((1 ≤ blocks) × R)
  behind-gives n R i = later-exactly (no_block blocks) (Ok tt) (tables_refusal f t) n R (apart both_numbers 0 n i refl)

-- The loan: 6, then the tables.
module _ (f : Flags) (l : Loan) (blocks : ℕ) where
  masks-first : InFront (loan_refusal f l blocks) (Err MaskCount) (behind_masks f l.tables blocks) (Miscounted f l blocks) (WellCounted f l blocks) (0 ∷ both_numbers)
  unfolding loan_refusal
  masks-first = in-front (masks-decide f l blocks) _ (Err MaskCount) _ (0 ∷ both_numbers) refl (behind-among f l.tables blocks) refl

  -- a number of the tables, behind the masks: only where a block is compressed
  behind_masks_lem : (n : ℕ) (R : Type 0) → one_of both_numbers n ≡ true → (number_of (tables_refusal f l.tables) ≡ n) ↔ R
      → (number_of (loan_refusal f l blocks) ≡ n) ↔ (WellCounted f l blocks × ((1 ≤ blocks) × R))
  behind_masks_lem n R i d =
      masks-first.behind n _ (within (0 ∷ both_numbers) both_numbers n refl i) (behind-gives f l.tables blocks n R i d)

  pub loan-0 : (number_of (loan_refusal f l blocks) ≡ 0) ↔ GoodLoan f l blocks
  loan-0 = masks-first.behind 0 _ refl (behind-0 f l.tables blocks)

  pub loan-6 : (number_of (loan_refusal f l blocks) ≡ 6) ↔ Miscounted f l blocks
  loan-6 = masks-first.at_own

  -- 12 and 13, where 6 is never given: the two settings exclude each other
  pub loan-conditions : (n : ℕ) → one_of condition_numbers n ≡ true → (number_of (loan_refusal f l blocks) ≡ n) ↔ ((1 ≤ blocks) × ConditionsGive f l.tables n)
  loan-conditions n i =
      let b = behind_masks_lem n _ (within both_numbers condition_numbers n refl i) (tables-conditions f l.tables n i) in
      (λ e. (b.0 e).1, λ g. b.1 (λ u. absurd (one-setting f g.1.0 u), g))

  pub loan-table : (n : ℕ) → one_of table_numbers n ≡ true → (number_of (loan_refusal f l blocks) ≡ n) ↔ (WellCounted f l blocks × ((1 ≤ blocks) × VectorsGive f l.tables n))
  loan-table n t = behind_masks_lem n _ (within both_numbers table_numbers n refl t) (tables-vectors f l.tables n t)

  -- for a block at least, and masks that are as many, what is given is what is wrong with the tables, number and place
  pub loan-is : 1 ≤ blocks → WellCounted f l blocks → loan_refusal f l blocks ≡ tables_refusal f l.tables
  loan-is some c = masks-first.is c ∙ later-is (no_block blocks) (Ok tt) (tables_refusal f l.tables) some

  -- where the conditions are looked at and bad, what is wrong with them is what is given, number and place
  pub loan-gives-conditions : 1 ≤ blocks → uses_conditions f ≡ true → (GoodConditions l.tables.conditions → ⊥)
      → loan_refusal f l blocks ≡ condition_fault l.tables.conditions
  loan-gives-conditions some u b =
      loan-is some (λ m. absurd (one-setting f u m))
      ∙ first-of-first (conditions_refusal f l.tables.conditions) (vectors_refusal f l.tables.vectors) (λ z. b ((conditions-0 f l.tables).0 z u))
      ∙ inside_is (itself (uses_conditions f)) (condition_fault l.tables.conditions) (Ok tt) u

  -- where the vectors are looked at and the conditions pass, what is wrong with the vectors is what is given, number and place
  pub loan-gives : 1 ≤ blocks → WellCounted f l blocks → ConditionsPass f l.tables.conditions → f.detect ≡ true
      → loan_refusal f l blocks ≡ table_fault l.tables.vectors
  loan-gives some c p d =
      loan-is some c
      ∙ first-of-second (conditions_refusal f l.tables.conditions) (vectors_refusal f l.tables.vectors) ((conditions-0 f l.tables).1 p)
      ∙ inside_is (itself f.detect) (table_fault l.tables.vectors) (Ok tt) d

  -- no other number
  pub loan-only : one_of (0 ∷ loan_numbers) (number_of (loan_refusal f l blocks)) ≡ true
  loan-only = within (0 ∷ loan_numbers) (6 ∷ 0 ∷ both_numbers) (number_of (loan_refusal f l blocks)) refl masks-first.among

-- For no block the tables are not looked at: any two give the same.
pub loan-short : (f : Flags) (t u : Tables) (masks : List ℕ) → loan_refusal f (lend t masks) 0 ≡ loan_refusal f (lend u masks) 0
unfolding loan_refusal
loan-short f t u masks = refl

-- The conditions that the flags ask for are good where the tables pass.
pub looked-conditions : (f : Flags) (t : Tables) → tables_refusal f t ≡ (Ok tt) → GoodConditions (conditions_for f t.conditions)
looked-conditions f t e = by (uses_conditions f) (tables-good f t e).0
  where
    by : (on : Bool) → (on ≡ true → GoodConditions t.conditions) → GoodConditions (pick on t.conditions [])
    by true g = g refl
    by false g = selecting.none-good

pub accepted-conditions : (f : Flags) (l : Loan) (blocks : ℕ) → loan_refusal f l blocks ≡ (Ok tt) → 1 ≤ blocks → GoodConditions (conditions_for f l.tables.conditions)
accepted-conditions f l blocks e some = looked-conditions f l.tables ((loan-accepted f l blocks e).good some)
