-- One mask number, one vector: 11 and its place, numbers that are all different, and what they say of the number tried. 02, request g. Assumes nothing.
use mathlib.Core.Path.{◌≡◌, refl, sym, ap, ◌∙◌}
use mathlib.Core.Logic.{◌↔◌, ⊎_elim}
use mathlib.Core.Bool.{Bool, true, false, true≢false, false≢true}
use mathlib.Core.List.{List, [], ◌∷◌}
use Prim.Native.Nat.{ℕ, suc, ◌≤◌, ◌<◌}
use native.Mathlib.Nat.{lt_of_not-le}
use native.Mathlib.Omega.{arith}
use borrow.Author.Tests.{eqb-true}
use lib.Dec.{eqb}
use lib.ListN.{length}
use Rattle.search.specs.Search.{is_marked}
use Rattle.std.specs.Prelude.{Ok, is_ok}
use Rattle.word.proofs.Tests.{one-true}
use Rattle.refusal.specs.Refusal.{number_of, place_of, table_numbers, one_of}
use Rattle.refusal.proofs.Chains.{passes, nothing_is}
use Rattle.step.specs.Step.{regs_of}
use Rattle.step.specs.declared.Regs.{Regs}
use Rattle.block.specs.Schedule.{words_of, schedule_of}
use Rattle.table.specs.Limits.{mask_bits}
use Rattle.table.specs.Bits.{has_bit}
use Rattle.table.specs.Table.{records_in, mask_number_at, table_fault}
use Rattle.table.specs.Good.{BadLength, GoodBelow, Repeats, TwoAlike, GoodTable}
use Rattle.table.proofs.Faults.{fault-numbers, is-2}
use Rattle.table.proofs.Lines.{line-11, line-11-at}
use Rattle.table.proofs.Good.{table-0}
use Rattle.search.specs.Marks.{selects, marks}
use Rattle.search.specs.Ended.{Ended, hit, miss}
use Rattle.search.specs.declared.Found.{Found}
use Rattle.search.proofs.Counted.{count-grows, count_most}
use Rattle.detect.specs.Detect.{answer_of, one_block_of, BlockAccount}
use Rattle.detect.specs.declared.Mode.{Mode}
use Rattle.claims.specs.First.{Least}
use Rattle.claims.specs.Tried.{bits_set, records_set}
use Rattle.claims.proofs.OneBlock.{place-and-tried, block-answered}
use Rattle.claims.proofs.Refusals.{without, block_0, block_refused}

module _ (table : List ℕ) where
  -- 11 exactly when the length is right, no record is bad, and two records have one mask number,
  pub repeats-exactly : (number_of (table_fault table) ≡ 11) ↔ ((BadLength (length table) → ⊥) × GoodBelow table (records_in (length table)) × TwoAlike table)
  repeats-exactly = line-11 table

  -- and its place is the least whose mask number an earlier record has.
  pub least-repeat : number_of (table_fault table) ≡ 11 → Least (records_in (length table)) (Repeats table) (place_of (table_fault table))
  least-repeat e =
      let f = (line-11-at table _).0 (e, refl) in
      record { inside = f.inside; holds = f.repeats; none_before = f.before }

  -- A bad record comes first: with the right length and a record that is not good, wherever it stands, the number is 3, 4 or 5, whatever repeats.
  pub bad-record-first : (BadLength (length table) → ⊥) → (GoodBelow table (records_in (length table)) → ⊥) → one_of (3 ∷ 4 ∷ 5 ∷ []) (number_of (table_fault table)) ≡ true
  bad-record-first whole bad =
      let n = number_of (table_fault table) in
      without (3 ∷ 4 ∷ 5 ∷ []) (0 ∷ 2 ∷ 11 ∷ []) (0 ∷ table_numbers) n refl (fault-numbers table)
      (λ o.
      ⊎_elim (λ e. bad ((table-0 table).0 (sym (eqb-true 0 n e))).each)
      (λ o. ⊎_elim (λ e. whole ((is-2 table).0 (sym (eqb-true 2 n e))))
      (λ o. ⊎_elim (λ e. bad ((line-11 table).0 (sym (eqb-true 11 n e))).1) false≢true (one-true (eqb 11 n) _ o)) (one-true (eqb 2 n) _ o))
      (one-true (eqb 0 n) _ o))

  module _ (good : GoodTable table) where
    -- A good table's mask numbers are all different:
    pub all-different : (i j : ℕ) → i < records_in (length table) → j < records_in (length table) → mask_number_at table i ≡ mask_number_at table j → i ≡ j
    all-different i j hi hj e =
        let a : i < suc j = lt_of_not-le (λ l. good.different i hi (j, l, sym e)) in
        let b : j < suc i = lt_of_not-le (λ l. good.different j hj (i, l, e)) in
        omega arith

    -- there is at most one record for each bit.
    pub one-record-a-bit : (b i j : ℕ) → i < records_in (length table) → j < records_in (length table) → mask_number_at table i ≡ b → mask_number_at table j ≡ b → i ≡ j
    one-record-a-bit b i j hi hj p q = all-different i j hi hj (p ∙ sym q)

    -- So the records that a mask selects are no more than the bits set in it,
    pub records-most : (mask : ℕ) → records_set table mask ≤ bits_set mask
    records-most mask =
        count_most (mask_number_at table) (has_bit mask) mask_bits (records_in (length table)) (λ i l. (good.each i l).mask) good.different

    tried-by : (mask : ℕ) (test : ℕ → Bool) {f : Found} → Ended (selects mask table) test (records_in (length table)) 0 f → f.tried ≤ bits_set mask
    tried-by mask test (hit p a b s m none) =
        omega (arith, records-most mask, count-grows (selects mask table) (suc p) (records_in (length table)) b)
    tried-by mask test (miss none) = records-most mask

    -- and no more are tried with a block.
    pub tried-most : (mode : Mode) (h : Regs) (block : List ℕ) (mask : ℕ) → (answer_of mode table h block mask).found.tried ≤ bits_set mask
    tried-most mode h block mask = tried-by mask (marks mode.reduced h (schedule_of (words_of block)) table) (place-and-tried mode table h block mask)

  all-tried : (mask : ℕ) (test : ℕ → Bool) {f : Found} → Ended (selects mask table) test (records_in (length table)) 0 f → is_marked f ≡ false → f.tried ≡ records_set table mask
  all-tried mask test (hit p a b s m none) e = absurd (true≢false e)
  all-tried mask test (miss none) e = refl

  -- Unmarked, they are exactly the records whose bit is set.
  pub tried-unmarked : (mode : Mode) (h : Regs) (block : List ℕ) (mask : ℕ) → is_marked (answer_of mode table h block mask).found ≡ false
      → (answer_of mode table h block mask).found.tried ≡ records_set table mask
  tried-unmarked mode h block mask = all-tried mask (marks mode.reduced h (schedule_of (words_of block)) table) (place-and-tried mode table h block mask)

-- The one-block entry never says that more were tried, refused or not,
module _ (five block table : List ℕ) (mask : ℕ) (mode : Mode) where
  pub entry-tried-most : (one_block_of five block table mask mode).found.tried ≤ bits_set mask
  entry-tried-most = by (is_ok (one_block_of five block table mask mode).refusal) refl
    where
      by : (b : Bool) → is_ok (one_block_of five block table mask mode).refusal ≡ b → (one_block_of five block table mask mode).found.tried ≤ bits_set mask
      by true e =
          let ok = nothing_is _ e in
          rw (block-answered five block table mask mode ok) (tried-most table ((block_0 five block table mask mode).0 (ap number_of ok)).1 mode (regs_of five) block mask)
      by false e =
          rw (block_refused five block table mask mode (λ z. true≢false (sym (passes _ z) ∙ e))) (omega arith)

  -- and where it refuses nothing and the block is unmarked, exactly so many.
  pub entry-tried-unmarked : (one_block_of five block table mask mode).refusal ≡ (Ok tt) → is_marked (one_block_of five block table mask mode).found ≡ false
      → (one_block_of five block table mask mode).found.tried ≡ records_set table mask
  entry-tried-unmarked ok e =
      let a = block-answered five block table mask mode ok in
      ap (λ (o : BlockAccount). o.found.tried) a ∙ tried-unmarked table mode (regs_of five) block mask (sym (ap (λ (o : BlockAccount). is_marked o.found) a) ∙ e)
