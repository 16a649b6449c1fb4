-- `table::table_fault` meets its contract. Assumes nothing.
use mathlib.Core.Path.{◌≡◌, sym, ap, ◌∙◌}
use mathlib.Core.Logic.{inl, inr}
use mathlib.Core.Bool.{true, false}
use Prim.Native.Nat.{ℕ, ◌%◌, ◌<◌, ◌≤◌}
use native.Mathlib.Nat.{sub-zero}
use native.Mathlib.Omega.{arith}
use borrow.Author.Tests.{eqb-true, eqb-false}
use lib.Dec.{eqb}
use lib.ListN.{length}
use Rattle.std.specs.Prelude.{is_ok}
use Rattle.refusal.proofs.First.{first-here, first_more, first_done}
use Rattle.refusal.proofs.Passed.{handed_on}
use Rattle.table.specs.Limits.{record_words, most_records}
use Rattle.table.specs.Table.{records_in, record_fault, whole_records}
use Rattle.table.proofs.Chunks.{fault_is}
use Rattle.table.proofs.Faults.{whole-parts, parts_fault, bad-fault, repeat-given, records-good}
use Rattle.table.proofs.table_fault.Goals as goal
use Rattle.table.proofs.table_fault.Goals.{then-is_empty-via-then-is_empty, then-is_empty-via-else-is_empty+then-records-gt-MOST_RECORDS, then-is_empty-via-else-is_empty+else-records-gt-MOST_RECORDS+then-not-is_empty}

-- what the three tests of the length say where none refuses
whole : (n k r : ℕ) → k ≡ records_in n → r ≡ n % record_words → eqb k 0 ≡ false → k ≤ most_records → eqb r 0 ≡ true → whole_records n ≡ true
whole n k r ek er z m d =
    let s = eqb-false k 0 z in
    let e = eqb-true r 0 d in
    whole-parts n (omega arith) (omega arith) (omega arith)

pub returns-then-is_empty : goal.returns-then-is_empty
returns-then-is_empty c =
    let table = c.args.table.now in
    elim c.then-is_empty.branch [
      | then-is_empty-via-then-is_empty w ↦
          let e = eqb-true (length c.as_chunks.result.0.now) 0 (sym c.is_empty.ensures ∙ w.if-is_empty.true) in
          sym (parts_fault table (inl (omega arith)))
      | then-is_empty-via-else-is_empty+then-records-gt-MOST_RECORDS w ↦ sym (parts_fault table (inr (inl (omega arith))))
      | then-is_empty-via-else-is_empty+else-records-gt-MOST_RECORDS+then-not-is_empty w ↦
          let e = eqb-false (length c.as_chunks.result.1.now) 0 (sym w.is_empty-else-records-gt-MOST_RECORDS.ensures ∙ w.if-not-is_empty.true) in
          sym (parts_fault table (inr (inr (λ z. e (c.as_chunks.ensures.back_len ∙ z)))))
    ]

pub loop-i-init : goal.loop-i-init
loop-i-init c = rw (sub-zero _)

pub returns-in_err-record_fault : goal.returns-in_err-record_fault
returns-in_err-record_fault c =
    let table = c.args.table.now in
    let h : c.loop-i.i < records_in (length table) = omega arith in
    let k = whole (length table) _ _ c.as_chunks.ensures.front_len c.as_chunks.ensures.back_len (sym c.is_empty.ensures ∙ c.if-is_empty.false) (omega arith)
    (sym c.is_empty-else-records-gt-MOST_RECORDS.ensures ∙ c.if-not-is_empty.false) in
    let p = handed_on c.from_residual.result c.in_err-record_fault.field-0.0 c.from_residual.ensures.1 in
    let f = sym (fault_is table c.as_chunks.result.0.now c.loop-i.i c.as_chunks.ensures.front h) ∙ sym c.record_fault.ensures ∙ c.in_err-record_fault.was in
    let e = sym c.loop-i.invariant ∙ first-here (record_fault table) c.loop-i.i (records_in (length table)) h (ap is_ok f) ∙ f in
    p ∙ sym (bad-fault table k (ap is_ok e) ∙ e)

pub loop-i-preserved : goal.loop-i-preserved
loop-i-preserved c =
    let table = c.args.table.now in
    let h : c.loop-i.i < records_in (length table) = omega arith in
    let f = sym (fault_is table c.as_chunks.result.0.now c.loop-i.i c.as_chunks.ensures.front h) ∙ sym c.record_fault.ensures ∙ c.in_ok-record_fault.was in
    sym (first_more (record_fault table) c.loop-i.i (records_in (length table)) h (ap is_ok f)) ∙ c.loop-i.invariant

pub first_repeat-requires : goal.first_repeat-requires
first_repeat-requires c =
    let table = c.args.table.now in
    records-good table (ap is_ok (sym c.loop-i.invariant ∙ first_done (record_fault table) c.loop-i.i (records_in (length table)) (omega arith)))

pub returns : goal.returns
returns c =
    let table = c.args.table.now in
    let k = whole (length table) _ _ c.as_chunks.ensures.front_len c.as_chunks.ensures.back_len (sym c.is_empty.ensures ∙ c.if-is_empty.false) (omega arith)
    (sym c.is_empty-else-records-gt-MOST_RECORDS.ensures ∙ c.if-not-is_empty.false) in
    c.first_repeat.ensures ∙ sym (repeat-given table k (ap is_ok (sym c.loop-i.invariant ∙ first_done (record_fault table) c.loop-i.i (records_in (length table)) (omega arith))))
