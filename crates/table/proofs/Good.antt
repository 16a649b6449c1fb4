-- What a table with no fault has, for the layers that read it. Assumes nothing.
use mathlib.Core.Path.{◌≡◌, sym, ap, ◌∙◌}
use mathlib.Core.Logic.{⊎_elim, ◌↔◌}
use mathlib.Core.Bool.{true, true≢false}
use mathlib.Core.List.{List}
use Prim.Native.Nat.{ℕ}
use native.Mathlib.Nat.{div-add-mod}
use native.Mathlib.Omega.{arith}
use lib.ListN.{length}
use Rattle.std.specs.Prelude.{Ok, is_ok}
use Rattle.refusal.specs.Refusal.{number_of}
use Rattle.refusal.proofs.Chains.{passes}
use Rattle.table.specs.Limits.{record_words}
use Rattle.table.specs.Table.{steps_before, testt_of, records_in, whole_records, table_fault}
use Rattle.table.specs.Good.{Known, GoodBelow, DifferentBelow, GoodTable}
use Rattle.word.proofs.Tests.{unless-false}
use Rattle.table.proofs.Faults.{whole_length, not-whole, length-fault, good-or-bad, different-or-repeat, first_bad_lem, first_repeat_lem, all-good}

-- a known test step is the number of steps before it
pub step_of : (x : ℕ) → Known x → steps_before (testt_of x) ≡ x
step_of x = ⊎_elim (λ e. rw e) (λ e. rw e)

module _ (table : List ℕ) where
  is_whole : is_ok (table_fault table) ≡ true → whole_records (length table) ≡ true
  is_whole h = unless-false _ (λ w. true≢false (sym h ∙ ap is_ok (length-fault table w)))

  -- were one bad, the first bad one would be the table's fault
  good-below : is_ok (table_fault table) ≡ true → GoodBelow table (records_in (length table))
  good-below h =
      ⊎_elim (λ g. g)
      (λ b. absurd (true≢false (sym h ∙ (ap is_ok (first_bad_lem table (is_whole h) b.0 b.1 b.2 b.3) ∙ b.3))))
      (good-or-bad table (records_in (length table)))

  -- were one to repeat, the first that does would be
  different-below : is_ok (table_fault table) ≡ true → DifferentBelow table (records_in (length table))
  different-below h =
      ⊎_elim (λ d. d)
      (λ r. absurd (true≢false (sym h ∙ ap is_ok (first_repeat_lem table (is_whole h) (good-below h) r.0 r.1 r.2 r.3))))
      (different-or-repeat table (records_in (length table)))

  pub good-table : is_ok (table_fault table) ≡ true → GoodTable table
  good-table h =
      let w = whole_length (length table) (is_whole h) in
      let e = div-add-mod (length table) record_words in
      record {
        whole = omega arith;
        some = omega arith;
        most = omega arith;
        each = good-below h;
        different = different-below h;
      }

  -- a table has no fault exactly when it is good
  pub accepted : (table_fault table ≡ (Ok tt)) ↔ GoodTable table
  accepted = (
    λ e. good-table (ap is_ok e),
    λ g. all-good table (unless-false _ (λ w.
        ⊎_elim (λ e. omega arith) (⊎_elim (λ e. omega arith) (λ e. e (omega arith))) ((not-whole (length table)).0 w)))
        g.each g.different,
  )

  -- and so has the number 0
  pub table-0 : (number_of (table_fault table) ≡ 0) ↔ GoodTable table
  table-0 = (λ e. good-table (passes (table_fault table) e), λ g. ap number_of (accepted.1 g))
