-- `table::record_fault` meets its contract. Assumes nothing.
use mathlib.Core.Path.{◌≡◌, sym, ap, ◌∙◌}
use mathlib.Core.Bool.{true, false}
use native.Mathlib.Omega.{arith}
use borrow.Author.Tests.{lt-ltb, not-false}
use lib.Dec.{ltb}
use lib.ListN.{get_or, take, drop}
use Rattle.std.specs.Result.{is_err}
use Rattle.table.specs.Limits.{mask_bits, dm_words}
use Rattle.table.specs.Table.{obeys}
use Rattle.table.proofs.Record.{known, named_is}
use Rattle.table.proofs.record_fault.Goals as goal

pub returns-then-not-obeys_rule : goal.returns-then-not-obeys_rule
returns-then-not-obeys_rule c =
    let r = c.args.record.now in
    let m : ltb (get_or r 0 0) mask_bits ≡ true = lt-ltb _ _ (omega arith) in
    let k : known (get_or r 1 0) ≡ true = not-false (known (get_or r 1 0)) (sym (named_is (get_or r 1 0)) ∙ sym (ap is_err c.try_from.ensures) ∙ sym c.is_err.ensures.value ∙ c.if-is_err.false) in
    let o : obeys (take dm_words (drop 2 r)) ≡ false = sym c.obeys_rule.ensures ∙ c.if-not-obeys_rule.true in
    rw (m, k, o)

pub returns : goal.returns
returns c =
    let r = c.args.record.now in
    let m : ltb (get_or r 0 0) mask_bits ≡ true = lt-ltb _ _ (omega arith) in
    let k : known (get_or r 1 0) ≡ true = not-false (known (get_or r 1 0)) (sym (named_is (get_or r 1 0)) ∙ sym (ap is_err c.try_from.ensures) ∙ sym c.is_err.ensures.value ∙ c.if-is_err.false) in
    let o : obeys (take dm_words (drop 2 r)) ≡ true = sym c.obeys_rule.ensures ∙ c.if-not-obeys_rule.false in
    rw (m, k, o)
