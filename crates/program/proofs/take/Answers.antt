-- `program::take` meets its contract. Assumes nothing.
use mathlib.Core.Path.{◌≡◌, sym, ◌∙◌}
use mathlib.Core.List.{[]}
use Prim.Native.Nat.{◌<◌}
use borrow.Author.Rules.{rules}
use lib.ListN.{take}
use Rattle.line.specs.declared.Failure.TheVariants.{Refused}
use Rattle.loan.specs.Loan.{loan_of}
use Rattle.hasher.specs.Hasher.{hasher_handed}
use Rattle.update.specs.Update.{updated}
use Rattle.program.proofs.Intakes.{take-end, take-failed, take-refused, take-bytes}
use Rattle.line.proofs.Passed.{passed_on}
use Rattle.program.proofs.take.Goals as goal

pub returns-in-0 : goal.returns-in-0
returns-in-0 c =
    rw c.in-Ok.is (sym (take-end c.args.h c.args.table.now c.args.buf.now c.in-Ok.n c.min.result c.min.ensures c.in-0.is))

pub returns-in-Err : goal.returns-in-Err
returns-in-Err c = rw c.in-Err.is (sym (take-failed c.args.h c.args.table.now c.args.buf.now))

pub returns-in_err-update-in_default : goal.returns-in_err-update-in_default
returns-in_err-update-in_default c =
    let k = c.in-Ok.n in
    let n = c.min.result in
    let a = c.args in
    let some : 0 < n = search rules in
    let told : c.update.result ≡ hasher_handed (updated a.h (take n a.buf.now) (loan_of a.table.now [] [])) =
    rw c.of_table.ensures at c.update.ensures in
    passed_on c.from_residual.result (Refused c.in_err-update-in_default.field-0.0) c.from_residual.ensures.1
    ∙ rw c.in-Ok.is (sym (take-refused a.h a.table.now a.buf.now k n c.min.ensures some (sym told ∙ c.in_err-update-in_default.was)))

pub returns-in_ok-update-in_default : goal.returns-in_ok-update-in_default
returns-in_ok-update-in_default c =
    let k = c.in-Ok.n in
    let n = c.min.result in
    let a = c.args in
    let some : 0 < n = search rules in
    let told : c.update.result ≡ hasher_handed (updated a.h (take n a.buf.now) (loan_of a.table.now [] [])) =
    rw c.of_table.ensures at c.update.ensures in
    rw c.in-Ok.is (sym (take-bytes a.h a.table.now a.buf.now k n c.min.ensures some (sym told ∙ c.in_ok-update-in_default.was)))
