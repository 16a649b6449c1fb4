-- `update::update` meets its contract.
use Rattle.std.proofs.Common.{sym, ◌∙◌, arith}
use Rattle.loan.specs.Loan.{loan_in}
use Rattle.loan.proofs.Loans.{accepted-conditions}
use Rattle.hasher.proofs.Formed.{formed}
use Rattle.update.proofs.Taken.{refusal_is, update-taken}
use Rattle.update.proofs.update.Goals as goal

pub absorb-requires : goal.absorb-requires
absorb-requires c =
    let a = c.args in
    let r = update-taken a.h a.bytes.now (loan_in a.lent) (refusal_is _ _ _ ∙ sym c.check_update.ensures ∙ c.in_ok-check_update.was) in
    let f = formed a.h r.well in
    record { fill-le = f.fill-le; zeros = f.zeros; fits = r.fits; selects = λ some. accepted-conditions _ _ _ r.loan (omega (arith, some)) }
