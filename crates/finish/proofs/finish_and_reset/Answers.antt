-- `finish::finish_and_reset` meets its contract.
use Rattle.std.proofs.Common.{◌≡◌, sym, ap, ◌∙◌, length, arith}
use Rattle.std.specs.Prelude.{Ok}
use Rattle.octets.proofs.Stored.{stored-n}
use Rattle.fips.proofs.Tails.{digest-length}
use Rattle.loan.specs.Loan.{loan_in}
use Rattle.finish.specs.Finish.{finish_refusal, written_out}
use Rattle.finish.proofs.Finishing.{finish-finishing, finishing-conditions}
use Rattle.finish.proofs.finish_and_reset.Goals as goal

pub last_chain-c-requires : goal.last_chain-c-requires
last_chain-c-requires c =
    let f = finish-finishing _ _ _ (sym c.check_finish.ensures ∙ c.in_ok-check_finish.was) in
    record { h_value = f.well; good_conditions = finishing-conditions _ _ _ f }

pub store-requires : goal.store-requires
store-requires c =
    let s = (finish-finishing _ _ _ (sym c.check_finish.ensures ∙ c.in_ok-check_finish.was)).sized in
    let d = ap length c.digest.ensures ∙ digest-length _ in
    record { n_in_bounds = omega arith; n_in_bounds_2 = omega arith }

pub returns-clause-written : goal.returns-clause-written
unfolding written_out
returns-clause-written c =
    let a = c.args in
    let n : finish_refusal a.h (length a.out.now) (loan_in a.lent) ≡ Ok tt = sym c.check_finish.ensures ∙ c.in_ok-check_finish.was in
    let d = ap length c.digest.ensures ∙ digest-length _ in
    rw n (c.store.ensures ∙ stored-n a.out.now c.digest.result 20 (finish-finishing _ _ _ n).sized d ∙ c.digest.ensures ∙ rw c.last_chain-c.ensures)
