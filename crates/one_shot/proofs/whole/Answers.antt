-- `one_shot::whole` meets its contract.
use Rattle.std.proofs.Common.{◌≡◌, sym, ap, ◌∙◌, length}
use Rattle.loan.specs.Loan.{Loan, loan_in}
use Rattle.update.proofs.Absorbed.{flags-after}
use Rattle.one_shot.specs.Whole.{whole_of}
use Rattle.one_shot.proofs.Fed.{Whole, refusal-whole, whole-vectors, whole_conditions_lem, whole_ready, fed-formed, fed-chain}
use Rattle.one_shot.proofs.whole.Goals as goal

pub absorb-h-requires : goal.absorb-h-requires
absorb-h-requires c =
    let p : Whole c.args.flags (length c.args.bytes.now) (loan_in c.args.lent) = refusal-whole _ _ _ (sym c.check_whole.ensures ∙ c.in_ok-check_whole.was) in
    rw c.new.ensures (whole_ready _ _ _ p.short (whole_conditions_lem _ _ _ p))

pub last_chain-c-requires : goal.last_chain-c-requires
last_chain-c-requires c =
    let p : Whole c.args.flags (length c.args.bytes.now) (loan_in c.args.lent) = refusal-whole _ _ _ (sym c.check_whole.ensures ∙ c.in_ok-check_whole.was) in
    let e : c.later.result.conditions.now ≡ c.args.lent.conditions.now = ap (λ (l : Loan). l.tables.conditions) c.later.ensures in
    rw (c.absorb-h.ensures, c.new.ensures) record { h_value = fed-formed _ _ _ p.short (whole-vectors _ _ _ p); good_conditions = rw (flags-after _ _ _, e) (whole_conditions_lem _ _ _ p) }

pub returns : goal.returns
unfolding whole_of
returns c =
    rw (
      sym c.check_whole.ensures ∙ c.in_ok-check_whole.was,
      c.first_told.ensures,
      c.digest.ensures,
      c.verdict_of-verdict.ensures,
      c.last_chain-c.ensures,
      c.later.ensures,
      c.absorb-h.ensures,
      c.new.ensures,
      fed-chain c.args.flags c.args.bytes.now (loan_in c.args.lent),
    )
