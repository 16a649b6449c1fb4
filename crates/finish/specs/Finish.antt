-- Finishing a message: the last blocks, the digest and the verdict.
use Rattle.std.specs.Prelude.{Bool, not, List, ℕ, eqb, length, replicate, Option, Some, None, Result, Ok, Err, Ok as Done, Err as Refused, is_ok}
use Rattle.std.specs.Result.{result_map_both}
use Rattle.word.specs.Choice.{pick}
use Rattle.refusal.specs.Refusal.{number_of, place_of, Checked}
use Rattle.refusal.specs.declared.Refusal.{Refusal}
use Rattle.refusal.specs.declared.Refusal.TheVariants.{HasherForm, Size}
use Rattle.verdict.specs.Verdict.{digest_size, verdict_of}
use Rattle.verdict.specs.declared.Verdict.{Verdict}
use Rattle.verdict.specs.declared.Verdict.TheVariants.{Ok as Unmarked, Mitigated, Collision}
use Rattle.fips.specs.Fips.{digest_of}
use Rattle.fips.specs.Tail.{tail_blocks, tail_of}
use Rattle.loan.specs.Loan.{Loan, loan_refusal}
use Rattle.stream.specs.Fold.{nowhere, folded}
use Rattle.stream.specs.declared.FirstMark.{FirstMark}
use Rattle.stream.specs.declared.Chain.{Chain}
use Rattle.hasher.specs.Hasher.{well_formed, taken, chain_of, fresh_of}
use Rattle.hasher.specs.declared.Hasher.{Hasher}
use Rattle.finish.specs.declared.Finished.{Finished}
use Rattle.finish.specs.declared.FinishedReset.{FinishedReset}

-- the chain after the last blocks
unfoldable pub last_chain : Hasher → Loan → Chain
last_chain h l = folded h.flags l (chain_of h) (tail_of h.pending h.fill (taken h))

-- what a finish refuses: 1, 8 for an output of another size, then what is lent for the last blocks
unfoldable pub finish_refusal : Hasher → ℕ → Loan → Checked
finish_refusal h size l =
    pick (not (well_formed h)) (Err HasherForm)
    (pick (not (eqb size digest_size)) (Err Size)
    (loan_refusal h.flags l (tail_blocks h.fill)))

-- the verdict on a message, or what was refused
abbrev pub Outcome : Type 0
Outcome = Result Verdict Refusal

-- a refusal, or the verdict on a chain
abbrev pub outcome_of : Checked → Chain → Bool → Outcome
outcome_of (Ok u) c mitigate = Done (verdict_of c.mark mitigate)
outcome_of (Err r) c mitigate = Refused r

-- what an outcome refuses: nothing where there is a verdict
abbrev pub outcome_refusal : Outcome → Checked
outcome_refusal (Done v) = Ok tt
outcome_refusal (Refused r) = Err r

-- an outcome's number in the table of docs/BEHAVIOUR.md; 0 for a verdict
abbrev pub outcome_number : Outcome → ℕ
outcome_number o = number_of (outcome_refusal o)

-- the place, from 0, of the record that decides; 0 for a verdict and for the other numbers
abbrev pub outcome_place : Outcome → ℕ
outcome_place o = place_of (outcome_refusal o)

-- the digest of a chain, or what stands there on a refusal
abbrev pub digest_or : Checked → Chain → List ℕ → List ℕ
digest_or r c other = pick (is_ok r) (digest_of c.words) other

-- the first mark of a chain, or zeros on a refusal
abbrev pub first_or : Checked → Chain → FirstMark
first_or r c = pick (is_ok r) c.first nowhere

-- what is told of the first mark beside a verdict: nothing beside ok
abbrev pub first_told : Verdict → FirstMark → Option FirstMark
first_told Unmarked first = None
first_told Mitigated first = Some first
first_told Collision first = Some first

-- the whole account of a finish: zeros for the digest and the first mark on a refusal
pub record FinishAccount : Type 0 where
  pub outcome : Outcome
  pub digest : List ℕ
  pub first : FirstMark
  pub hasher : Hasher

-- what a caller is handed of it: the refusal alone, or what stands beside the verdict
abbrev pub finish_handed : FinishAccount → Result Finished Refusal
finish_handed a =
    result_map_both (λ v. record { verdict = v; digest = a.digest; first = first_told v a.first; hasher = a.hasher }) (λ r. r) a.outcome

-- the whole account of a finish-and-reset, beside the output: zeros for the first mark on a refusal
pub record ResetAccount : Type 0 where
  pub outcome : Outcome
  pub first : FirstMark
  pub hasher : Hasher

-- what a caller is handed of it
abbrev pub reset_handed : ResetAccount → Result FinishedReset Refusal
reset_handed a =
    result_map_both (λ v. record { verdict = v; first = first_told v a.first; hasher = a.hasher }) (λ r. r) a.outcome

-- what a finish gives: the hasher comes back as it was
unfoldable pub finished : Hasher → Loan → FinishAccount
finished h l =
    let r = finish_refusal h digest_size l in
    let c = last_chain h l in
    record { outcome = outcome_of r c h.flags.mitigate; digest = digest_or r c (replicate digest_size 0); first = first_or r c; hasher = h }

-- what a finish-and-reset gives: the reset hasher, or on a refusal the hasher as it was
unfoldable pub finished_reset : Hasher → ℕ → Loan → ResetAccount
finished_reset h size l =
    let r = finish_refusal h size l in
    let c = last_chain h l in
    record { outcome = outcome_of r c h.flags.mitigate; first = first_or r c; hasher = pick (is_ok r) (fresh_of h.flags) h }

-- what it leaves in the lent output: the digest, or on a refusal what was there
unfoldable pub written_out : Hasher → List ℕ → Loan → List ℕ
written_out h out l = digest_or (finish_refusal h (length out) l) (last_chain h l) out
