-- A whole message in one call.
use Rattle.std.specs.Prelude.{List, ℕ, ◌+◌, ◌/◌, ◌%◌, ltb, length, replicate, Result, Err}
use Rattle.std.specs.Result.{result_map_both}
use Rattle.word.specs.Choice.{pick}
use Rattle.refusal.specs.Refusal.{Checked}
use Rattle.refusal.specs.declared.Refusal.{Refusal}
use Rattle.refusal.specs.declared.Refusal.TheVariants.{MessageLength}
use Rattle.verdict.specs.Verdict.{digest_size}
use Rattle.fips.specs.Fips.{most_bytes, padded}
use Rattle.fips.specs.Tail.{tail_blocks}
use Rattle.flags.specs.Flags.{defaults}
use Rattle.flags.specs.declared.Flags.{Flags}
use Rattle.loan.specs.Loan.{Loan, loan_refusal}
use Rattle.stream.specs.Fold.{first_chain, folded}
use Rattle.stream.specs.declared.Chain.{Chain}
use Rattle.stream.specs.declared.FirstMark.{FirstMark}
use Rattle.finish.specs.Finish.{Outcome, outcome_of, digest_or, first_or, first_told}
use Rattle.one_shot.specs.declared.Digested.{Digested}

-- the blocks of a message of n bytes, padding included
abbrev pub blocks_of : ℕ → ℕ
blocks_of n = n / 64 + tail_blocks (n % 64)

-- what is refused of a message of n bytes: 7, then what is lent for its blocks
unfoldable pub whole_refusal : Flags → ℕ → Loan → Checked
whole_refusal f n l = pick (ltb most_bytes n) (Err MessageLength) (loan_refusal f l (blocks_of n))

-- the chain after the padded message
unfoldable pub whole_chain : Flags → List ℕ → Loan → Chain
whole_chain f bytes l = folded f l first_chain (padded bytes)

-- the whole account of such a call: zeros for the digest and the first mark on a refusal
pub record WholeAccount : Type 0 where
  pub outcome : Outcome
  pub digest : List ℕ
  pub first : FirstMark

-- what a caller is handed of it: the refusal alone, or what stands beside the verdict
abbrev pub whole_handed : WholeAccount → Result Digested Refusal
whole_handed a =
    result_map_both (λ v. record { verdict = v; digest = a.digest; first = first_told v a.first }) (λ r. r) a.outcome

-- what hashing a whole message gives
unfoldable pub whole_of : Flags → List ℕ → Loan → WholeAccount
whole_of f bytes l =
    let r = whole_refusal f (length bytes) l in
    let c = whole_chain f bytes l in
    record { outcome = outcome_of r c f.mitigate; digest = digest_or r c (replicate digest_size 0); first = first_or r c }

-- what the one-shot form gives: the same with the default flags
abbrev pub digested : List ℕ → Loan → WholeAccount
digested bytes l = whole_of defaults bytes l
