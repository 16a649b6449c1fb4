-- What a call answers: its number, and what it leaves in the slices that it may write.
use Rattle.std.specs.Prelude.{Bool, List, [], ◌∷◌, ◌++◌, ℕ, Option, unwrap_or, Result, Ok, Err, Ok as Done, Err as Refused, is_ok}
use Rattle.std.specs.Result.{result_map_both}
use Rattle.word.specs.Choice.{pick}
use Rattle.refusal.specs.Refusal.{number, place, number_of, place_of, Checked}
use Rattle.refusal.specs.declared.Refusal.{Refusal}
use Rattle.verdict.specs.declared.Verdict.{Verdict}
use Rattle.search.specs.Search.{is_marked, marking_place}
use Rattle.detect.specs.Detect.{BlockAccount}
use Rattle.detect.specs.declared.OneBlock.{OneBlock}
use Rattle.stream.specs.Fold.{nowhere}
use Rattle.stream.specs.declared.FirstMark.{FirstMark}
use Rattle.hasher.specs.Hasher.{UpdateAccount}
use Rattle.hasher.specs.declared.Hasher.{Hasher}
use Rattle.finish.specs.Finish.{Outcome, outcome_refusal, first_told, ResetAccount}
use Rattle.finish.specs.declared.FinishedReset.{FinishedReset}
use Rattle.layout.specs.Layout.{bit_of, slices_of, verdict_number}

-- the number that a call gives back, and the contents of the slices that it may write, in the order of its parameters
pub record Left : Type 0 where
  pub number : ℕ
  pub slices : List (List ℕ)

-- what a call leaves, from its number and its slices
abbrev pub left : ℕ → List (List ℕ) → Left
left n s = record { number = n; slices = s }

-- the number where a caller breaks the agreement of the header: a fixed length, a mark, flags or a verdict
abbrev pub broken_agreement : ℕ
broken_agreement = 255

-- what a call leaves, if the agreement is kept; else it leaves all slices as they were
abbrev pub guarded : Bool → Left → List (List ℕ) → Left
guarded kept done before = pick kept done (left broken_agreement before)

-- what a call gives, or where it is refused what was there
abbrev pub unless_refused : Checked → List ℕ → List ℕ → List ℕ
unless_refused r given before = pick (is_ok r) given before

-- the two numbers of an answer: what the call says, and the place of the refused record
abbrev pub answer_pair : ℕ → Checked → List ℕ
answer_pair says r = says ∷ place_of r ∷ []

-- the verdict's number, 0 on a refusal
abbrev pub verdict_in : Outcome → ℕ
verdict_in (Done v) = verdict_number v
verdict_in (Refused r) = 0

-- the four numbers of an outcome's answer: the verdict, the place of the refused record, the first marked block and its vector's place
abbrev pub outcome_answer : Outcome → FirstMark → List ℕ
outcome_answer o f = answer_pair (verdict_in o) (outcome_refusal o) ++ f.block ∷ f.place ∷ []

-- what one block leaves where the words before were: the new words, or on a refusal those; mark, place, tried and the refused record's place
abbrev pub block_left : BlockAccount → List ℕ → Left
block_left o before =
    left (number_of o.refusal)
    (unless_refused o.refusal o.words before ∷ (bit_of (is_marked o.found) ∷ marking_place o.found ∷ o.found.tried ∷ place_of o.refusal ∷ []) ∷ [])

-- what an update or a reset leaves: the hasher, and the refused record's place
abbrev pub updated_left : UpdateAccount → Left
updated_left u = left (number_of u.refusal) (slices_of u.hasher ++ answer_pair 0 u.refusal ∷ [])

-- what a call leaves that has an output, an outcome and a first mark
abbrev pub outcome_left : Outcome → FirstMark → List ℕ → Left
outcome_left o f out = left (number_of (outcome_refusal o)) (out ∷ outcome_answer o f ∷ [])

-- what the one-shot form leaves where the bytes before were: the digest, or on a refusal those; the outcome and the first mark
abbrev pub digest_left : Outcome → FirstMark → List ℕ → List ℕ → Left
digest_left o f digest before = outcome_left o f (unless_refused (outcome_refusal o) digest before)

-- what a finish-and-reset leaves, of a hasher, an outcome and a first mark, around the output that it wrote
abbrev pub finish_reset_left : ResetAccount → List ℕ → Left
finish_reset_left c out =
    left (number_of (outcome_refusal c.outcome)) (slices_of c.hasher ++ out ∷ outcome_answer c.outcome c.first ∷ [])

-- what a call leaves that says a refusal alone
abbrev pub refusal_left : Checked → Left
refusal_left r = left (number_of r) (answer_pair 0 r ∷ [])

-- what a call refuses, of what it hands out
abbrev pub handed_refusal : {A : Type 0} → Result A Refusal → Checked
handed_refusal r = result_map_both (λ _. tt) (λ e. e) r

-- what is told of the end of a message: a verdict with the first mark, or a refusal
abbrev pub Told : Type 0
Told = Result (Verdict × Option FirstMark) Refusal

-- that, of an outcome and the first mark of a chain
abbrev pub told_of : Outcome → FirstMark → Told
told_of o first = result_map_both (λ v. (v, first_told v first)) (λ r. r) o

-- and of what a finish-and-reset hands out
abbrev pub told_by : Result FinishedReset Refusal → Told
told_by c = result_map_both (λ f. (f.verdict, f.first)) (λ r. r) c

-- the outcome of what is told
abbrev pub told_outcome : Told → Outcome
told_outcome t = result_map_both (λ p. p.0) (λ r. r) t

-- and the first mark as an answer has it: zeros where there is none
abbrev pub told_first : Told → FirstMark
told_first (Ok p) = unwrap_or p.1 nowhere
told_first (Err r) = nowhere

-- the slices of the hasher that a call hands out, or where it is refused those that were there
abbrev pub hasher_or : Result Hasher Refusal → List (List ℕ) → List (List ℕ)
hasher_or (Ok h) before = slices_of h
hasher_or (Err r) before = before

-- the hasher that a finish-and-reset hands out
abbrev pub hasher_by : Result FinishedReset Refusal → Result Hasher Refusal
hasher_by c = result_map_both (λ f. f.hasher) (λ r. r) c

-- what an update or a reset leaves, of what it hands out and the slices before
abbrev pub updated_told : Result Hasher Refusal → List (List ℕ) → Left
updated_told u before = left (number_of (handed_refusal u)) (hasher_or u before ++ answer_pair 0 (handed_refusal u) ∷ [])

-- what one block leaves, of what it hands out and the words before
abbrev pub block_told : Result OneBlock Refusal → List ℕ → Left
block_told (Ok b) before =
    left 0 (b.words ∷ (bit_of (is_marked b.found) ∷ marking_place b.found ∷ b.found.tried ∷ 0 ∷ []) ∷ [])
block_told (Err r) before = left (number r) (before ∷ (0 ∷ 0 ∷ 0 ∷ place r ∷ []) ∷ [])
