-- What each call on a lent table without a hasher gives back, and what it leaves in the memory lent to it.
use Rattle.std.specs.Prelude.{◌&&◌, List, [], ◌∷◌, ℕ, eqb, length, Result, Ok, Err}
use Rattle.std.specs.Result.{result_map_both}
use Rattle.refusal.specs.Refusal.{number_of, Checked}
use Rattle.refusal.specs.declared.Refusal.{Refusal}
use Rattle.verdict.specs.Verdict.{digest_size}
use Rattle.table.specs.Table.{table_fault}
use Rattle.conditions.specs.Conditions.{condition_fault}
use Rattle.detect.specs.Detect.{one_block_of}
use Rattle.detect.specs.declared.Mode.{Mode}
use Rattle.loan.specs.Loan.{Loan}
use Rattle.finish.specs.Finish.{outcome_refusal}
use Rattle.one_shot.specs.Whole.{digested}
use Rattle.one_shot.specs.declared.Digested.{Digested}
use Rattle.answers.specs.Answers.{Left, Told, left, guarded, block_left, digest_left, outcome_answer, refusal_left, told_first, told_outcome}

-- the call of one block
unfoldable pub block_call : List ℕ → List ℕ → List ℕ → ℕ → Mode → List ℕ → List ℕ → Left
block_call words block table mask mode after answer =
    guarded (eqb (length words) 5 && (eqb (length after) 5 && eqb (length answer) 4))
    (block_left (one_block_of words block table mask mode) after)
    (after ∷ answer ∷ [])

-- the call of the one-shot form
unfoldable pub one_shot_call : List ℕ → List ℕ → Loan → List ℕ → Left
one_shot_call bytes digest l answer =
    let d = digested bytes l in
    guarded (eqb (length digest) digest_size && eqb (length answer) 4) (digest_left d.outcome d.first d.digest digest) (digest ∷ answer ∷ [])

-- what is told of what the one-shot form hands out
abbrev pub told_whole : Result Digested Refusal → Told
told_whole d = result_map_both (λ x. (x.verdict, x.first)) (λ r. r) d

-- the digest that it hands out, or where it is refused what was there
abbrev pub digest_out : Result Digested Refusal → List ℕ → List ℕ
digest_out (Ok d) before = d.digest
digest_out (Err r) before = before

-- what it leaves, of what it hands out and the bytes before
abbrev pub digest_told : Result Digested Refusal → List ℕ → Left
digest_told d before =
    left (number_of (outcome_refusal (told_outcome (told_whole d))))
    (digest_out d before ∷ outcome_answer (told_outcome (told_whole d)) (told_first (told_whole d)) ∷ [])

-- the call of a check that says what is wrong
unfoldable pub fault_call : Checked → List ℕ → Left
fault_call r answer = guarded (eqb (length answer) 2) (refusal_left r) (answer ∷ [])

-- the call of a table check
abbrev pub table_call : List ℕ → List ℕ → Left
table_call table answer = fault_call (table_fault table) answer

-- the call of a check of conditions
abbrev pub conditions_call : List ℕ → List ℕ → Left
conditions_call conditions answer = fault_call (condition_fault conditions) answer
