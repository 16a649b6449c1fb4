-- One block of a message: the vectors that survive the conditions for it, and the chaining words before it.
use Rattle.std.specs.Prelude.{false, List, [], ℕ, ◌*◌, take, is_ok}
use Rattle.std.specs.Result.{result_unwrap_or}
use Rattle.word.specs.Choice.{pick}
use Rattle.block.specs.Schedule.{words_of, schedule_of}
use Rattle.conditions.specs.Conditions.{surviving_of, condition_fault}
use Rattle.flags.specs.Flags.{defaults, with_detect}
use Rattle.loan.specs.Loan.{loan_of}
use Rattle.hasher.specs.Hasher.{fresh_of, hasher_handed}
use Rattle.hasher.specs.declared.Hasher.{Hasher}
use Rattle.update.specs.Update.{updated}

-- the vectors that survive the conditions for a block; none where the conditions are refused
abbrev pub surviving_for : List ℕ → List ℕ → ℕ
surviving_for block conditions = pick (is_ok (condition_fault conditions)) (surviving_of (schedule_of (words_of block)) conditions) 0

-- a hasher at the start of a message that is hashed without detection
abbrev pub start : Hasher
start = fresh_of (with_detect defaults false)

-- the chaining words after the first i blocks of a message, by an update without detection
unfoldable pub words_before : List ℕ → ℕ → List ℕ
words_before m i = (result_unwrap_or (hasher_handed (updated start (take (64 * i) m) (loan_of [] [] []))) start).words
