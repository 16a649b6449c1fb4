-- One block with detection: the answer for it, and what the one-block entry gives.
use Rattle.std.specs.Prelude.{None, Result, ◌&&◌, List, ℕ, eqb, length, replicate, Err, Ok, is_ok}
use Rattle.std.specs.Int.Bits.{bit_and}
use Rattle.std.specs.Result.{result_map_both}
use Rattle.word.specs.Choice.{pick}
use Rattle.step.specs.Step.{regs_of, five_of}
use Rattle.step.specs.declared.Regs.{Regs}
use Rattle.block.specs.Schedule.{words_of, schedule_of}
use Rattle.block.specs.Compress.{over_schedule}
use Rattle.refusal.specs.Refusal.{Checked}
use Rattle.refusal.specs.declared.Refusal.{Refusal}
use Rattle.refusal.specs.declared.Refusal.TheVariants.{Size}
use Rattle.table.specs.Table.{table_fault}
use Rattle.conditions.specs.Conditions.{surviving_of}
use Rattle.detect.specs.declared.Mode.{Mode}
use Rattle.search.specs.Search.{is_marked}
use Rattle.search.specs.Marks.{found_in}
use Rattle.search.specs.declared.Found.{Found}
use Rattle.detect.specs.declared.Answer.{Answer}
use Rattle.detect.specs.declared.OneBlock.{OneBlock}

-- the vectors that a block is tried with: those of its mask that survive the conditions
unfoldable pub selection_of : List ℕ → List ℕ → ℕ → ℕ
selection_of conditions block mask = bit_and mask (surviving_of (schedule_of (words_of block)) conditions)

-- compressed twice more with the same schedule
abbrev pub twice_more : Regs → List ℕ → Regs
twice_more h w = over_schedule (over_schedule h w) w

-- the answer for the block with the schedule w, of what the search found: mitigation comes after the comparison
abbrev pub answered : Mode → Regs → List ℕ → Found → Answer
answered mode h w f =
    record { words = pick (is_marked f && mode.mitigate) (twice_more (over_schedule h w) w) (over_schedule h w); found = f }

-- what compressing a block with detection gives
unfoldable pub answer_of : Mode → List ℕ → Regs → List ℕ → ℕ → Answer
answer_of mode table h block mask =
    let w = schedule_of (words_of block) in
    answered mode h w (found_in mode.reduced table h w mask)

-- what the one-block entry refuses: the block's size, then the table
abbrev pub one_block_refusal : ℕ → List ℕ → Checked
one_block_refusal size table = pick (eqb size 64) (table_fault table) (Err Size)

-- the full account of the one-block entry: what it refuses, the words and what was found
pub record BlockAccount : Type 0 where
  pub refusal : Checked
  pub words : List ℕ
  pub found : Found

-- a refusal: no mark, and zeros
abbrev pub refused_block : Checked → BlockAccount
refused_block r = record { refusal = r; words = replicate 5 0; found = record { by = None; tried = 0 } }

-- an answer: nothing refused
abbrev pub answered_block : Answer → BlockAccount
answered_block a = record { refusal = Ok tt; words = five_of a.words; found = a.found }

-- the account for five words, a block, a table and a mask
unfoldable pub one_block_of : List ℕ → List ℕ → List ℕ → ℕ → Mode → BlockAccount
one_block_of five block table mask mode =
    pick (is_ok (one_block_refusal (length block) table))
    (answered_block (answer_of mode table (regs_of five) block mask))
    (refused_block (one_block_refusal (length block) table))

-- what a caller is handed of it: the refusal alone, or the answer
abbrev pub block_handed : BlockAccount → Result OneBlock Refusal
block_handed a = result_map_both (λ u. record { words = a.words; found = a.found }) (λ r. r) a.refusal
