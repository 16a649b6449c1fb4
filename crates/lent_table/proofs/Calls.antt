-- One block and the one-shot form, where the lengths are right, leave what their calls leave. Assumes nothing.
use mathlib.Core.Path.{◌≡◌, refl, ap, ◌∙◌}
use mathlib.Core.Bool.{true}
use mathlib.Core.List.{List, [], ◌∷◌}
use Prim.Native.Nat.{ℕ}
use lib.ListN.{length, replicate}
use borrow.Author.Tests.{eq-eqb}
use Rattle.std.specs.Prelude.{Ok, Err, is_ok}
use Rattle.word.specs.Choice.{pick}
use Rattle.refusal.specs.Refusal.{number_of, Checked}
use Rattle.verdict.specs.Verdict.{digest_size}
use Rattle.fips.specs.Fips.{padded}
use Rattle.step.specs.Step.{regs_of}
use Rattle.detect.specs.Detect.{BlockAccount, answer_of, answered_block, block_handed, one_block_of, one_block_refusal, refused_block}
use Rattle.detect.specs.declared.Answer.{Answer}
use Rattle.detect.specs.declared.Mode.{Mode}
use Rattle.flags.specs.Flags.{defaults}
use Rattle.loan.specs.Loan.{Loan}
use Rattle.stream.specs.Fold.{first_chain}
use Rattle.stream.specs.declared.FirstMark.{FirstMark}
use Rattle.stream.proofs.MarkRight.{none-fits}
use Rattle.stream.proofs.Folded.{folded-mark}
use Rattle.finish.specs.Finish.{Outcome, outcome_of, digest_or, first_or}
use Rattle.one_shot.specs.Whole.{digested, whole_chain, whole_handed, whole_of, whole_refusal}
use Rattle.one_shot.proofs.Fed.{refusal-whole, whole-vectors}
use Rattle.answers.specs.Answers.{block_left, block_told, digest_left, left, outcome_answer, told_first, told_of}
use Rattle.answers.proofs.Told.{Unmarked, right-unmarked, told-first}
use Rattle.lent_table.specs.LentTable.{block_call, digest_told, one_shot_call}

-- what one block hands out tells its account
block-told : (r : Checked) (a : Answer) (before : List ℕ)
    → block_told (block_handed (pick {A = BlockAccount} (is_ok r) (answered_block a) (refused_block r))) before
    ≡ block_left (pick {A = BlockAccount} (is_ok r) (answered_block a) (refused_block r)) before
block-told (Ok tt) a before = refl
block-told (Err r) a before = refl

one-told : (words block table : List ℕ) (mask : ℕ) (mode : Mode) (before : List ℕ)
    → block_told (block_handed (one_block_of words block table mask mode)) before ≡ block_left (one_block_of words block table mask mode) before
unfolding one_block_of
one-told words block table mask mode before =
    block-told (one_block_refusal (length block) table) (answer_of mode table (regs_of words) block mask) before

pub block_left_lem : (words block table : List ℕ) (mask : ℕ) (mode : Mode) (after answer : List ℕ) → length words ≡ 5 → length after ≡ 5 → length answer ≡ 4
    → block_told (block_handed (one_block_of words block table mask mode)) after ≡ block_call words block table mask mode after answer
unfolding block_call
block_left_lem words block table mask mode after answer e f g =
    one-told words block table mask mode after ∙ rw (eq-eqb (length words) 5 e, eq-eqb (length after) 5 f, eq-eqb (length answer) 4 g)

-- a message from the start has no first mark without a mark
whole-unmarked : (bytes : List ℕ) (l : Loan) → whole_refusal defaults (length bytes) l ≡ Ok tt → Unmarked (whole_chain defaults bytes l)
unfolding whole_chain
whole-unmarked bytes l e =
    right-unmarked true (whole_chain defaults bytes l)
    (folded-mark defaults l first_chain (padded bytes) (λ some. whole-vectors defaults (length bytes) l (refusal-whole defaults (length bytes) l e)) (none-fits true 0))

-- what a whole message hands out tells its account, where its first mark is told
whole_told_lem : (o : Outcome) (first : FirstMark) (digest before : List ℕ) → told_first (told_of o first) ≡ first
    → digest_told (whole_handed (record { outcome = o; digest = digest; first = first })) before ≡ digest_left o first digest before
whole_told_lem (Ok v) first digest before f = ap (λ (x : FirstMark). left 0 (digest ∷ outcome_answer (Ok v) x ∷ [])) f
whole_told_lem (Err r) first digest before f = ap (λ (x : FirstMark). left (number_of (Err r)) (before ∷ outcome_answer (Err r) x ∷ [])) f

whole-told : (bytes : List ℕ) (l : Loan) (before : List ℕ)
    → digest_told (whole_handed (digested bytes l)) before ≡ digest_left (digested bytes l).outcome (digested bytes l).first (digested bytes l).digest before
unfolding whole_of
whole-told bytes l before =
    let r = whole_refusal defaults (length bytes) l in
    let c = whole_chain defaults bytes l in
    whole_told_lem (outcome_of r c true) (first_or r c) (digest_or r c (replicate digest_size 0)) before (told-first r c true (whole-unmarked bytes l))

pub digest_left_lem : (bytes digest : List ℕ) (l : Loan) (answer : List ℕ) → length digest ≡ digest_size → length answer ≡ 4
    → digest_told (whole_handed (digested bytes l)) digest ≡ one_shot_call bytes digest l answer
unfolding one_shot_call
digest_left_lem bytes digest l answer e f =
    whole-told bytes l digest ∙ rw (eq-eqb (length digest) digest_size e, eq-eqb (length answer) 4 f)
