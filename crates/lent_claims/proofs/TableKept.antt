-- One block and the one-shot form: a call that gives back a number other than 0 writes its answer alone. (The check of a table,
-- a lookup and a comparison are lent nothing else to write.) Assumes nothing.
use mathlib.Core.Bool.{◌&&◌}
use mathlib.Core.List.{List, [], ◌∷◌}
use Prim.Native.Nat.{ℕ, ◌<◌}
use lib.Dec.{eqb}
use lib.ListN.{length}
use Rattle.verdict.specs.Verdict.{digest_size}
use Rattle.detect.specs.Detect.{one_block_of}
use Rattle.detect.specs.declared.Mode.{Mode}
use Rattle.loan.specs.Loan.{Loan}
use Rattle.one_shot.specs.Whole.{digested}
use Rattle.answers.specs.Answers.{block_left, digest_left}
use Rattle.lent_table.specs.LentTable.{block_call, one_shot_call}
use Rattle.lent_claims.proofs.Keeps.{Keeps, guarded-keeps, block-keeps, digest-keeps}

-- Where one block gives a number other than 0, the words lent for its result are as they were.
pub one-block-keeps : (words block table : List ℕ) (mask : ℕ) (mode : Mode) (after answer : List ℕ)
    → 0 < (block_call words block table mask mode after answer).number → Keeps (after ∷ []) (block_call words block table mask mode after answer)
unfolding block_call
one-block-keeps words block table mask mode after answer =
    let o = one_block_of words block table mask mode in
    guarded-keeps (eqb (length words) 5 && (eqb (length after) 5 && eqb (length answer) 4)) (block_left o after) (after ∷ []) (answer ∷ [])
    (λ e. block-keeps o after)

-- So with the one-shot form, and the bytes lent for its digest.
pub one-shot-keeps : (bytes digest : List ℕ) (l : Loan) (answer : List ℕ)
    → 0 < (one_shot_call bytes digest l answer).number → Keeps (digest ∷ []) (one_shot_call bytes digest l answer)
unfolding one_shot_call
one-shot-keeps bytes digest l answer =
    let d = digested bytes l in
    guarded-keeps (eqb (length digest) digest_size && eqb (length answer) 4) (digest_left d.outcome d.first d.digest digest) (digest ∷ []) (answer ∷ [])
    (λ e. digest-keeps d.outcome d.first d.digest digest)
