-- A lent state whose first mark does not fit its mark and its blocks breaks no agreement: it is a hasher that is not well formed, which every
-- call on it refuses by 1. And the answer of a finish, a finish-and-reset or a one-shot that is refused, for whatever reason, has no verdict and no
-- first mark. Assumes nothing.
use mathlib.Core.Path.{◌≡◌, refl, sym, ◌∙◌}
use mathlib.Core.Bool.{Bool, true, false, ◌&&◌, true≢false}
use mathlib.Core.List.{List, [], ◌∷◌}
use Prim.Native.Nat.{ℕ, ◌<◌}
use native.Mathlib.Nat.{lt_irrefl}
use lib.Dec.{eqb}
use lib.ListN.{length, replicate}
use borrow.Author.Tests.{eq-eqb}
use Rattle.std.specs.Prelude.{Ok, Err, is_ok}
use Rattle.refusal.specs.Refusal.{Checked}
use Rattle.verdict.specs.Verdict.{digest_size}
use Rattle.flags.specs.Flags.{defaults}
use Rattle.loan.specs.Loan.{Loan}
use Rattle.stream.specs.Fold.{mark_fits}
use Rattle.stream.specs.declared.Chain.{Chain}
use Rattle.hasher.specs.Hasher.{well_formed, fresh_of, reset_of}
use Rattle.hasher.specs.declared.Hasher.{Hasher}
use Rattle.hasher.proofs.Formed.{formed}
use Rattle.update.specs.Update.{update_refusal, updated}
use Rattle.finish.specs.Finish.{last_chain, finish_refusal, outcome_of, digest_or, first_or, finished_reset, written_out}
use Rattle.one_shot.specs.Whole.{whole_refusal, whole_chain, whole_of}
use Rattle.layout.specs.Layout.{hasher_in, hasher_fits}
use Rattle.answers.specs.Answers.{digest_left}
use Rattle.lent_hasher.specs.LentHasher.{update_call, reset_call}
use Rattle.lent_finish.specs.LentFinish.{finish_call, finish_reset_call}
use Rattle.lent_table.specs.LentTable.{one_shot_call}
use Rattle.lent_claims.proofs.FinishKept.{refused_answer, output-left, reset-left}

-- a hasher's mark and its first mark do not fit together
abbrev pub Unfit : Hasher → Type 0
Unfit h = mark_fits h.flags.detect h.mark h.first h.blocks ≡ false

unformed : (h : Hasher) → Unfit h → (b : Bool) → well_formed h ≡ b → b ≡ false
unformed h u true e = absurd (true≢false (sym (formed h e).mark-fits ∙ u))
unformed h u false e = refl

module _ (w p s : List ℕ) (lies : hasher_fits (length w) (length p) s ≡ true) where
  -- the agreement is kept with an answer of n numbers
  kept : (n : ℕ) (answer : List ℕ) → length answer ≡ n → (hasher_fits (length w) (length p) s && eqb (length answer) n) ≡ true
  kept n answer a = rw (lies, eq-eqb (length answer) n a)

  module _ (unfit : Unfit (hasher_in w p s)) where
    ill : well_formed (hasher_in w p s) ≡ false
    ill = unformed (hasher_in w p s) unfit (well_formed (hasher_in w p s)) refl

    pub update-unfit : (bytes : List ℕ) (l : Loan) (answer : List ℕ) → length answer ≡ 2 → (update_call w p s bytes l answer).number ≡ 1
    unfolding update_call updated update_refusal
    update-unfit bytes l answer a = rw (kept 2 answer a, ill)

    pub reset-unfit : (answer : List ℕ) → length answer ≡ 2 → (reset_call w p s answer).number ≡ 1
    unfolding reset_call reset_of
    reset-unfit answer a = rw (kept 2 answer a, ill)

    pub finish-unfit : (digest : List ℕ) (l : Loan) (answer : List ℕ) → length answer ≡ 4 → (finish_call w p s digest l answer).number ≡ 1
    unfolding finish_call finished_reset finish_refusal
    finish-unfit digest l answer a = rw (kept 4 answer a, ill)

    pub finish-reset-unfit : (out : List ℕ) (l : Loan) (answer : List ℕ) → length answer ≡ 4 → (finish_reset_call w p s out l answer).number ≡ 1
    unfolding finish_reset_call finished_reset finish_refusal
    finish-reset-unfit out l answer a = rw (kept 4 answer a, ill)

  -- A refused finish leaves the lent bytes, and in its answer the place of the refused record alone.
  pub answer-refused : (digest : List ℕ) (l : Loan) (answer : List ℕ) → length answer ≡ 4 → 0 < (finish_call w p s digest l answer).number
      → (finish_call w p s digest l answer).slices ≡ digest ∷ refused_answer (finish_refusal (hasher_in w p s) (length digest) l) ∷ []
  unfolding finish_call finished_reset written_out
  answer-refused digest l answer a n =
      let h = hasher_in w p s in
      let r = finish_refusal h (length digest) l in
      rw (kept 4 answer a) (output-left w p s r (is_ok r) refl (last_chain h l) h.flags.mitigate digest (rw (kept 4 answer a) at n))

  -- So does a refused finish-and-reset, and the hasher as it was.
  pub finish-reset-refused : (out : List ℕ) (l : Loan) (answer : List ℕ) → length answer ≡ 4 → 0 < (finish_reset_call w p s out l answer).number
      → (finish_reset_call w p s out l answer).slices ≡ w ∷ p ∷ s ∷ out ∷ refused_answer (finish_refusal (hasher_in w p s) (length out) l) ∷ []
  unfolding finish_reset_call finished_reset written_out
  finish-reset-refused out l answer a n =
      let h = hasher_in w p s in
      let r = finish_refusal h (length out) l in
      rw (kept 4 answer a)
      (reset-left w p s r (is_ok r) refl (last_chain h l) h.flags.mitigate (fresh_of h.flags) out lies (rw (kept 4 answer a) at n))

-- what the one-shot form leaves, of a refusal r and the chain c
digest_left_lem : (r : Checked) (b : Bool) → is_ok r ≡ b → (c : Chain) (m : Bool) (given before : List ℕ)
    → 0 < (digest_left (outcome_of r c m) (first_or r c) given before).number
    → (digest_left (outcome_of r c m) (first_or r c) given before).slices ≡ before ∷ refused_answer r ∷ []
digest_left_lem (Ok tt) b i c m given before n = absurd (lt_irrefl 0 n)
digest_left_lem (Err r) b i c m given before n = refl

-- So does a refused one-shot.
pub one-shot-refused : (bytes digest : List ℕ) (l : Loan) (answer : List ℕ) → length digest ≡ digest_size → length answer ≡ 4
    → 0 < (one_shot_call bytes digest l answer).number
    → (one_shot_call bytes digest l answer).slices ≡ digest ∷ refused_answer (whole_refusal defaults (length bytes) l) ∷ []
unfolding one_shot_call whole_of
one-shot-refused bytes digest l answer d a n =
    let r = whole_refusal defaults (length bytes) l in
    let c = whole_chain defaults bytes l in
    let fits : (eqb (length digest) digest_size && eqb (length answer) 4) ≡ true = rw (eq-eqb (length digest) digest_size d, eq-eqb (length answer) 4 a) in
    rw fits (digest_left_lem r (is_ok r) refl c true (digest_or r c (replicate digest_size 0)) digest (rw fits at n))
