-- A finish that gives back a number other than 0 writes its answer alone: the output, and the hasher's slices, are as they were; and what it answers. Assumes nothing.
use mathlib.Core.Path.{◌≡◌, refl, ap}
use mathlib.Core.Bool.{Bool, true, ◌&&◌}
use mathlib.Core.List.{List, [], ◌∷◌, ◌++◌}
use Prim.Native.Nat.{ℕ, ◌<◌}
use native.Mathlib.Nat.{lt_irrefl}
use lib.Dec.{eqb}
use lib.ListN.{length}
use Rattle.std.specs.Prelude.{Ok, Err, is_ok}
use Rattle.word.specs.Choice.{pick}
use Rattle.word.proofs.Tests.{both_true}
use Rattle.refusal.specs.Refusal.{number_of, place_of, Checked}
use Rattle.loan.specs.Loan.{Loan}
use Rattle.stream.specs.declared.Chain.{Chain}
use Rattle.hasher.specs.Hasher.{fresh_of}
use Rattle.hasher.specs.declared.Hasher.{Hasher}
use Rattle.finish.specs.Finish.{last_chain, finish_refusal, outcome_of, outcome_refusal, digest_or, first_or, finished_reset, written_out}
use Rattle.layout.specs.Layout.{hasher_in, slices_of, hasher_fits}
use Rattle.answers.specs.Answers.{Left, left, outcome_answer, outcome_left}
use Rattle.lent_finish.specs.LentFinish.{finish_call, finish_reset_call}
use Rattle.lent_claims.proofs.ReadBack.{slices-back}
use Rattle.lent_claims.proofs.Keeps.{Keeps, guarded-keeps}

-- the answer of a refusal: no verdict, the place of the refused record, and no first mark
abbrev pub refused_answer : Checked → List ℕ
refused_answer r = 0 ∷ place_of r ∷ 0 ∷ 0 ∷ []

module _ (w p s : List ℕ) where
  -- what a finish leaves, of a refusal r and the chain c: the output as it was, and the answer of the refusal
  pub output-left : (r : Checked) (b : Bool) → is_ok r ≡ b → (c : Chain) (m : Bool) (out : List ℕ)
      → 0 < (outcome_left (outcome_of r c m) (first_or r c) (digest_or r c out)).number
      → (outcome_left (outcome_of r c m) (first_or r c) (digest_or r c out)).slices ≡ out ∷ refused_answer r ∷ []
  output-left (Ok tt) b i c m out n = absurd (lt_irrefl 0 n)
  output-left (Err r) b i c m out n = refl

  -- Where a finish gives a number other than 0, the bytes lent for its digest are as they were; the hasher is lent to it for reading only.
  pub finish-keeps : (digest : List ℕ) (l : Loan) (answer : List ℕ) → 0 < (finish_call w p s digest l answer).number
      → Keeps (digest ∷ []) (finish_call w p s digest l answer)
  unfolding finish_call finished_reset written_out
  finish-keeps digest l answer =
      let h = hasher_in w p s in
      let r = finish_refusal h (length digest) l in
      let c = last_chain h l in
      guarded-keeps (hasher_fits (length w) (length p) s && eqb (length answer) 4) (outcome_left (outcome_of r c h.flags.mitigate) (first_or r c) (digest_or r c digest)) (digest ∷ []) (answer ∷ [])
      (λ e n. (refused_answer r ∷ [], output-left r (is_ok r) refl c h.flags.mitigate digest n))

  -- what a finish-and-reset leaves, of a refusal r, the chain c and the hasher g that it would hand back
  abbrev pub left_by : Checked → Chain → Bool → Hasher → List ℕ → Left
  left_by r c mitigate g out =
      left (number_of (outcome_refusal (outcome_of r c mitigate))) (slices_of (pick (is_ok r) g (hasher_in w p s)) ++ digest_or r c out ∷ outcome_answer (outcome_of r c mitigate) (first_or r c) ∷ [])

  pub reset-left : (r : Checked) (b : Bool) → is_ok r ≡ b → (c : Chain) (m : Bool) (g : Hasher) (out : List ℕ) → hasher_fits (length w) (length p) s ≡ true
      → 0 < (left_by r c m g out).number → (left_by r c m g out).slices ≡ w ∷ p ∷ s ∷ out ∷ refused_answer r ∷ []
  reset-left (Ok tt) b i c m g out e n = absurd (lt_irrefl 0 n)
  reset-left (Err r) b i c m g out e n = ap (λ (xs : List (List ℕ)). xs ++ (out ∷ refused_answer (Err r) ∷ [])) (slices-back w p s e)

  -- So with a finish-and-reset: the hasher's three slices and the output.
  pub finish-reset-keeps : (out : List ℕ) (l : Loan) (answer : List ℕ) → 0 < (finish_reset_call w p s out l answer).number
      → Keeps (w ∷ p ∷ s ∷ out ∷ []) (finish_reset_call w p s out l answer)
  unfolding finish_reset_call finished_reset written_out
  finish-reset-keeps out l answer =
      let h = hasher_in w p s in
      let r = finish_refusal h (length out) l in
      let c = last_chain h l in
      guarded-keeps (hasher_fits (length w) (length p) s && eqb (length answer) 4) (left_by r c h.flags.mitigate (fresh_of h.flags) out) (w ∷ p ∷ s ∷ out ∷ []) (answer ∷ [])
      (λ e n.
      let lies = (both_true (hasher_fits (length w) (length p) s) (eqb (length answer) 4) e).0 in
      (refused_answer r ∷ [], reset-left r (is_ok r) refl c h.flags.mitigate (fresh_of h.flags) out lies n))
