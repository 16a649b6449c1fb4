-- A call on a hasher that gives back a number other than 0 writes its answer alone: the hasher's slices are as they were. Assumes nothing.
use mathlib.Core.Path.{◌≡◌, refl, ap, ◌∙◌}
use mathlib.Core.Bool.{Bool, true, false, ◌&&◌, true≢false}
use mathlib.Core.List.{List, [], ◌∷◌, ◌++◌}
use Prim.Native.Nat.{ℕ, ◌<◌}
use native.Mathlib.Nat.{lt_irrefl}
use lib.Dec.{eqb}
use lib.ListN.{length}
use Rattle.std.specs.Prelude.{Err, Ok, is_ok}
use Rattle.word.specs.Choice.{pick}
use Rattle.word.proofs.Tests.{both_true}
use Rattle.refusal.specs.declared.Refusal.TheVariants.{HasherForm}
use Rattle.loan.specs.Loan.{Loan}
use Rattle.hasher.specs.Hasher.{well_formed, fresh_of, reset_of, UpdateAccount}
use Rattle.update.specs.Update.{updated}
use Rattle.layout.specs.Layout.{flags_in, hasher_in, slices_of, hasher_fits, new_fits}
use Rattle.answers.specs.Answers.{left, answer_pair, updated_left}
use Rattle.lent_hasher.specs.LentHasher.{new_call, update_call, reset_call}
use Rattle.lent_claims.proofs.ReadBack.{slices-back}
use Rattle.lent_claims.proofs.Keeps.{Keeps, guarded-keeps, some-refusal}

module _ (w p s : List ℕ) where
  -- A new hasher is written whole, or where the number is not 0 nothing is.
  pub new-keeps : (flags : ℕ) → 0 < (new_call flags w p s).number → Keeps (w ∷ p ∷ s ∷ []) (new_call flags w p s)
  unfolding new_call
  new-keeps flags =
      guarded-keeps (new_fits (length w) (length p) (length s) flags) (left 0 (slices_of (fresh_of (flags_in flags)))) (w ∷ p ∷ s ∷ []) []
      (λ e n. absurd (lt_irrefl 0 n))

  -- an update that is refused hands its hasher back, and a reset too
  updated-keeps : hasher_fits (length w) (length p) s ≡ true → (u : UpdateAccount) → (is_ok u.refusal ≡ false → u.hasher ≡ hasher_in w p s)
      → 0 < (updated_left u).number → Keeps (w ∷ p ∷ s ∷ []) (updated_left u)
  updated-keeps e u same n =
      (answer_pair 0 u.refusal ∷ [], ap (λ (xs : List (List ℕ)). xs ++ (answer_pair 0 u.refusal ∷ [])) (ap slices_of (same (some-refusal u.refusal n)) ∙ slices-back w p s e))

  -- Where an update gives a number other than 0, the hasher's three slices are as they were.
  pub update-keeps : (bytes : List ℕ) (l : Loan) (answer : List ℕ) → 0 < (update_call w p s bytes l answer).number
      → Keeps (w ∷ p ∷ s ∷ []) (update_call w p s bytes l answer)
  unfolding update_call updated
  update-keeps bytes l answer =
      let h = hasher_in w p s in
      guarded-keeps (hasher_fits (length w) (length p) s && eqb (length answer) 2) (updated_left (updated h bytes l)) (w ∷ p ∷ s ∷ []) (answer ∷ [])
      (λ e. updated-keeps (both_true (hasher_fits (length w) (length p) s) (eqb (length answer) 2) e).0 (updated h bytes l) (λ n. rw n))

  -- what a reset gives, by whether the hasher is well formed
  abbrev reset_by : Bool → UpdateAccount
  reset_by b = pick b (record { refusal = (Ok tt); hasher = fresh_of (hasher_in w p s).flags }) (record { refusal = (Err HasherForm); hasher = hasher_in w p s })

  reset-same : (b : Bool) → is_ok (reset_by b).refusal ≡ false → (reset_by b).hasher ≡ hasher_in w p s
  reset-same true e = absurd (true≢false e)
  reset-same false e = refl

  -- So with a reset.
  pub reset-keeps : (answer : List ℕ) → 0 < (reset_call w p s answer).number → Keeps (w ∷ p ∷ s ∷ []) (reset_call w p s answer)
  unfolding reset_call reset_of
  reset-keeps answer =
      let h = hasher_in w p s in
      guarded-keeps (hasher_fits (length w) (length p) s && eqb (length answer) 2) (updated_left (reset_of h)) (w ∷ p ∷ s ∷ []) (answer ∷ [])
      (λ e. updated-keeps (both_true (hasher_fits (length w) (length p) s) (eqb (length answer) 2) e).0 (reset_of h) (reset-same (well_formed h)))
