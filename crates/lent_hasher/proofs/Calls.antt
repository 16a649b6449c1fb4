-- An update and a reset that have read the hasher and the answer's length leave what their calls leave. Assumes nothing.
use mathlib.Core.Path.{◌≡◌, refl, sym, ap, ◌∙◌}
use mathlib.Core.Bool.{Bool, true, false, true≢false}
use mathlib.Core.List.{List, [], ◌∷◌, ◌++◌}
use Prim.Native.Nat.{ℕ}
use lib.ListN.{length}
use borrow.Author.Tests.{eq-eqb}
use Rattle.std.specs.Prelude.{Some, Ok, Err, is_ok}
use Rattle.word.specs.Choice.{pick}
use Rattle.refusal.specs.Refusal.{number, Checked}
use Rattle.refusal.specs.declared.Refusal.TheVariants.{HasherForm}
use Rattle.loan.specs.Loan.{Loan}
use Rattle.hasher.specs.Hasher.{well_formed, fresh_of, UpdateAccount, hasher_handed, reset_of}
use Rattle.hasher.specs.declared.Hasher.{Hasher}
use Rattle.update.specs.Update.{updated}
use Rattle.layout.specs.Layout.{slices_of, hasher_read}
use Rattle.layout.proofs.ReadBack.{slices-back, read_is}
use Rattle.answers.specs.Answers.{left, answer_pair, updated_left, updated_told}
use Rattle.lent_hasher.specs.LentHasher.{update_call, reset_call}

module _ (w p s : List ℕ) (h : Hasher) (is : hasher_read w p s ≡ Some h) where
  -- on a refusal the slices of the hasher that was read are those that are left
  told : (a : UpdateAccount) → (is_ok a.refusal ≡ false → a.hasher ≡ h) → updated_told (hasher_handed a) (w ∷ p ∷ s ∷ []) ≡ updated_left a
  told a = by a.refusal a.hasher
    where
      by : (r : Checked) (g : Hasher) → (is_ok r ≡ false → g ≡ h)
          → updated_told (hasher_handed (record { refusal = r; hasher = g })) (w ∷ p ∷ s ∷ []) ≡ updated_left (record { refusal = r; hasher = g })
      by (Ok u) g k = refl
      by (Err r) g k =
          let f = read_is w p s h is in
          sym (ap (λ (xs : List (List ℕ)). left (number r) (xs ++ answer_pair 0 (Err r) ∷ [])) (ap slices_of (k refl ∙ sym f.1) ∙ slices-back w p s f.0))

  update_same : (bytes : List ℕ) (l : Loan) → is_ok (updated h bytes l).refusal ≡ false → (updated h bytes l).hasher ≡ h
  unfolding updated
  update_same bytes l n = rw n

  pub update_left : (bytes : List ℕ) (l : Loan) (answer : List ℕ) → length answer ≡ 2
      → updated_told (hasher_handed (updated h bytes l)) (w ∷ p ∷ s ∷ []) ≡ update_call w p s bytes l answer
  unfolding update_call
  update_left bytes l answer a =
      let f = read_is w p s h is in
      told (updated h bytes l) (update_same bytes l) ∙ rw (f.0, eq-eqb (length answer) 2 a, f.1)

  reset_same : is_ok (reset_of h).refusal ≡ false → (reset_of h).hasher ≡ h
  unfolding reset_of
  reset_same = by (well_formed h)
    where
      by : (b : Bool) → is_ok (pick {A = UpdateAccount} b (record { refusal = Ok tt; hasher = fresh_of h.flags }) (record { refusal = Err HasherForm; hasher = h })).refusal ≡ false
          → (pick {A = UpdateAccount} b (record { refusal = Ok tt; hasher = fresh_of h.flags }) (record { refusal = Err HasherForm; hasher = h })).hasher ≡ h
      by true e = absurd (true≢false e)
      by false e = refl

  pub reset_left : (answer : List ℕ) → length answer ≡ 2 → updated_told (hasher_handed (reset_of h)) (w ∷ p ∷ s ∷ []) ≡ reset_call w p s answer
  unfolding reset_call
  reset_left answer a =
      let f = read_is w p s h is in
      told (reset_of h) reset_same ∙ rw (f.0, eq-eqb (length answer) 2 a, f.1)
