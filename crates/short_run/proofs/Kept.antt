-- A refused call leaves hashers as they were: what a caller is handed, or else what it gave, is what the account of the call says.
-- Assumes nothing.
use Rattle.std.proofs.Common.{◌≡◌, refl, sym, Bool, false, List, ℕ, ◌∙◌}
use Rattle.std.specs.Prelude.{Result, Ok, Err, is_ok, MatchResult}
use Rattle.std.specs.Result.{result_map_both, result_unwrap_or}
use Rattle.word.specs.Choice.{pick}
use Rattle.refusal.specs.Refusal.{Checked}
use Rattle.refusal.specs.declared.Refusal.{Refusal}
use Rattle.loan.specs.Loan.{Loan}
use Rattle.stream.specs.declared.Chain.{Chain}
use Rattle.hasher.specs.Hasher.{hasher_handed, fresh_of}
use Rattle.hasher.specs.declared.Hasher.{Hasher}
use Rattle.update.specs.Update.{updated}
use Rattle.finish.specs.Finish.{outcome_of, last_chain, finish_refusal, finished, finish_handed, finished_reset, reset_handed}
use Rattle.finish.specs.declared.Finished.{Finished}
use Rattle.finish.specs.declared.FinishedReset.{FinishedReset}

-- what stands in for an answer that is refused is what the account says
handed_or : {A T : Type 0} (r : Result T Refusal) (x h : A) → (is_ok r ≡ false → x ≡ h) → result_unwrap_or (result_map_both (λ _. x) (λ e. e) r) h ≡ x
handed_or (Ok u) x h left = refl
handed_or (Err e) x h left = sym (left refl)

-- a refused update, by value
update_left : (h : Hasher) (bytes : List ℕ) (l : Loan) → is_ok (updated h bytes l).refusal ≡ false → (updated h bytes l).hasher ≡ h
unfolding updated
update_left h bytes l e = rw e

pub update_kept : (h : Hasher) (bytes : List ℕ) (l : Loan) → result_unwrap_or (hasher_handed (updated h bytes l)) h ≡ (updated h bytes l).hasher
update_kept h bytes l = handed_or (updated h bytes l).refusal _ h (update_left h bytes l)

refused_or : (r : Checked) (c : Chain) (mitigate : Bool) (x h : Hasher) → is_ok (outcome_of r c mitigate) ≡ false → pick (is_ok r) x h ≡ h
refused_or (Ok u) c mitigate x h e = cc
refused_or (Err r) c mitigate x h e = refl

-- a refused finish-and-reset
reset_left : (h : Hasher) (size : ℕ) (l : Loan) → is_ok (finished_reset h size l).outcome ≡ false → (finished_reset h size l).hasher ≡ h
unfolding finished_reset
reset_left h size l e = refused_or (finish_refusal h size l) (last_chain h l) h.flags.mitigate (fresh_of h.flags) h e

-- what is read of an answer, or else what was given, where each answer has the same there
taken_or : {V F A : Type 0} (o : Result V Refusal) (make : V → F) (read : F → A) (x h r : A) → ((v : V) → read (make v) ≡ x) → (is_ok o ≡ false → x ≡ h)
    → MatchResult (result_map_both make (λ e. e) o) (λ f. r ≡ read f) (λ _. r ≡ h) → r ≡ x
taken_or (Ok v) make read x h r reads left m = m ∙ reads v
taken_or (Err e) make read x h r reads left m = m ∙ sym (left refl)

-- the hasher of a finish
pub finish_kept : (h : Hasher) (l : Loan) (o : Result Finished Refusal) (r : Hasher) → o ≡ finish_handed (finished h l)
    → MatchResult o (λ f. r ≡ f.hasher) (λ _. r ≡ h) → r ≡ h
unfolding finished
finish_kept h l o r e m = taken_or (finished h l).outcome _ (λ (f : Finished). f.hasher) h h r (λ v. refl) (λ n. refl) (rw e at m)

-- of a finish-and-reset
pub reset_kept : (h : Hasher) (size : ℕ) (l : Loan) (o : Result FinishedReset Refusal) (r : Hasher) → o ≡ reset_handed (finished_reset h size l)
    → MatchResult o (λ f. r ≡ f.hasher) (λ _. r ≡ h) → r ≡ (finished_reset h size l).hasher
reset_kept h size l o r e m =
    taken_or (finished_reset h size l).outcome _ (λ (f : FinishedReset). f.hasher) _ h r (λ v. refl) (reset_left h size l) (rw e at m)
