-- A finish into 20 lent bytes is the finish of the hasher that is lent: its outcome, its first mark, and its digest where nothing is refused.
-- Assumes nothing.
use mathlib.Core.Path.{◌≡◌, refl, ap}
use mathlib.Core.Bool.{Bool, ◌&&◌}
use mathlib.Core.List.{List, [], ◌∷◌}
use Prim.Native.Nat.{ℕ}
use lib.Dec.{eqb}
use lib.ListN.{length, replicate}
use Rattle.std.specs.Prelude.{Ok, Err, is_ok}
use Rattle.refusal.specs.Refusal.{Checked}
use Rattle.verdict.specs.Verdict.{digest_size}
use Rattle.stream.specs.declared.Chain.{Chain}
use Rattle.loan.specs.Loan.{Loan}
use Rattle.finish.specs.Finish.{last_chain, finish_refusal, outcome_of, outcome_refusal, digest_or, first_or, finished, finished_reset, written_out}
use Rattle.layout.specs.Layout.{hasher_in, hasher_fits}
use Rattle.answers.specs.Answers.{guarded, unless_refused, outcome_left, digest_left}
use Rattle.lent_finish.specs.LentFinish.{finish_call}

-- what stands in the output is the digest that a finish gives, or on a refusal what was there
given : (r : Checked) (b : Bool) → is_ok r ≡ b → (c : Chain) (m : Bool) (other out : List ℕ)
    → digest_or r c out ≡ unless_refused (outcome_refusal (outcome_of r c m)) (digest_or r c other) out
given (Ok tt) b i c m other out = refl
given (Err r) b i c m other out = refl

module _ (w p s : List ℕ) (digest : List ℕ) (l : Loan) (answer : List ℕ) where
  pub finish-finishes : length digest ≡ digest_size
      → finish_call w p s digest l answer ≡ guarded (hasher_fits (length w) (length p) s && eqb (length answer) 4) (digest_left (finished (hasher_in w p s) l).outcome (finished (hasher_in w p s) l).first (finished (hasher_in w p s) l).digest digest) (digest ∷ answer ∷ [])
  unfolding finish_call finished finished_reset written_out
  finish-finishes e =
      let h = hasher_in w p s in
      let r = finish_refusal h digest_size l in
      let c = last_chain h l in
      let m = h.flags.mitigate in
      let fits = hasher_fits (length w) (length p) s && eqb (length answer) 4 in
      rw e (ap (λ (out : List ℕ). guarded fits (outcome_left (outcome_of r c m) (first_or r c) out) (digest ∷ answer ∷ [])) (given r (is_ok r) refl c m (replicate digest_size 0) digest))
