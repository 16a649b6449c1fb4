-- Demand 2, the verdict: ok exactly when no block is marked, padding included, else mitigated or collision. Assumes nothing.
use mathlib.Core.Path.{◌≡◌, refl, sym, ap, ◌∙◌}
use mathlib.Core.Bool.{Bool, true, false, true≢false, false≢true}
use mathlib.Core.List.{List}
use mathlib.Core.Logic.Iff
use mathlib.Core.Logic.{◌↔◌}
use Prim.Native.Nat.{ℕ}
use Rattle.finish.specs.Finish.{FinishAccount, Outcome}
use Rattle.std.specs.Prelude.{Ok as Done}
use Rattle.verdict.specs.Verdict.{verdict_of}
use Rattle.verdict.specs.declared.Verdict.{Verdict}
use Rattle.verdict.specs.declared.Verdict.TheVariants.{Ok, Mitigated, Collision}
use Rattle.flags.specs.declared.Flags.{Flags}
use Rattle.loan.specs.Loan.{Tables}
use Rattle.claims.specs.Pieces.{Piece, bytes_of, hashed, loan_of_all, NoneRefused}
use Rattle.claims.specs.Marked.{blocks_in, marked_at, NoneMarked, OneMarked}
use Rattle.claims.proofs.Below.{any_below, none_below, some_below}
use Rattle.claims.proofs.Whole.{hashed-is}

-- the verdict that a mark and the mitigation flag lead to is v
abbrev pub LeadTo : Bool → Bool → Verdict → Type 0
LeadTo mark mitigate v = ◌≡◌ {A = Outcome} (Done (verdict_of mark mitigate)) (Done v)

pub is-ok : (mark mitigate : Bool) → LeadTo mark mitigate Ok ↔ (mark ≡ false)
is-ok false mitigate = (λ e. refl, λ k. refl)
is-ok true true = (λ e. cc, λ k. cc)
is-ok true false = (λ e. cc, λ k. cc)

pub is-mitigated : (mark mitigate : Bool) → LeadTo mark mitigate Mitigated ↔ ((mark ≡ true) × (mitigate ≡ true))
is-mitigated true true = (λ e. (refl, refl), λ k. refl)
is-mitigated true false = (λ e. (refl, cc), λ k. absurd (false≢true k.1))
is-mitigated false mitigate = (λ e. (cc, cc), λ k. absurd (false≢true k.0))

pub is-collision : (mark mitigate : Bool) → LeadTo mark mitigate Collision ↔ ((mark ≡ true) × (mitigate ≡ false))
is-collision true false = (λ e. (refl, refl), λ k. refl)
is-collision true true = (λ e. (refl, cc), λ k. absurd (true≢false k.1))
is-collision false mitigate = (λ e. (cc, cc), λ k. absurd (false≢true k.0))

module _ (f : Flags) (t : Tables) (ps : List Piece) (last : List ℕ) (ok : NoneRefused f t ps last) where
  -- whether block i is marked
  abbrev test : ℕ → Bool
  test = marked_at f (loan_of_all t ps last) (bytes_of ps)

  verdict-is : (v : Verdict) → ((hashed f t ps last).outcome ≡ Done v) ↔ LeadTo (any_below test (blocks_in (bytes_of ps))) f.mitigate v
  verdict-is v =
      let e = ap (λ (r : FinishAccount). r.outcome) (hashed-is f t ps last ok) in
      (λ p. sym e ∙ p, λ p. e ∙ p)

  -- The verdict is ok exactly when no block is marked, padding included.
  pub ok-exactly : ((hashed f t ps last).outcome ≡ Done Ok) ↔ NoneMarked f (loan_of_all t ps last) (bytes_of ps)
  ok-exactly = Iff.trans (verdict-is Ok) (Iff.trans (is-ok _ f.mitigate) (none_below test (blocks_in (bytes_of ps))))

  -- It is mitigated exactly when one is and mitigation is on.
  pub mitigated-exactly : ((hashed f t ps last).outcome ≡ Done Mitigated)
      ↔ (OneMarked f (loan_of_all t ps last) (bytes_of ps) × (f.mitigate ≡ true))
  mitigated-exactly =
      Iff.trans (verdict-is Mitigated) (Iff.trans (is-mitigated _ f.mitigate) (Iff.and (some_below test (blocks_in (bytes_of ps))) Iff.rfl))

  -- It is collision exactly when one is and mitigation is off.
  pub collision-exactly : ((hashed f t ps last).outcome ≡ Done Collision)
      ↔ (OneMarked f (loan_of_all t ps last) (bytes_of ps) × (f.mitigate ≡ false))
  collision-exactly =
      Iff.trans (verdict-is Collision) (Iff.trans (is-collision _ f.mitigate) (Iff.and (some_below test (blocks_in (bytes_of ps))) Iff.rfl))
