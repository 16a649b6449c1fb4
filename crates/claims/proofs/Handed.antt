-- What callers by value are handed is what the accounts of their calls say, which the theorems are about: the same refusals, and beside none
-- of them the same values. Assumes nothing.
use mathlib.Core.Path.{◌≡◌, refl, sym, ap, ◌∙◌}
use mathlib.Core.Logic.{◌↔◌}
use Rattle.std.specs.Prelude.{Option, Result, Ok, Err}
use Rattle.std.specs.Result.{result_map_both}
use Rattle.refusal.specs.declared.Refusal.{Refusal}
use Rattle.verdict.specs.declared.Verdict.{Verdict}
use Rattle.verdict.specs.declared.Verdict.TheVariants.{Ok as OkVerdict, Mitigated, Collision}
use Rattle.stream.specs.declared.FirstMark.{FirstMark}
use Rattle.detect.specs.Detect.{BlockAccount, block_handed}
use Rattle.detect.specs.declared.OneBlock.{OneBlock}
use Rattle.hasher.specs.Hasher.{UpdateAccount, hasher_handed}
use Rattle.hasher.specs.declared.Hasher.{Hasher}
use Rattle.finish.specs.Finish.{FinishAccount, ResetAccount, first_told, finish_handed, reset_handed}
use Rattle.finish.specs.declared.Finished.{Finished}
use Rattle.finish.specs.declared.FinishedReset.{FinishedReset}
use Rattle.one_shot.specs.Whole.{WholeAccount, whole_handed}
use Rattle.one_shot.specs.declared.Digested.{Digested}
use Rattle.claims.specs.Handed.{RefusesAlike, TellsFirst}

-- what is made of an outcome, where no two are made the same
module _ {V F : Type 0} (make : V → F) where
  pub alike : (o : Result V Refusal) → RefusesAlike (result_map_both make (λ r. r) o) o
  alike (Ok v) r = (λ e. absurd cc, λ e. absurd cc)
  alike (Err q) r = (λ e. cc, λ e. cc)

  pub hands : (read : F → V) → ((v : V) → read (make v) ≡ v) → (o : Result V Refusal) (f : F)
      → (result_map_both make (λ r. r) o ≡ Ok f) ↔ ((o ≡ Ok (read f)) × (make (read f) ≡ f))
  hands read back (Ok v) f = (
    λ e. let m : make v ≡ f = cc in let k : read f ≡ v = ap read (sym m) ∙ back v in (ap Ok (sym k), ap make k ∙ m),
    λ k. let m : v ≡ read f = cc in ap Ok (ap make m ∙ k.1),
  )
  hands read back (Err q) f = (λ e. absurd cc, λ k. absurd cc)

-- what is told of the first mark, by the verdict
pub tells : (v : Verdict) (first : FirstMark) (told : Option FirstMark) → (told ≡ first_told v first) ↔ TellsFirst v first told
tells OkVerdict first told = (λ e. ((λ n. refl, λ k. e), λ n. absurd (n refl)), λ t. t.0.1 refl)
tells Mitigated first told = (λ e. ((λ n. absurd cc, λ k. absurd cc), λ n. e), λ t. t.1 (λ k. absurd cc))
tells Collision first told = (λ e. ((λ n. absurd cc, λ k. absurd cc), λ n. e), λ t. t.1 (λ k. absurd cc))

-- An update or a reset: its refusal, else its hasher.
pub hasher-handed : (a : UpdateAccount) → RefusesAlike (hasher_handed a) a.refusal
    × ((g : Hasher) → (hasher_handed a ≡ Ok g) ↔ ((a.refusal ≡ Ok tt) × (g ≡ a.hasher)))
hasher-handed a = (
  alike _ a.refusal,
  λ g. let h = hands _ (λ (x : Hasher). tt) (λ v. refl) a.refusal g in
      (λ e. ((h.0 e).0, sym (h.0 e).1), λ k. h.1 (k.0, sym k.1)),
)

-- A finish: its refusal, else the verdict, the digest, the first mark, which is none beside ok, and the hasher.
pub finish-handed : (a : FinishAccount) → RefusesAlike (finish_handed a) a.outcome
    × ((f : Finished) → (finish_handed a ≡ Ok f)
    ↔ ((a.outcome ≡ Ok f.verdict) × (f.digest ≡ a.digest) × TellsFirst f.verdict a.first f.first × (f.hasher ≡ a.hasher)))
finish-handed a = (
  alike _ a.outcome,
  λ f. let h = hands _ (λ (x : Finished). x.verdict) (λ v. refl) a.outcome f in let t = tells f.verdict a.first f.first in (
    λ e. let k = h.0 e in (k.0, ap (λ (x : Finished). x.digest) (sym k.1), t.0 (ap (λ (x : Finished). x.first) (sym k.1)), ap (λ (x : Finished). x.hasher) (sym k.1)),
    λ k. let m = t.1 k.2 in h.1 (k.0, rw (← k.1, ← m, ← k.3)),
  ),
)

-- A finish-and-reset: its refusal, else the verdict, the first mark and the reset hasher.
pub reset-handed : (a : ResetAccount) → RefusesAlike (reset_handed a) a.outcome
    × ((f : FinishedReset) → (reset_handed a ≡ Ok f)
    ↔ ((a.outcome ≡ Ok f.verdict) × TellsFirst f.verdict a.first f.first × (f.hasher ≡ a.hasher)))
reset-handed a = (
  alike _ a.outcome,
  λ f. let h = hands _ (λ (x : FinishedReset). x.verdict) (λ v. refl) a.outcome f in let t = tells f.verdict a.first f.first in (
    λ e. let k = h.0 e in (k.0, t.0 (ap (λ (x : FinishedReset). x.first) (sym k.1)), ap (λ (x : FinishedReset). x.hasher) (sym k.1)),
    λ k. let m = t.1 k.1 in h.1 (k.0, rw (← m, ← k.2)),
  ),
)

-- A whole message, or one-shot: its refusal, else the verdict, the digest and the first mark.
pub whole-handed : (a : WholeAccount) → RefusesAlike (whole_handed a) a.outcome
    × ((f : Digested) → (whole_handed a ≡ Ok f)
    ↔ ((a.outcome ≡ Ok f.verdict) × (f.digest ≡ a.digest) × TellsFirst f.verdict a.first f.first))
whole-handed a = (
  alike _ a.outcome,
  λ f. let h = hands _ (λ (x : Digested). x.verdict) (λ v. refl) a.outcome f in let t = tells f.verdict a.first f.first in (
    λ e. let k = h.0 e in (k.0, ap (λ (x : Digested). x.digest) (sym k.1), t.0 (ap (λ (x : Digested). x.first) (sym k.1))),
    λ k. let m = t.1 k.2 in h.1 (k.0, rw (← k.1, ← m)),
  ),
)

-- The one-block entry: its refusal, else the words and what was found.
pub block-handed : (a : BlockAccount) → RefusesAlike (block_handed a) a.refusal
    × ((f : OneBlock) → (block_handed a ≡ Ok f) ↔ ((a.refusal ≡ Ok tt) × (f.words ≡ a.words) × (f.found ≡ a.found)))
block-handed a = (
  alike _ a.refusal,
  λ f. let h = hands _ (λ (x : OneBlock). tt) (λ v. refl) a.refusal f in (
    λ e. let k = h.0 e in (k.0, ap (λ (x : OneBlock). x.words) (sym k.1), ap (λ (x : OneBlock). x.found) (sym k.1)),
    λ k. h.1 (k.0, rw (← k.1, ← k.2)),
  ),
)
