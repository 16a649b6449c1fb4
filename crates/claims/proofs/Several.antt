-- Several messages on one hasher: each ends as on a new one; and updates in place one after the other are those by value. Assumes nothing.
use mathlib.Core.Path.{◌≡◌, refl, sym, ap, ap₂, ◌∙◌}
use mathlib.Core.Bool.{true≢false}
use mathlib.Core.List.{List, [], ◌∷◌}
use Prim.Native.Nat.{ℕ}
use native.Mathlib.Omega.{arith}
use lib.ListN.{replicate}
use Rattle.one_shot.specs.Whole.{WholeAccount}
use Rattle.std.specs.Prelude.{Ok, is_ok}
use Rattle.word.proofs.Tests.{of_either}
use Rattle.refusal.specs.Refusal.{number_of, Checked}
use Rattle.refusal.proofs.Passed.{of_refusal_lem}
use Rattle.verdict.specs.Verdict.{digest_size}
use Rattle.flags.specs.declared.Flags.{Flags}
use Rattle.loan.specs.Loan.{Tables, Loan, lend}
use Rattle.hasher.specs.Hasher.{well_formed, fresh_of, reset_of, UpdateAccount}
use Rattle.hasher.specs.declared.Hasher.{Hasher}
use Rattle.finish.specs.Finish.{finish_refusal, finished, finished_reset, written_out}
use Rattle.claims.specs.Pieces.{Piece, piecewise, taking, hashed_on, hashed}
use Rattle.claims.specs.Several.{LentMessage, alone, each_alone, AllTaken, one_after_other, RunInPlace}
use Rattle.claims.proofs.Kept.{pieces-flags}
use Rattle.claims.proofs.Piecewise.{updated_by, piecewise-nil, piecewise-cons}
use Rattle.claims.proofs.FinishReset.{finish-reset-outcome, finish-reset-first, finish-reset-writes}

-- what a reset and a finish-and-reset leave, not refused
pub reset-fresh : (h : Hasher) → (reset_of h).refusal ≡ (Ok tt) → (reset_of h).hasher ≡ fresh_of h.flags
unfolding reset_of
reset-fresh h =
    of_either (λ (u : UpdateAccount). u.refusal ≡ (Ok tt) → u.hasher ≡ fresh_of h.flags) (well_formed h) _ _ (λ e. refl)
    (λ e. absurd (omega (arith, ap number_of e)))

pub finish-reset-fresh : (h : Hasher) (size : ℕ) (l : Loan) → finish_refusal h size l ≡ (Ok tt) → (finished_reset h size l).hasher ≡ fresh_of h.flags
unfolding finished_reset
finish-reset-fresh h size l e = rw e

module _ (h : Hasher) (t : Tables) (ps : List Piece) (last : List ℕ) where
  -- After a reset that is not refused the next message's outcome, digest and first mark are those of a new hasher with the same flags, refused or not.
  pub next-after-reset : (reset_of h).refusal ≡ (Ok tt) → hashed_on (reset_of h).hasher t ps last ≡ hashed h.flags t ps last
  next-after-reset e = ap (λ (g : Hasher). hashed_on g t ps last) (reset-fresh h e)

  -- After a finish-and-reset that is not refused they are.
  pub next-after-finish-reset : (size : ℕ) (l : Loan) → finish_refusal h size l ≡ Ok tt
      → hashed_on (finished_reset h size l).hasher t ps last ≡ hashed h.flags t ps last
  next-after-finish-reset size l e = ap (λ (g : Hasher). hashed_on g t ps last) (finish-reset-fresh h size l e)

-- Messages one after the other on one hasher, each ended by a finish-and-reset, have the outcomes, digests and first marks that they have on new hashers.
pub several-alone : (ms : List LentMessage) (f : Flags) → AllTaken f ms → one_after_other (fresh_of f) ms ≡ each_alone f ms
unfolding one_after_other
several-alone [] f ok = refl
several-alone (m ∷ ms) f ok =
    let g = (taking f m.tables m.pieces).hasher in
    let l = lend m.tables m.last in
    let zeros : List ℕ = replicate digest_size 0 in
    let out : (finished_reset g digest_size l).outcome ≡ (finished g l).outcome = finish-reset-outcome g zeros l refl in
    let wrote : written_out g zeros l ≡ (finished g l).digest = finish-reset-writes g zeros l refl ok.0.finish in
    let told : (finished_reset g digest_size l).first ≡ (finished g l).first = finish-reset-first g zeros l refl in
    let fresh : (finished_reset g digest_size l).hasher ≡ fresh_of f =
    finish-reset-fresh g digest_size l ok.0.finish ∙ ap fresh_of (pieces-flags (fresh_of f) m.tables m.pieces)
    in
    let here : WholeAccount = record { outcome = (finished_reset g digest_size l).outcome; digest = written_out g zeros l; first = (finished_reset g digest_size l).first } in
    let same : here ≡ alone f m = rw (out, wrote, told) in
    ap₂ (λ (x : WholeAccount) (xs : List WholeAccount). x ∷ xs) same (ap (λ (k : Hasher). one_after_other k ms) fresh ∙ several-alone ms f ok.1)

-- A run of updates in place leaves the refusal and the hasher of the run by value.
pub run-in-place : (ps : List Piece) (h : Hasher) (t : Tables) (r : Checked) (g : Hasher) → RunInPlace h t ps r g
    → (g ≡ (piecewise h t ps).hasher) × (r ≡ (piecewise h t ps).refusal)
run-in-place [] h t r g p = rw (piecewise-nil h t) p
run-in-place (q ∷ ps) h t r g p =
    let u = updated_by h t q in
    let c = p.call in
    rw (piecewise-cons h t q ps)
    (of_refusal_lem (λ (v : UpdateAccount). (g ≡ v.hasher) × (r ≡ v.refusal)) u.refusal (piecewise u.hasher t ps) u
    (λ e. rw c.0 at (run-in-place ps p.left t r g (p.goes_on (c.1 ∙ e))))
    (λ e. let q = p.ends (λ z. true≢false (ap is_ok (sym z ∙ c.1) ∙ e)) in (q.0 ∙ c.0, q.1 ∙ c.1)))

-- And there is such a run.
pub some-run : (ps : List Piece) (h : Hasher) (t : Tables) → RunInPlace h t ps (piecewise h t ps).refusal (piecewise h t ps).hasher
some-run [] h t = rw (piecewise-nil h t) (refl, refl)
some-run (q ∷ ps) h t =
    let u = updated_by h t q in
    of_refusal_lem (λ (v : UpdateAccount). piecewise h t (q ∷ ps) ≡ v → RunInPlace h t (q ∷ ps) (piecewise h t (q ∷ ps)).refusal (piecewise h t (q ∷ ps)).hasher)
    u.refusal (piecewise u.hasher t ps) u
    (λ e v. rw v (record { answer = u.refusal; left = u.hasher; call = (refl, refl); goes_on = λ k. some-run ps u.hasher t; ends = λ n. absurd (n e) }))
    (λ e v. rw v (record { answer = u.refusal; left = u.hasher; call = (refl, refl); goes_on = λ k. absurd (true≢false (ap is_ok (sym k) ∙ e)); ends = λ n. (refl, refl) }))
    (piecewise-cons h t q ps)
