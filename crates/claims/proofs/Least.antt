-- The least number of which a fact holds, the first record that a search finds, and what a first mark says by them. Assumes nothing.
use mathlib.Core.Path.{◌≡◌, refl, sym, ap, ◌∙◌}
use mathlib.Core.Logic.Iff
use mathlib.Core.Logic.{◌↔◌}
use mathlib.Core.Bool.{Bool, true, false, ◌||◌, true≢false, false≢true}
use Prim.Native.Nat.{ℕ, zero, suc, ◌+◌, ◌<◌}
use native.Mathlib.Nat.{lt_of_not-le}
use native.Mathlib.Omega.{arith}
use Rattle.search.specs.Search.{is_marked, marking_place}
use Rattle.search.specs.Ended.{Ended, hit, miss}
use Rattle.search.specs.declared.Found.{Found}
use Rattle.stream.specs.Fold.{nowhere}
use Rattle.stream.specs.declared.FirstMark.{FirstMark}
use Rattle.hasher.specs.declared.Hasher.{Hasher}
use Rattle.claims.specs.First.{Least, FirstBy, FirstOfCall}
use Rattle.claims.proofs.Below.{any_below, none_below}

-- there is one least number
pub least-only : {n : ℕ} {P : ℕ → Type 0} (i j : ℕ) → Least n P i → Least n P j → i ≡ j
least-only i j a b =
    let x : i < suc j = lt_of_not-le (λ k. a.none_before j k b.holds) in
    let y : j < suc i = lt_of_not-le (λ k. b.none_before i k a.holds) in
    omega arith

-- of what comes to the same it is the same
least-to : {n : ℕ} {P Q : ℕ → Type 0} → ((j : ℕ) → j < n → P j ↔ Q j) → (i : ℕ) → Least n P i → Least n Q i
least-to e i a =
    let below = a.inside in
    record {
      inside = below;
      holds = (e i below).0 a.holds;
      none_before = λ j l q. a.none_before j l ((e j (omega arith)).1 q);
    }

pub least-alike : {n : ℕ} {P Q : ℕ → Type 0} → ((j : ℕ) → j < n → P j ↔ Q j) → (i : ℕ) → Least n P i ↔ Least n Q i
least-alike e i = (least-to e i, least-to (λ j l. Iff.symm (e j l)) i)

-- where a test holds below n there is a least number of which it does
pub least-below : (test : ℕ → Bool) (n : ℕ) → any_below test n ≡ true → (i : ℕ) × Least n (λ j. test j ≡ true) i
unfolding any_below
least-below test zero e = absurd (false≢true e)
least-below test (suc n) e = by (any_below test n) refl e (least-below test n)
  where
    by : (b : Bool) → any_below test n ≡ b → (b || test n) ≡ true → (any_below test n ≡ true → (i : ℕ) × Least n (λ j. test j ≡ true) i)
        → (i : ℕ) × Least (suc n) (λ j. test j ≡ true) i
    by true k m fewer =
        let w = fewer k in
        let below = w.1.inside in
        (w.0, record { inside = omega arith; holds = w.1.holds; none_before = w.1.none_before })
    by false k m fewer =
        (n, record { inside = omega arith; holds = m; none_before = λ j l q. true≢false (sym q ∙ (none_below test n).0 k j l) })

-- what a search ends with, where it found a mark, is the first selected place that marks
pub hit-least : {selected marks : ℕ → Bool} {n : ℕ} {f : Found} → Ended selected marks n 0 f → is_marked f ≡ true
    → Least n (λ q. (selected q ≡ true) × (marks q ≡ true)) (marking_place f)
hit-least (hit p a b s m none) e =
    record { inside = b; holds = (s, m); none_before = λ j l q. true≢false (sym q.1 ∙ none j (omega arith) l q.0) }
hit-least (miss none) e = absurd (false≢true e)

module _ {M : Type 0} {At : ℕ → ℕ → Type 0} (before : ℕ) (first : FirstMark) where
  -- a first mark that is zeros without a mark, and the number and the place of any two that At holds of, is no other
  pub first_by_lem : ((M → ⊥) → first ≡ nowhere) → (M → (i : ℕ) × (p : ℕ) × At i p)
      → ((i p : ℕ) → At i p → M × (first ≡ record { block = before + i; place = p })) → FirstBy (λ i. before + i) M At first
  first_by_lem none some gives =
      record {
        none = none;
        some = some;
        there = λ i p. (
          λ k.
              let w = some k.0 in
              let e = sym k.1 ∙ (gives w.0 w.1 w.2).1 in
              let b = ap (λ (m : FirstMark). m.block) e in
              let ei : i ≡ w.0 = omega (arith, b) in
              let ep : p ≡ w.1 = ap (λ (m : FirstMark). m.place) e in
              rw (ei, ep) w.2,
          gives i p,
        );
      }

-- two ways to say whether and where a stream is marked first that come to the same
pub record Same (M N : Type 0) (At Bt : ℕ → ℕ → Type 0) : Type 0 where
  pub whether : M ↔ N
  pub places : (i p : ℕ) → At i p ↔ Bt i p

module _ {M N : Type 0} {At Bt : ℕ → ℕ → Type 0} (e : Same M N At Bt) where
  pub by-same : {number : ℕ → ℕ} {first : FirstMark} → FirstBy number M At first → FirstBy number N Bt first
  by-same s =
      record {
        none = λ n. s.none (λ m. n (e.whether.0 m));
        some = λ x. let w = s.some (e.whether.1 x) in (w.0, w.1, (e.places w.0 w.1).0 w.2);
        there = λ i p. Iff.trans (Iff.and (Iff.symm e.whether) Iff.rfl) (Iff.trans (s.there i p) (e.places i p));
      }

  pub call_same : {h : Hasher} {first : FirstMark} → FirstOfCall h M At first → FirstOfCall h N Bt first
  call_same s = record { kept = s.kept; told = λ m. by-same (s.told m) }

-- numbers that are equal say the same
pub by_number : {number other : ℕ → ℕ} {M : Type 0} {At : ℕ → ℕ → Type 0} {first : FirstMark} → ((i : ℕ) → number i ≡ other i)
    → FirstBy number M At first → FirstBy other M At first
by_number e s = record { none = s.none; some = s.some; there = λ i p. rw (← e i) (s.there i p) }
