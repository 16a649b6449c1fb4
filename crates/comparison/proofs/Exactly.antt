-- Each answer of a comparison, exactly when. Assumes nothing.
use mathlib.Core.Path.{◌≡◌, refl, sym, ◌∙◌, subst}
use mathlib.Core.Bool.{Bool, true, false, true≢false, false≢true}
use mathlib.Core.List.{List}
use mathlib.Core.Logic.{◌↔◌}
use Prim.Native.Nat.{ℕ}
use native.Mathlib.Omega.{arith}
use lib.ListN.{length}
use borrow.Author.Tests.{ltb-true, ltb-false, ne_eqb}
use Rattle.std.specs.Prelude.{Ok as Said, Err as Refused}
use Rattle.word.specs.Choice.{pick}
use Rattle.word.proofs.Tests.{unless-true}
use Rattle.refusal.specs.Refusal.{Checked}
use Rattle.refusal.specs.declared.Refusal.{Refusal}
use Rattle.verdict.specs.declared.Verdict.{Verdict}
use Rattle.verdict.specs.declared.Verdict.TheVariants.{Ok, Mitigated, Collision}
use Rattle.octets.specs.Octets.{same_bytes}
use Rattle.octets.proofs.Same.{same-exactly}
use Rattle.refusal.proofs.Chains.{nothing_is}
use Rattle.sheet.specs.Sheet.{digest_at, records_on, record_for, on_sheet, lookup_refusal}
use Rattle.sheet.specs.Exactly.{Accepted, FirstRecord, NoRecord}
use Rattle.sheet.proofs.Parts.{digest-at-length}
use Rattle.sheet.proofs.Exactly.{first-record, no_record, accepted-exactly, part-of-first, part-of-none}
use Rattle.comparison.specs.Compare.{Compared, says_marked, compared_of}
use Rattle.comparison.specs.declared.Comparison.TheVariants.{Match, Differs, Absent, Marked}

-- a verdict says that a block was marked exactly when it is not ok
pub says-marked-exactly : (v : Verdict) → (says_marked v ≡ true) ↔ (v ≡ Ok → ⊥)
says-marked-exactly Ok = (λ h. absurd (false≢true h), λ n. absurd (n refl))
says-marked-exactly Mitigated = (λ h e. (let z : true ≡ false = cc in true≢false z), λ n. refl)
says-marked-exactly Collision = (λ h e. (let z : true ≡ false = cc in true≢false z), λ n. refl)

unmarked-ok : (v : Verdict) → says_marked v ≡ false → v ≡ Ok
unmarked-ok Ok h = refl
unmarked-ok Mitigated h = absurd (true≢false h)
unmarked-ok Collision h = absurd (true≢false h)

-- what a sheet has for a barcode: a refusal, a first record, or none
pub data Sought (s c : List ℕ) : Type 0 where
  turned_away_lem : {r : Refusal} → lookup_refusal s c ≡ Refused r → Sought s c
  found : Accepted s c → (k : ℕ) → FirstRecord s c k → Sought s c
  missing : Accepted s c → NoRecord s c → Sought s c

pub sought : (s c : List ℕ) → Sought s c
sought s c = tested _ refl
  where
    accepted : Accepted s c → (t : Bool) → on_sheet s c ≡ t → Sought s c
    accepted a true e = found a (record_for s c) ((first-record s c (record_for s c)).0 (refl, ltb-true (record_for s c) (records_on s) e))
    accepted a false e = missing a ((no_record s c).0 (ltb-false (record_for s c) (records_on s) e))

    tested : (r : Checked) → lookup_refusal s c ≡ r → Sought s c
    tested (Said u) e = accepted ((accepted-exactly s c).0 (rw e)) _ refl
    tested (Refused r) e = turned_away_lem e

-- why a comparison gives the answer that it gives
data Why (s c : List ℕ) (v : Verdict) (d : List ℕ) : Compared → Type 0 where
  refused : (r : Refusal) → Why s c v d (Refused r)
  match : Accepted s c → (k : ℕ) → FirstRecord s c k → v ≡ Ok → digest_at s k ≡ d → Why s c v d (Said Match)
  differs : Accepted s c → (k : ℕ) → FirstRecord s c k → v ≡ Ok → (digest_at s k ≡ d → ⊥) → Why s c v d (Said Differs)
  marked : Accepted s c → (k : ℕ) → FirstRecord s c k → (v ≡ Ok → ⊥) → Why s c v d (Said Marked)
  absent : Accepted s c → NoRecord s c → Why s c v d (Said Absent)

module _ {s c : List ℕ} {v : Verdict} {d : List ℕ} where
  of-match : Why s c v d (Said Match) → Accepted s c × (k : ℕ) × FirstRecord s c k × (v ≡ Ok) × (digest_at s k ≡ d)
  of-match (match a k f o e) = (a, k, f, o, e)

  of-differs : Why s c v d (Said Differs) → Accepted s c × (k : ℕ) × FirstRecord s c k × (v ≡ Ok) × (digest_at s k ≡ d → ⊥)
  of-differs (differs a k f o n) = (a, k, f, o, n)

  of-marked : Why s c v d (Said Marked) → Accepted s c × (k : ℕ) × FirstRecord s c k × (v ≡ Ok → ⊥)
  of-marked (marked a k f n) = (a, k, f, n)

  of-absent : Why s c v d (Said Absent) → Accepted s c × NoRecord s c
  of-absent (absent a n) = (a, n)

module _ (s c : List ℕ) (v : Verdict) (d : List ℕ) where
  accepted-is : Accepted s c → lookup_refusal s c ≡ Said tt
  accepted-is a = nothing_is (lookup_refusal s c) ((accepted-exactly s c).1 a)

  -- the answer where a record is found, by whether a block was marked and whether its digest is d
  pub found-said : Accepted s c → (k : ℕ) → FirstRecord s c k
      → compared_of s c v d ≡ Said (pick (says_marked v) Marked (pick (same_bytes (digest_at s k) d) Match Differs))
  unfolding compared_of
  found-said a k f =
      rw (accepted-is a, part-of-first s c a k f, ne_eqb (length (digest_at s k)) 0 (λ z. omega (arith, z, digest-at-length s k f.inside)))

  pub none_said : Accepted s c → NoRecord s c → compared_of s c v d ≡ Said Absent
  unfolding compared_of
  none_said a n = rw (accepted-is a, part-of-none s c n)

  pub refused-said : {r : Refusal} → lookup_refusal s c ≡ Refused r → compared_of s c v d ≡ Refused r
  unfolding compared_of
  refused-said h = rw h

  why-found : Accepted s c → (k : ℕ) → FirstRecord s c k → (m t : Bool) → says_marked v ≡ m → same_bytes (digest_at s k) d ≡ t
      → Why s c v d (Said (pick m Marked (pick t Match Differs)))
  why-found a k f true t h e = marked a k f ((says-marked-exactly v).0 h)
  why-found a k f false true h e = match a k f (unmarked-ok v h) ((same-exactly (digest_at s k) d).0 e)
  why-found a k f false false h e = differs a k f (unmarked-ok v h) (λ g. true≢false (sym ((same-exactly (digest_at s k) d).1 g) ∙ e))

  why-by : Sought s c → Why s c v d (compared_of s c v d)
  why-by (turned_away_lem h) = rw (refused-said h) (refused _)
  why-by (found a k f) = rw (found-said a k f) (why-found a k f _ _ refl refl)
  why-by (missing a n) = rw (none_said a n) (absent a n)

  why : (r : Compared) → compared_of s c v d ≡ r → Why s c v d r
  why r e = subst (Why s c v d) e (why-by (sought s c))

  -- match exactly when the first record with the barcode has the digest and the verdict is ok
  pub match-exactly : (compared_of s c v d ≡ Said Match) ↔ (Accepted s c × (k : ℕ) × FirstRecord s c k × (v ≡ Ok) × (digest_at s k ≡ d))
  match-exactly = (
    λ e. of-match (why (Said Match) e),
    λ p. found-said p.0 p.1 p.2 ∙ rw (p.3, (same-exactly (digest_at s p.1) d).1 p.4),
  )

  -- differs exactly when it has another and the verdict is ok
  pub differs-exactly : (compared_of s c v d ≡ Said Differs) ↔ (Accepted s c × (k : ℕ) × FirstRecord s c k × (v ≡ Ok) × (digest_at s k ≡ d → ⊥))
  differs-exactly = (
    λ e. of-differs (why (Said Differs) e),
    λ p.
        found-said p.0 p.1 p.2
        ∙ rw (p.3, unless-true (same_bytes (digest_at s p.1) d) (λ t. p.4 ((same-exactly (digest_at s p.1) d).0 t))),
  )

  -- marked exactly when a record has the barcode and the verdict is not ok
  pub answer-marked-exactly : (compared_of s c v d ≡ Said Marked) ↔ (Accepted s c × (k : ℕ) × FirstRecord s c k × (v ≡ Ok → ⊥))
  answer-marked-exactly = (
    λ e. of-marked (why (Said Marked) e),
    λ p. found-said p.0 p.1 p.2 ∙ rw ((says-marked-exactly v).1 p.3),
  )

  -- absent exactly when no record has the barcode
  pub absent-exactly : (compared_of s c v d ≡ Said Absent) ↔ (Accepted s c × NoRecord s c)
  absent-exactly = (λ e. of-absent (why (Said Absent) e), λ p. none_said p.0 p.1)
