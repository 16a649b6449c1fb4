-- 02, request f, per lane: an update that compresses no block looks at no table, the cut of a refusal among the calls of other lanes, and a finish
-- always looks. Assumes nothing.
use mathlib.Core.Path.{◌≡◌, refl, sym, ap, ◌∙◌}
use mathlib.Core.Logic.Iff
use mathlib.Core.Logic.{◌↔◌}
use mathlib.Core.Bool.{true}
use mathlib.Core.List.{List, [], ◌∷◌, ◌++◌}
use Prim.Native.Nat.{ℕ}
use native.Mathlib.Omega.{arith}
use lib.ListN.{length}
use Rattle.hasher.specs.Hasher.{UpdateAccount}
use Rattle.std.specs.Prelude.{Ok}
use Rattle.refusal.specs.Refusal.{number_of, one_of, Checked}
use Rattle.refusal.proofs.Numbers.{apart}
use Rattle.flags.specs.Flags.{uses_masks}
use Rattle.flags.specs.declared.Flags.{Flags}
use Rattle.loan.specs.Loan.{Tables, Loan, lend, both_numbers, GoodTables}
use Rattle.hasher.specs.declared.Hasher.{Hasher}
use Rattle.update.specs.Update.{updated}
use Rattle.update.proofs.Taken.{taken-update}
use Rattle.finish.specs.Finish.{outcome_number}
use Rattle.bench.specs.Bench.{lane_of, on_lane, lane_update_refusal, lane_updated, lane_outcome}
use Rattle.claims.specs.Refusals.{WellFormed, ByTables}
use Rattle.claims.specs.Sound.{Sized}
use Rattle.claims.specs.Pieces.{Piece, bytes_of, piecewise, Counted}
use Rattle.claims.specs.Short.{Short, EndsAt}
use Rattle.claims.proofs.Refusals.{update-refused}
use Rattle.claims.proofs.Piecewise.{lent_with, piecewise-nil, first_taken, piecewise-next}
use Rattle.claims.proofs.Short.{short-update, short-unlooked, short-0, short-6, refused-cut, bad-finish-reset, bad-message}
use Rattle.bench_claims.specs.Calls.{Response, of_refusal, responses_of, LaneCall, run_responses, own_calls, own_responses, LaneThere}
use Rattle.bench_claims.specs.OwnMessage.{updates_with, taken_each, LaneMessage}
use Rattle.bench_claims.proofs.Refused.{lane-update-line, lane-finish-line}
use Rattle.bench_claims.proofs.Independence.{responses-alone}
use Rattle.bench_claims.proofs.OwnMessage.{lane-none-refused}

module _ (bench : List Hasher) (lane : ℕ) (bytes : List ℕ) (short : Short (lane_of bench lane) bytes) where
  -- A short update of a lane gives the same refusal and leaves the same bench with any vectors and any conditions.
  pub lane-short : (t u : Tables) (masks : List ℕ)
      → (lane_update_refusal bench lane bytes (lend t masks) ≡ lane_update_refusal bench lane bytes (lend u masks))
      × (lane_updated bench lane bytes (lend t masks) ≡ lane_updated bench lane bytes (lend u masks))
  unfolding on_lane
  lane-short t u masks = let e = short-update (lane_of bench lane) bytes short t u masks in (rw e, rw e)

  -- It is refused by none of 2 to 5, 11, 12 and 13.
  pub lane-short-unlooked : (l : Loan) → ByTables (lane_update_refusal bench lane bytes l) → ⊥
  lane-short-unlooked l o =
      let n = number_of (lane_update_refusal bench lane bytes l) in
      let k = (lane-update-line bench lane bytes l n (λ e. apart both_numbers 10 n o refl (sym e))).0 refl in
      short-unlooked (lane_of bench lane) bytes short l (ap (one_of both_numbers) k.1 ∙ o)

  -- With lent masks it must be lent none: it is taken exactly then, if there is such a lane,
  pub lane-short-0 : (l : Loan) → (number_of (lane_update_refusal bench lane bytes l) ≡ 0)
      ↔ (LaneThere bench lane × (WellFormed (lane_of bench lane) × (uses_masks (lane_of bench lane).flags ≡ true → l.masks ≡ [])))
  lane-short-0 l = Iff.trans (lane-update-line bench lane bytes l 0 (λ z. omega arith)) (Iff.and Iff.rfl (short-0 (lane_of bench lane) bytes short l))

  -- and with a mask it gives 6.
  pub lane-short-6 : (l : Loan) → (number_of (lane_update_refusal bench lane bytes l) ≡ 6)
      ↔ (LaneThere bench lane × (WellFormed (lane_of bench lane) × ((uses_masks (lane_of bench lane).flags ≡ true) × (l.masks ≡ [] → ⊥))))
  lane-short-6 l = Iff.trans (lane-update-line bench lane bytes l 6 (λ z. omega arith)) (Iff.and Iff.rfl (short-6 (lane_of bench lane) bytes short l))

-- A lane's finish always looks: with tables that are not good it is refused, whatever is pending or if nothing is,
pub lane-bad-finish : (bench : List Hasher) (lane : ℕ) (out : List ℕ) (l : Loan) → (GoodTables (lane_of bench lane).flags l.tables → ⊥)
    → outcome_number (lane_outcome bench lane out l) ≡ 0 → ⊥
lane-bad-finish bench lane out l bad e =
    bad-finish-reset (lane_of bench lane) (length out) l bad ((lane-finish-line bench lane out l 0 (λ z. omega arith)).0 e).1

-- and so no message of a lane ends with such tables.
pub lane-bad-message : (bench : List Hasher) (run : List LaneCall) (lane : ℕ) (f : Flags) (t : Tables) (ps : List Piece) (out last : List ℕ)
    → (GoodTables f t → ⊥) → LaneMessage bench run lane f t ps out last → ⊥
lane-bad-message bench run lane f t ps out last bad m = bad-message f t ps last bad (lane-none-refused bench run lane f t ps out last m)

-- what updates get of which the first are taken
taken-first : (front rest : List Piece) (h : Hasher) (t : Tables) → (piecewise h t front).refusal ≡ Ok tt
    → responses_of h (updates_with t (front ++ rest)) ≡ taken_each front ++ responses_of (piecewise h t front).hasher (updates_with t rest)
taken-first [] rest h t e = rw (piecewise-nil h t)
taken-first (p ∷ front) rest h t e =
    let a = first_taken h t p front e in
    let next = piecewise-next h t p front a in
    ap (λ (u : UpdateAccount). of_refusal u.refusal ∷ responses_of u.hasher (updates_with t (front ++ rest))) (taken-update h p.bytes (lent_with t p) a)
    ∙ ap (λ (rs : List Response). of_refusal (Ok tt) ∷ rs) (rw next (taken-first front rest _ t (rw next at e)))

-- what those of a run that ends get: the ones after the end find the hasher as it was there
ends-get : (h : Hasher) (t : Tables) (ps : List Piece) (r : Checked) (k : EndsAt h t ps r) → (number_of r ≡ 0 → ⊥)
    → responses_of h (updates_with t ps) ≡ taken_each k.front ++ of_refusal r ∷ responses_of (piecewise h t k.front).hasher (updates_with t k.rest)
ends-get h t ps r k given =
    let g = (piecewise h t k.front).hasher in
    let q = k.piece in
    let kept = update-refused g q.bytes (lent_with t q) (λ z. given (sym (ap number_of k.refused) ∙ z)) in
    ap (λ (qs : List Piece). responses_of h (updates_with t qs)) k.cut
    ∙ taken-first k.front (q ∷ k.rest) h t k.all-taken
    ∙ rw (k.refused, kept)

-- The cut of a refusal on a lane: what one update with everything is refused with for its tables, number and place, is what one of the lane's updates gets
-- under every cut and every interleaving with calls on other lanes, those before it taken.
pub lane-refused-cut : (bench : List Hasher) (run : List LaneCall) (lane : ℕ) (t : Tables) (ps : List Piece) (masks : List ℕ) → LaneThere bench lane
    → own_calls lane run ≡ updates_with t ps → Sized (lane_of bench lane) → (uses_masks (lane_of bench lane).flags ≡ true → Counted (lane_of bench lane).fill ps)
    → ByTables (updated (lane_of bench lane) (bytes_of ps) (lend t masks)).refusal
    → (k : EndsAt (lane_of bench lane) t ps (updated (lane_of bench lane) (bytes_of ps) (lend t masks)).refusal)
    × (own_responses lane run (run_responses bench run)
    ≡ taken_each k.front ++ of_refusal (updated (lane_of bench lane) (bytes_of ps) (lend t masks)).refusal
    ∷ responses_of (piecewise (lane_of bench lane) t k.front).hasher (updates_with t k.rest))
lane-refused-cut bench run lane t ps masks has own size counts o =
    let h = lane_of bench lane in
    let r = (updated h (bytes_of ps) (lend t masks)).refusal in
    let k = refused-cut h size t ps masks counts o in
    (k, responses-alone run bench lane has ∙ rw own (ends-get h t ps r k (λ z. apart both_numbers 0 (number_of r) o refl (sym z))))
