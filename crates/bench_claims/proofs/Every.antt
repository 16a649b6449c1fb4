-- Demand 2 per lane, not empty: a message that no call by value refuses is taken whole by a lane, whatever is done on the others. Assumes nothing.
use mathlib.Core.Path.{◌≡◌, refl, sym, ap, ◌∙◌}
use mathlib.Core.Bool.{Bool, true, false, true≢false}
use mathlib.Core.List.{List, [], ◌∷◌}
use Prim.Native.Nat.{ℕ}
use native.Mathlib.Omega.{arith}
use lib.ListN.{length}
use borrow.Author.Tests.{eq-eqb, ne_eqb}
use lib.Dec.{eqb}
use Rattle.std.specs.Prelude.{Ok, is_ok}
use Rattle.word.specs.Choice.{pick}
use Rattle.refusal.specs.Refusal.{number_of, Checked}
use Rattle.refusal.proofs.Chains.{passes, numberless}
use Rattle.verdict.specs.Verdict.{digest_size}
use Rattle.flags.specs.declared.Flags.{Flags}
use Rattle.loan.specs.Loan.{Tables, Loan, lend}
use Rattle.hasher.specs.Hasher.{fresh_of, UpdateAccount}
use Rattle.hasher.specs.declared.Hasher.{Hasher}
use Rattle.finish.specs.Finish.{finish_refusal, outcome_number, finished_reset}
use Rattle.bench.specs.Bench.{lane_of}
use Rattle.claims.specs.Pieces.{Piece, piecewise, taking, NoneRefused}
use Rattle.claims.proofs.Piecewise.{updated_by, piecewise-cons}
use Rattle.bench_claims.specs.Calls.{Call, updating, responses_of, LaneCall, run_bench, own_calls, LaneThere}
use Rattle.bench_claims.specs.OwnMessage.{updates_with, accepted_calls, accepted_on, LaneMessage}
use Rattle.bench_claims.proofs.Refused.{lane-finish-line}
use Rattle.bench_claims.proofs.Independence.{still-there-run, lane-alone, responses-alone}
use Rattle.bench_claims.proofs.OwnMessage.{accepted-taken}

-- the first of updates of which none is refused is accepted
first-accepted : (u v : UpdateAccount) (c : Call) (cs ds : List Call) → (b : Bool) → is_ok u.refusal ≡ b → (pick b v u).refusal ≡ Ok tt
    → (v.refusal ≡ (Ok tt) → cs ≡ ds) → pick b (c ∷ cs) cs ≡ c ∷ ds
first-accepted u v c cs ds true k z rest = ap (λ (xs : List Call). c ∷ xs) (rest z)
first-accepted u v c cs ds false k z rest = absurd (true≢false (ap is_ok (sym z) ∙ k))

-- by the number or by the answer, a check passes or not
by-number : (r : Checked) → eqb (number_of r) 0 ≡ is_ok r
by-number r = by (is_ok r) refl
  where
    by : (b : Bool) → is_ok r ≡ b → eqb (number_of r) 0 ≡ is_ok r
    by true e = eq-eqb _ 0 (numberless r e) ∙ sym e
    by false e = ne_eqb _ 0 (λ z. true≢false (sym (passes r z) ∙ e)) ∙ sym e

-- and so are all
all-accepted : (ps : List Piece) (h : Hasher) (t : Tables) → (piecewise h t ps).refusal ≡ Ok tt
    → accepted_calls (updates_with t ps) (responses_of h (updates_with t ps)) ≡ updates_with t ps
all-accepted [] h t e = refl
all-accepted (p ∷ ps) h t e =
    let u = updated_by h t p in
    let cs = updates_with t ps in
    rw (by-number u.refusal)
    (first-accepted u (piecewise u.hasher t ps) (updating p.bytes (lend t p.masks)) (accepted_calls cs (responses_of u.hasher cs)) cs
    (is_ok u.refusal) refl (ap (λ (v : UpdateAccount). v.refusal) (sym (piecewise-cons h t p ps)) ∙ e) (λ z. all-accepted ps u.hasher t z))

-- a finish-and-reset that refuses nothing has the number 0
accepted-0 : (h : Hasher) (size : ℕ) (l : Loan) → finish_refusal h size l ≡ (Ok tt) → outcome_number (finished_reset h size l).outcome ≡ 0
unfolding finished_reset
accepted-0 h size l e = rw e

module _ (bench : List Hasher) (run : List LaneCall) (lane : ℕ) (f : Flags) (t : Tables) (ps : List Piece) (out last : List ℕ)
    (has : LaneThere bench lane) (starts : lane_of bench lane ≡ fresh_of f) (own : own_calls lane run ≡ updates_with t ps)
    (size : length out ≡ digest_size) (ok : NoneRefused f t ps last) where
  -- The lane accepts every update.
  pub lane-accepts : accepted_on bench run lane ≡ updates_with t ps
  lane-accepts =
      ap (accepted_calls (own_calls lane run)) (responses-alone run bench lane has)
      ∙ rw (starts, own) (all-accepted ps (fresh_of f) t ok.updates)

  -- Its hasher after the run is that of the message by value.
  pub lane-takes : lane_of (run_bench bench run) lane ≡ (taking f t ps).hasher
  lane-takes =
      lane-alone run bench lane has
      ∙ rw (starts, own)
      (sym (ap (λ (u : UpdateAccount). u.hasher) (accepted-taken (updates_with t ps) (fresh_of f) t ps (all-accepted ps (fresh_of f) t ok.updates))))

  -- And its finish is not refused, so that all that is said of a lane's message holds of this one.
  pub lane-ends : LaneMessage bench run lane f t ps out last
  lane-ends =
      record {
        starts = starts;
        updates = lane-accepts;
        finish =
            (lane-finish-line (run_bench bench run) lane out (lend t last) 0 (λ e. omega arith)).1
            (still-there-run run bench lane has, accepted-0 _ (length out) (lend t last) (rw (size, lane-takes) ok.finish));
      }
