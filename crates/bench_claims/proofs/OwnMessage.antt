-- The message of a lane: what a run of any calls makes of it is what its accepted updates make of a new hasher, and its finish is that
-- of the same message by value. Assumes nothing.
use mathlib.Core.Path.{◌≡◌, refl, sym, ap, ◌∙◌}
use mathlib.Core.Bool.{Bool, true, false}
use mathlib.Core.List.{List, [], ◌∷◌}
use Prim.Native.Nat.{ℕ}
use native.Mathlib.Omega.{arith}
use borrow.Author.Tests.{eqb-true, eqb-false}
use lib.Dec.{eqb}
use lib.ListN.{length}
use Rattle.std.specs.Prelude.{Ok, is_ok}
use Rattle.word.specs.Choice.{pick}
use Rattle.refusal.specs.Refusal.{number_of}
use Rattle.refusal.proofs.Chains.{nothing_is, passes}
use Rattle.verdict.specs.Verdict.{digest_size}
use Rattle.flags.specs.declared.Flags.{Flags}
use Rattle.loan.specs.Loan.{Tables, Loan, lend}
use Rattle.hasher.specs.Hasher.{fresh_of, UpdateAccount}
use Rattle.hasher.specs.declared.Hasher.{Hasher}
use Rattle.finish.specs.Finish.{finish_refusal, outcome_number, finished_reset}
use Rattle.bench.specs.Bench.{lane_of, lane_finished}
use Rattle.claims.specs.Pieces.{Piece, piecewise, taking, hashed, NoneRefused}
use Rattle.claims.proofs.Refusals.{finish-reset-0, finish-reset-is}
use Rattle.claims.proofs.FinishReset.{finish-reset-outcome, finish-reset-first, finish-reset-writes}
use Rattle.claims.proofs.Kept.{pieces-flags}
use Rattle.claims.proofs.Piecewise.{updated_by, piecewise-nil, piecewise-cons}
use Rattle.claims.proofs.Several.{finish-reset-fresh}
use Rattle.bench_claims.specs.Calls.{Call, updating, finishing, response_number, response_of, after_call, responses_of, after_calls, LaneCall, run_bench, own_calls, LaneThere}
use Rattle.bench_claims.specs.OwnMessage.{updates_with, accepted_calls, last_outcome, last_first, last_written, LaneTaking, LaneMessage}
use Rattle.bench_claims.proofs.Lanes.{as-long-there}
use Rattle.bench_claims.proofs.Refused.{lane-finish-line, lane-finish-there}
use Rattle.bench_claims.proofs.Others.{call_kept, call-own}
use Rattle.bench_claims.proofs.Independence.{run_length, lane-alone, responses-alone}

-- no call and some update are not the same list of calls
none_left : (t : Tables) (ps : List Piece) → [] ≡ updates_with t ps → ps ≡ []
none_left t [] e = refl
none_left t (p ∷ ps) e = let z : ◌≡◌ {A = ℕ} 0 1 = cc in absurd (omega arith)

-- the first accepted call is an update with the first piece
first-update : (h : Hasher) (t : Tables) (ps : List Piece) (c : Call) (cs : List Call) (g : Hasher) → response_number (response_of h c) ≡ 0
    → c ∷ cs ≡ updates_with t ps
    → ((qs : List Piece) → cs ≡ updates_with t qs → piecewise (after_call h c) t qs ≡ record { refusal = (Ok tt); hasher = g })
    → piecewise h t ps ≡ record { refusal = (Ok tt); hasher = g }
first-update h t [] c cs g z e rest = let z : ◌≡◌ {A = ℕ} 0 1 = cc in absurd (omega arith)
first-update h t (p ∷ ps) c cs g z e rest =
    let u = updating p.bytes (lend t p.masks) in
    let same : c ≡ u = cc in
    let n : response_number (response_of h u) ≡ 0 = ap (λ (d : Call). response_number (response_of h d)) (sym same) ∙ z in
    let k : is_ok (updated_by h t p).refusal ≡ true = passes (updated_by h t p).refusal n in
    piecewise-cons h t p ps
    ∙ ap (λ (b : Bool). pick b (piecewise (updated_by h t p).hasher t ps) (updated_by h t p)) k
    ∙ ap (λ (d : Call). piecewise (after_call h d) t ps) (sym same)
    ∙ rest ps cc

-- one more call, accepted or refused, in front of others
one_more : (h : Hasher) (t : Tables) (ps : List Piece) (c : Call) (cs : List Call) (g : Hasher) → (b : Bool) → eqb (response_number (response_of h c)) 0 ≡ b
    → pick b (c ∷ cs) cs ≡ updates_with t ps
    → ((qs : List Piece) → cs ≡ updates_with t qs → piecewise (after_call h c) t qs ≡ record { refusal = (Ok tt); hasher = g })
    → piecewise h t ps ≡ record { refusal = (Ok tt); hasher = g }
one_more h t ps c cs g true k e rest = first-update h t ps c cs g (eqb-true (response_number (response_of h c)) 0 k) e rest
one_more h t ps c cs g false k e rest =
    ap (λ (i : Hasher). piecewise i t ps) (sym (call_kept h c (eqb-false (response_number (response_of h c)) 0 k))) ∙ rest ps e

-- Calls of which the accepted ones are updates leave what these updates leave alone, and none of these is refused.
pub accepted-taken : (cs : List Call) (h : Hasher) (t : Tables) (ps : List Piece) → accepted_calls cs (responses_of h cs) ≡ updates_with t ps
    → piecewise h t ps ≡ record { refusal = (Ok tt); hasher = after_calls h cs }
accepted-taken [] h t ps e = rw (none_left t ps e) (piecewise-nil h t)
accepted-taken (c ∷ cs) h t ps e =
    let g = after_call h c in
    one_more h t ps c (accepted_calls cs (responses_of g cs)) (after_calls g cs) (eqb (response_number (response_of h c)) 0) refl e
    (λ qs k. accepted-taken cs g t qs k)

-- a finish-and-reset whose number is 0 refuses nothing
pub not-refused : (h : Hasher) (size : ℕ) (l : Loan) → outcome_number (finished_reset h size l).outcome ≡ 0 → finish_refusal h size l ≡ Ok tt
not-refused h size l n = nothing_is _ (passes _ (sym (ap number_of (finish-reset-is h size l)) ∙ n))

-- The hasher of a lane after a run in which it accepts updates alone is that after these by value, from a new one, and none of them is refused.
pub lane-taken : (bench : List Hasher) (run : List LaneCall) (lane : ℕ) (f : Flags) (t : Tables) (ps : List Piece) → LaneTaking bench run lane f t ps
    → taking f t ps ≡ record { refusal = (Ok tt); hasher = lane_of (run_bench bench run) lane }
lane-taken bench run lane f t ps m =
    let e : accepted_calls (own_calls lane run) (responses_of (fresh_of f) (own_calls lane run)) ≡ updates_with t ps =
    ap (accepted_calls (own_calls lane run)) (ap (λ (h : Hasher). responses_of h (own_calls lane run)) (sym m.starts) ∙ sym (responses-alone run bench lane m.has))
    ∙ m.updates
    in
    rw (lane-alone run bench lane m.has, m.starts) (accepted-taken (own_calls lane run) (fresh_of f) t ps e)

module _ (bench : List Hasher) (run : List LaneCall) (lane : ℕ) (f : Flags) (t : Tables) (ps : List Piece) (out last : List ℕ)
    (m : LaneMessage bench run lane f t ps out last) where
  -- the lane is there after the run, and so before it
  there : LaneThere (run_bench bench run) lane
  there = ((lane-finish-line (run_bench bench run) lane out (lend t last) 0 (λ e. omega arith)).0 m.finish).0

  there-before : LaneThere bench lane
  there-before = as-long-there (run_bench bench run) bench lane (sym (run_length run bench)) there

  -- the lane's hasher after the run is that after the message's updates, of which none is refused
  taken_is : taking f t ps ≡ record { refusal = (Ok tt); hasher = lane_of (run_bench bench run) lane }
  taken_is = lane-taken bench run lane f t ps (record { has = there-before; starts = m.starts; updates = m.updates })

  -- nor is the finish
  finish-taken : finish_refusal (lane_of (run_bench bench run) lane) (length out) (lend t last) ≡ Ok tt
  finish-taken =
      let w = lane-finish-there (run_bench bench run) lane out (lend t last) there in
      not-refused (lane_of (run_bench bench run) lane) (length out) (lend t last) (sym (ap outcome_number w.0) ∙ m.finish)

  -- An accepted finish was lent 20 bytes.
  pub lane-size : length out ≡ digest_size
  lane-size =
      let n = ((lane-finish-line (run_bench bench run) lane out (lend t last) 0 (λ e. omega arith)).0 m.finish).1 in
      ((finish-reset-0 (lane_of (run_bench bench run) lane) (length out) (lend t last)).0 n).1.0

  -- By value on a new hasher, none of the calls of the lane's message is refused: neither the accepted updates nor the finish.
  pub lane-none-refused : NoneRefused f t ps last
  lane-none-refused = record { updates = rw taken_is; finish = rw (taken_is, ← lane-size) finish-taken }

  -- The outcome of the lane's finish is that of its message by value.
  pub lane_outcome_lem : last_outcome bench run lane out t last ≡ (hashed f t ps last).outcome
  lane_outcome_lem =
      (lane-finish-there (run_bench bench run) lane out (lend t last) there).0
      ∙ finish-reset-outcome (lane_of (run_bench bench run) lane) out (lend t last) lane-size
      ∙ rw taken_is

  -- The first mark that it hands out is that of its message by value.
  pub lane_first_lem : last_first bench run lane out t last ≡ (hashed f t ps last).first
  lane_first_lem =
      (lane-finish-there (run_bench bench run) lane out (lend t last) there).3
      ∙ finish-reset-first (lane_of (run_bench bench run) lane) out (lend t last) lane-size
      ∙ rw taken_is

  -- The bytes that it writes are the digest of its message by value.
  pub lane-digest : last_written bench run lane out t last ≡ (hashed f t ps last).digest
  lane-digest =
      (lane-finish-there (run_bench bench run) lane out (lend t last) there).2
      ∙ finish-reset-writes (lane_of (run_bench bench run) lane) out (lend t last) lane-size (rw (← lane-size) finish-taken)
      ∙ rw taken_is

  -- And the lane is as new again, for the next message.
  pub lane-fresh : lane_of (lane_finished (run_bench bench run) lane out (lend t last)) lane ≡ fresh_of f
  lane-fresh =
      let g = lane_of (run_bench bench run) lane in
      call-own (run_bench bench run) lane (finishing out (lend t last)) there
      ∙ finish-reset-fresh g (length out) (lend t last) finish-taken
      ∙ ap fresh_of (ap (λ (u : UpdateAccount). u.hasher.flags) (sym taken_is) ∙ pieces-flags (fresh_of f) t ps)
