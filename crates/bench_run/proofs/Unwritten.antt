-- A refused finish on a lane leaves the output. Assumes nothing.
use Rattle.std.proofs.Common.{◌≡◌, refl, Bool, true, false, List, ℕ, take, length}
use Rattle.std.specs.Prelude.{Result, Ok, Err, is_ok}
use Rattle.std.specs.Result.{result_map_both}
use Rattle.word.specs.Choice.{pick}
use Rattle.refusal.specs.Refusal.{Checked}
use Rattle.refusal.specs.declared.Refusal.{Refusal}
use Rattle.refusal.specs.declared.Refusal.TheVariants.{NoLane}
use Rattle.loan.specs.Loan.{Loan}
use Rattle.stream.specs.declared.Chain.{Chain}
use Rattle.hasher.specs.declared.Hasher.{Hasher}
use Rattle.finish.specs.Finish.{outcome_of, digest_or, last_chain, finish_refusal, finished_reset, written_out}
use Rattle.bench.specs.Bench.{on_lane, lane_outcome, lane_written}
use Rattle.bench_by_value.specs.ByValue.{bench_finish_handed, finished_through, written_through}

unwritten : (r : Checked) (c : Chain) (mitigate : Bool) (out : List ℕ) → is_ok (outcome_of r c mitigate) ≡ false → digest_or r c out ≡ out
unwritten (Ok u) c mitigate out e = cc
unwritten (Err n) c mitigate out e = refl

out_left : (h : Hasher) (out : List ℕ) (l : Loan) → is_ok (finished_reset h (length out) l).outcome ≡ false → written_out h out l ≡ out
unfolding finished_reset written_out
out_left h out l e = unwritten (finish_refusal h (length out) l) (last_chain h l) h.flags.mitigate out e

there_or : {T : Type 0} (b : Bool) (r other : Result T Refusal) (xs ys : List ℕ) → (is_ok r ≡ false → xs ≡ ys) → is_ok (pick b r other) ≡ false → pick b xs ys ≡ ys
there_or true r other xs ys left e = left e
there_or false r other xs ys left e = refl

lane_out_left : (ys : List Hasher) (lane : ℕ) (out : List ℕ) (l : Loan) → is_ok (lane_outcome ys lane out l) ≡ false → lane_written ys lane out l ≡ out
unfolding on_lane
lane_out_left ys lane out l = there_or _ _ (Err NoLane) _ out (out_left _ out l)

still_refused : {V F : Type 0} (o : Result V Refusal) (make : V → F) (n : Refusal) → result_map_both make (λ e. e) o ≡ Err n → is_ok o ≡ false
still_refused (Ok v) make n e = cc
still_refused (Err m) make n e = refl

pub refused_out : (ys : List Hasher) (count : ℕ) (lane : ℕ) (out : List ℕ) (l : Loan) (n : Refusal)
    → bench_finish_handed (finished_through ys count lane out l) ≡ Err n → written_through ys count lane out l ≡ out
refused_out ys count lane out l n e = lane_out_left (take count ys) lane out l (still_refused (lane_outcome (take count ys) lane out l) _ n e)
