-- Request e per lane: which block was marked first and which record marked it, for each call on a lane, and for a lane's message under every
-- interleaving with calls on other lanes and every cut. Assumes nothing.
use mathlib.Core.Path.{◌≡◌, sym, ap, subst}
use mathlib.Core.Logic.{◌↔◌}
use mathlib.Core.List.{List, ◌∷◌}
use Prim.Native.Nat.{ℕ}
use native.Mathlib.Omega.{arith}
use lib.ListN.{length}
use Rattle.hasher.specs.Hasher.{UpdateAccount}
use Rattle.std.specs.Prelude.{Ok, Ok as Done}
use Rattle.word.specs.Lists.{AllBytes}
use Rattle.refusal.specs.Refusal.{number_of}
use Rattle.verdict.specs.declared.Verdict.TheVariants.{Ok as OkVerdict}
use Rattle.fips.specs.Fips.{padded, initial}
use Rattle.flags.specs.declared.Flags.{Flags}
use Rattle.loan.specs.Loan.{Tables, Loan, lend}
use Rattle.stream.specs.Fold.{nowhere}
use Rattle.stream.specs.declared.FirstMark.{FirstMark}
use Rattle.hasher.specs.declared.Hasher.{Hasher}
use Rattle.absorb.specs.Absorb.{stream_of}
use Rattle.update.specs.Update.{updated}
use Rattle.finish.specs.Finish.{finish_refusal, outcome_number, finished_reset}
use Rattle.bench.specs.Bench.{lane_of, lane_update_refusal, lane_updated, lane_outcome, lane_first}
use Rattle.claims.specs.Sound.{Typed, TypedVectors, TypedConditions}
use Rattle.claims.specs.Pieces.{Piece, bytes_of, piece_masks, taking, hashed, loan_of_all, NoneRefused}
use Rattle.claims.specs.EveryCall.{last_blocks}
use Rattle.claims.specs.First.{OneMarkedIn, OneMetOn, UnmarkedUnless, CallMarked, CallMet, CallSelected, MessageMarked, MessageMet, MessageSelected}
use Rattle.claims.proofs.First.{update-told, update-told-met, update-told-selected, finish-reset-told, finish-reset-told-met, finish-reset-told-selected, taking-told, taking-told-met, taking-told-selected, message-told, message-told-met, message-told-selected}
use Rattle.claims.proofs.FirstUnmarked.{taking-unmarked, taking-unmarked-met, message-unmarked}
use Rattle.bench_claims.specs.Calls.{updating, LaneCall, run_bench}
use Rattle.bench_claims.specs.OwnMessage.{last_outcome, last_first, LaneTaking, LaneMessage}
use Rattle.bench_claims.proofs.Refused.{lane-update-line, lane-finish-line, lane-finish-there}
use Rattle.bench_claims.proofs.Others.{call-own}
use Rattle.bench_claims.proofs.OwnMessage.{not-refused, lane-taken, lane-none-refused, lane_outcome_lem, lane_first_lem}
use Rattle.bench_claims.proofs.EveryCall.{number-0}

module _ (bench : List Hasher) (lane : ℕ) (l : Loan) where
  -- the lane's hasher
  abbrev own : Hasher
  own = lane_of bench lane

  -- what is said of an update by value is said of an accepted one of the lane,
  on-update : (P : Hasher → Type 0) (bytes : List ℕ) → number_of (lane_update_refusal bench lane bytes l) ≡ 0
      → ((updated own bytes l).refusal ≡ (Ok tt) → P (updated own bytes l).hasher) → P (lane_of (lane_updated bench lane bytes l) lane)
  on-update P bytes e by_value =
      let k = (lane-update-line bench lane bytes l 0 (λ z. omega arith)).0 e in
      subst P (sym (call-own bench lane (updating bytes l) k.0)) (by_value (number-0 _ k.1))

  -- and of a finish-and-reset of an accepted finish
  on-finish : (P : FirstMark → Type 0) (out : List ℕ) → outcome_number (lane_outcome bench lane out l) ≡ 0
      → (finish_refusal own (length out) l ≡ (Ok tt) → P (finished_reset own (length out) l).first) → P (lane_first bench lane out l)
  on-finish P out e by_value =
      let k = (lane-finish-line bench lane out l 0 (λ z. omega arith)).0 e in
      subst P (sym (lane-finish-there bench lane out l k.0).3) (by_value (not-refused own (length out) l k.1))

  -- After an accepted update a lane that was marked has its own numbers; else it has, exactly then, the number of the first marked block that the
  -- update fills and the place of the first selected record that marks it, and zeros where none is marked.
  pub lane-update-told : (bytes : List ℕ) → number_of (lane_update_refusal bench lane bytes l) ≡ 0
      → CallMarked own l (stream_of own bytes) (lane_of (lane_updated bench lane bytes l) lane).first
  lane-update-told bytes e = on-update (λ (g : Hasher). CallMarked own l (stream_of own bytes) g.first) bytes e (update-told own l bytes)

  -- An accepted finish hands out the numbers of a marked lane, and else those of its last blocks.
  pub lane-finish-told : (out : List ℕ) → outcome_number (lane_outcome bench lane out l) ≡ 0 → CallMarked own l (last_blocks own) (lane_first bench lane out l)
  lane-finish-told out e = on-finish (CallMarked own l (last_blocks own)) out e (finish-reset-told own l (length out))

  module _ (typed : Typed own) (words : TypedVectors l.tables) where
    -- In demand 3's words, in any mode: no earlier block of the call is met by a selected sibling, and no earlier selected record meets this one.
    pub lane-update-told-met : (bytes : List ℕ) → AllBytes bytes → number_of (lane_update_refusal bench lane bytes l) ≡ 0
        → CallMet own l (stream_of own bytes) (lane_of (lane_updated bench lane bytes l) lane).first
    lane-update-told-met bytes b e =
        on-update (λ (g : Hasher). CallMet own l (stream_of own bytes) g.first) bytes e (update-told-met own l typed words bytes b)

    pub lane-finish-told-met : (out : List ℕ) → outcome_number (lane_outcome bench lane out l) ≡ 0 → CallMet own l (last_blocks own) (lane_first bench lane out l)
    lane-finish-told-met out e = on-finish (CallMet own l (last_blocks own)) out e (finish-reset-told-met own l typed words (length out))

    -- And with what selects a record spelled out, in each of the three settings.
    module _ (conditions : TypedConditions l.tables) where
      pub lane-update-told-selected : (bytes : List ℕ) → AllBytes bytes → number_of (lane_update_refusal bench lane bytes l) ≡ 0
          → CallSelected own l (stream_of own bytes) (lane_of (lane_updated bench lane bytes l) lane).first
      lane-update-told-selected bytes b e =
          on-update (λ (g : Hasher). CallSelected own l (stream_of own bytes) g.first) bytes e (update-told-selected own l typed words conditions bytes b)

      pub lane-finish-told-selected : (out : List ℕ) → outcome_number (lane_outcome bench lane out l) ≡ 0
          → CallSelected own l (last_blocks own) (lane_first bench lane out l)
      lane-finish-told-selected out e = on-finish (CallSelected own l (last_blocks own)) out e (finish-reset-told-selected own l typed words conditions (length out))

-- what is said of the hasher after updates by value, from a new one, is said of a lane that accepted them in a run of any calls
on-taking : (P : Hasher → Type 0) (bench : List Hasher) (run : List LaneCall) (lane : ℕ) (f : Flags) (t : Tables) (ps : List Piece)
    → LaneTaking bench run lane f t ps → ((taking f t ps).refusal ≡ (Ok tt) → P (taking f t ps).hasher) → P (lane_of (run_bench bench run) lane)
on-taking P bench run lane f t ps m by_value =
    let e = lane-taken bench run lane f t ps m in
    subst (λ (u : UpdateAccount). P u.hasher) e (by_value (ap (λ (u : UpdateAccount). u.refusal) e))

-- Before its finish a lane has the numbers of the first marked block of its message so far, from 0, and of the first selected record that marks it,
pub lane-taking-told : (bench : List Hasher) (run : List LaneCall) (lane : ℕ) (f : Flags) (t : Tables) (ps : List Piece) → LaneTaking bench run lane f t ps
    → MessageMarked f (lend t (piece_masks ps)) initial (bytes_of ps) (lane_of (run_bench bench run) lane).first
lane-taking-told bench run lane f t ps m =
    on-taking (λ (g : Hasher). MessageMarked f (lend t (piece_masks ps)) initial (bytes_of ps) g.first) bench run lane f t ps m (taking-told f t ps)

-- and no mark, and zeros, exactly when no block of it is marked.
pub lane-taking-unmarked : (bench : List Hasher) (run : List LaneCall) (lane : ℕ) (f : Flags) (t : Tables) (ps : List Piece) → LaneTaking bench run lane f t ps
    → UnmarkedUnless (OneMarkedIn f (lend t (piece_masks ps)) initial (bytes_of ps)) (lane_of (run_bench bench run) lane)
lane-taking-unmarked bench run lane f t ps m =
    on-taking (UnmarkedUnless (OneMarkedIn f (lend t (piece_masks ps)) initial (bytes_of ps))) bench run lane f t ps m (taking-unmarked f t ps)

module _ (bench : List Hasher) (run : List LaneCall) (lane : ℕ) (f : Flags) (t : Tables) (p : Piece) (ps : List Piece)
    (m : LaneTaking bench run lane f t (p ∷ ps)) (words : TypedVectors t) (b : AllBytes (bytes_of (p ∷ ps))) where
  -- The same in demand 3's words,
  pub lane-taking-told-met : MessageMet f (lend t (piece_masks (p ∷ ps))) initial (bytes_of (p ∷ ps)) (lane_of (run_bench bench run) lane).first
  lane-taking-told-met =
      on-taking (λ (g : Hasher). MessageMet f (lend t (piece_masks (p ∷ ps))) initial (bytes_of (p ∷ ps)) g.first) bench run lane f t (p ∷ ps) m
      (taking-told-met f t words p ps b)

  pub lane-taking-unmarked-met : UnmarkedUnless (OneMetOn f (lend t (piece_masks (p ∷ ps))) initial (bytes_of (p ∷ ps))) (lane_of (run_bench bench run) lane)
  lane-taking-unmarked-met =
      on-taking (UnmarkedUnless (OneMetOn f (lend t (piece_masks (p ∷ ps))) initial (bytes_of (p ∷ ps)))) bench run lane f t (p ∷ ps) m
      (taking-unmarked-met f t words p ps b)

  -- and with what selects a record spelled out.
  pub lane-taking-told-selected : TypedConditions t
      → MessageSelected f (lend t (piece_masks (p ∷ ps))) initial (bytes_of (p ∷ ps)) (lane_of (run_bench bench run) lane).first
  lane-taking-told-selected conditions =
      on-taking (λ (g : Hasher). MessageSelected f (lend t (piece_masks (p ∷ ps))) initial (bytes_of (p ∷ ps)) g.first) bench run lane f t (p ∷ ps) m
      (λ ok. taking-told-selected f t words p ps b ok conditions)

module _ (bench : List Hasher) (run : List LaneCall) (lane : ℕ) (f : Flags) (t : Tables) (ps : List Piece) (out last : List ℕ)
    (m : LaneMessage bench run lane f t ps out last) where
  -- what is said of a message by value is said of a lane's
  on-message : (P : FirstMark → Type 0) → (NoneRefused f t ps last → P (hashed f t ps last).first) → P (last_first bench run lane out t last)
  on-message P by_value = subst P (sym (lane_first_lem bench run lane f t ps out last m)) (by_value (lane-none-refused bench run lane f t ps out last m))

  -- The first mark that a lane's finish hands out: the first marked block of its message, from 0, padding included, and the first selected record
  -- that marks it.
  pub lane-told : MessageMarked f (loan_of_all t ps last) initial (padded (bytes_of ps)) (last_first bench run lane out t last)
  lane-told = on-message (MessageMarked f (loan_of_all t ps last) initial (padded (bytes_of ps))) (message-told f t ps last)

  module _ (words : TypedVectors t) (b : AllBytes (bytes_of ps)) where
    -- in demand 3's words,
    pub lane-told-met : MessageMet f (loan_of_all t ps last) initial (padded (bytes_of ps)) (last_first bench run lane out t last)
    lane-told-met = on-message (MessageMet f (loan_of_all t ps last) initial (padded (bytes_of ps))) (λ ok. message-told-met f t ps last ok b words)

    -- and with what selects a record spelled out
    pub lane-told-selected : TypedConditions t → MessageSelected f (loan_of_all t ps last) initial (padded (bytes_of ps)) (last_first bench run lane out t last)
    lane-told-selected conditions =
        on-message (MessageSelected f (loan_of_all t ps last) initial (padded (bytes_of ps))) (λ ok. message-told-selected f t ps last ok b words conditions)

    -- The lane's finish answers ok and hands out zeros exactly when no selected sibling meets a block of its message, padding included.
    pub lane-unmarked-first : (OneMetOn f (loan_of_all t ps last) initial (padded (bytes_of ps)) → ⊥)
        ↔ ((last_outcome bench run lane out t last ≡ Done OkVerdict) × (last_first bench run lane out t last ≡ nowhere))
    lane-unmarked-first =
        rw (lane_outcome_lem bench run lane f t ps out last m, lane_first_lem bench run lane f t ps out last m)
        (message-unmarked f t ps last b words (lane-none-refused bench run lane f t ps out last m))
