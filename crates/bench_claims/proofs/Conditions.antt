-- Conditions as part of a lane call, 02's request d: 12 and 13 exactly when, behind 10, and an update's 2 to 5 and 11 behind them; demand 3 with "selected" by
-- the surviving bits, for each call and for a lane's message; that what is not looked at changes nothing; and that both settings agree on lanes too.
-- Assumes nothing.
use mathlib.Core.Path.{◌≡◌, refl, sym, ◌∙◌, subst}
use mathlib.Core.Logic.Iff
use mathlib.Core.Logic.{◌↔◌}
use mathlib.Core.Bool.{true, false}
use mathlib.Core.List.{List, ◌++◌}
use Prim.Native.Nat.{ℕ, ◌+◌, ◌≤◌}
use native.Mathlib.Omega.{arith}
use lib.ListN.{length}
use Rattle.word.specs.Lists.{AllBytes}
use Rattle.refusal.specs.Refusal.{number_of, table_numbers, condition_numbers, one_of}
use Rattle.refusal.proofs.Numbers.{apart}
use Rattle.verdict.specs.Verdict.{digest_size}
use Rattle.fips.specs.Fips.{most_bytes, padded, initial}
use Rattle.flags.specs.Flags.{uses_conditions, with_masks}
use Rattle.flags.specs.declared.Flags.{Flags}
use Rattle.flags.specs.declared.Masks.TheVariants.{Lent, Conditions}
use Rattle.loan.specs.Loan.{Tables, Loan, lend, loan_of, WellCounted, ConditionsGive, VectorsGive}
use Rattle.hasher.specs.Hasher.{taken}
use Rattle.hasher.specs.declared.Hasher.{Hasher}
use Rattle.absorb.specs.Absorb.{stream_of}
use Rattle.update.specs.Update.{blocks_filled}
use Rattle.finish.specs.Finish.{outcome_number, Outcome}
use Rattle.bench.specs.Bench.{lane_of, on_lane, lane_update_refusal, lane_updated, lane_outcome, lane_first, lane_finished, lane_written}
use Rattle.claims.specs.Refusals.{WellFormed}
use Rattle.claims.specs.Sound.{Typed, TypedVectors, TypedConditions}
use Rattle.claims.specs.Pieces.{Piece, bytes_of, piece_masks, loan_of_all}
use Rattle.claims.specs.EveryCall.{last_blocks, VerdictBy}
use Rattle.claims.specs.Selected.{OneMetBy, MarkedAfterBy}
use Rattle.claims.specs.Settings.{message_masks}
use Rattle.claims.proofs.Refusals.{update-table, update-conditions, update-never-6, update-never-conditions, finish-reset-conditions, finish-reset-never-6, finish-reset-never-conditions}
use Rattle.claims.proofs.Selected.{update-selected, finish-reset-selected, message-selected}
use Rattle.claims.proofs.Unseen.{update-unmasked, finish-reset-unmasked, output-unmasked, conditions-no-masks, update-unconditioned, finish-reset-unconditioned, output-unconditioned}
use Rattle.claims.proofs.BothSettings.{message-surviving}
use Rattle.bench_claims.specs.Calls.{updating, LaneCall, LaneThere}
use Rattle.bench_claims.specs.OwnMessage.{last_outcome, last_first, last_written, LaneMessage}
use Rattle.bench_claims.proofs.Refused.{lane-update-line, lane-finish-line, lane-finish-there}
use Rattle.bench_claims.proofs.Others.{call-own}
use Rattle.bench_claims.proofs.OwnMessage.{not-refused, lane-none-refused, lane_outcome_lem, lane_first_lem, lane-digest}
use Rattle.bench_claims.proofs.EveryCall.{number-0}

-- 12 and 13 are not 10
not-10 : (n : ℕ) → one_of condition_numbers n ≡ true → n ≡ 10 → ⊥
not-10 n i e = apart condition_numbers 10 n i refl (sym e)

module _ (bench : List Hasher) (lane : ℕ) (l : Loan) where
  -- An update of a lane: 12 and 13 exactly when there is such a lane and the update by value gives them.
  module _ (bytes : List ℕ) where
    pub lane-update-conditions : (n : ℕ) → one_of condition_numbers n ≡ true → (number_of (lane_update_refusal bench lane bytes l) ≡ n)
        ↔ (LaneThere bench lane × (WellFormed (lane_of bench lane)
        × ((taken (lane_of bench lane) + length bytes ≤ most_bytes)
        × ((1 ≤ blocks_filled (lane_of bench lane) (length bytes)) × ConditionsGive (lane_of bench lane).flags l.tables n))))
    lane-update-conditions n i =
        Iff.trans (lane-update-line bench lane bytes l n (not-10 n i)) (Iff.and Iff.rfl (update-conditions (lane_of bench lane) bytes l n i))

    -- 2 to 5 and 11 likewise, behind them.
    pub lane-update-table : (n : ℕ) → one_of table_numbers n ≡ true → (number_of (lane_update_refusal bench lane bytes l) ≡ n)
        ↔ (LaneThere bench lane × (WellFormed (lane_of bench lane)
        × ((taken (lane_of bench lane) + length bytes ≤ most_bytes)
        × (WellCounted (lane_of bench lane).flags l (blocks_filled (lane_of bench lane) (length bytes))
        × ((1 ≤ blocks_filled (lane_of bench lane) (length bytes)) × VectorsGive (lane_of bench lane).flags l.tables n)))))
    lane-update-table n t =
        Iff.trans (lane-update-line bench lane bytes l n (λ e. apart table_numbers 10 n t refl (sym e))) (Iff.and Iff.rfl (update-table (lane_of bench lane) bytes l n t))

    -- 6 never where the lane's flags ask for conditions, and 12 and 13 never where they do not
    pub lane-update-never-6 : uses_conditions (lane_of bench lane).flags ≡ true → number_of (lane_update_refusal bench lane bytes l) ≡ 6 → ⊥
    lane-update-never-6 u e =
        update-never-6 (lane_of bench lane) bytes l u ((lane-update-line bench lane bytes l 6 (λ z. omega arith)).0 e).1

    pub lane-update-never-conditions : uses_conditions (lane_of bench lane).flags ≡ false → (n : ℕ) → one_of condition_numbers n ≡ true
        → number_of (lane_update_refusal bench lane bytes l) ≡ n → ⊥
    lane-update-never-conditions off n i e =
        update-never-conditions (lane_of bench lane) bytes l off n i ((lane-update-line bench lane bytes l n (not-10 n i)).0 e).1

  -- A finish of a lane.
  module _ (out : List ℕ) where
    pub lane-finish-conditions : (n : ℕ) → one_of condition_numbers n ≡ true → (outcome_number (lane_outcome bench lane out l) ≡ n)
        ↔ (LaneThere bench lane × (WellFormed (lane_of bench lane) × ((length out ≡ digest_size) × ConditionsGive (lane_of bench lane).flags l.tables n)))
    lane-finish-conditions n i =
        Iff.trans (lane-finish-line bench lane out l n (not-10 n i)) (Iff.and Iff.rfl (finish-reset-conditions (lane_of bench lane) (length out) l n i))

    pub lane-finish-never-6 : uses_conditions (lane_of bench lane).flags ≡ true → outcome_number (lane_outcome bench lane out l) ≡ 6 → ⊥
    lane-finish-never-6 u e =
        finish-reset-never-6 (lane_of bench lane) (length out) l u ((lane-finish-line bench lane out l 6 (λ z. omega arith)).0 e).1

    pub lane-finish-never-conditions : uses_conditions (lane_of bench lane).flags ≡ false → (n : ℕ) → one_of condition_numbers n ≡ true
        → outcome_number (lane_outcome bench lane out l) ≡ n → ⊥
    lane-finish-never-conditions off n i e =
        finish-reset-never-conditions (lane_of bench lane) (length out) l off n i ((lane-finish-line bench lane out l n (not-10 n i)).0 e).1

  module _ (typed : Typed (lane_of bench lane)) (vectors : TypedVectors l.tables) (conditions : TypedConditions l.tables) where
    -- An accepted update leaves a mark on its lane exactly when there was one or, with detection on, a record that is selected for a block that it fills meets it.
    pub lane-update-selected : (bytes : List ℕ) → AllBytes bytes → number_of (lane_update_refusal bench lane bytes l) ≡ 0
        → ((lane_of (lane_updated bench lane bytes l) lane).mark ≡ true) ↔ MarkedAfterBy (lane_of bench lane) l (stream_of (lane_of bench lane) bytes)
    lane-update-selected bytes b e =
        let k = (lane-update-line bench lane bytes l 0 (λ z. omega arith)).0 e in
        subst (λ (g : Hasher). (g.mark ≡ true) ↔ MarkedAfterBy (lane_of bench lane) l (stream_of (lane_of bench lane) bytes))
        (sym (call-own bench lane (updating bytes l) k.0))
        (update-selected (lane_of bench lane) l typed vectors conditions bytes b (number-0 _ k.1))

    -- An accepted finish gives its verdict by whether there was one or, with detection on, such a record meets one of the last blocks.
    pub lane-finish-selected : (out : List ℕ) → outcome_number (lane_outcome bench lane out l) ≡ 0
        → VerdictBy (lane_outcome bench lane out l) (lane_of bench lane).flags.mitigate (MarkedAfterBy (lane_of bench lane) l (last_blocks (lane_of bench lane)))
    lane-finish-selected out e =
        let h = lane_of bench lane in
        let k = (lane-finish-line bench lane out l 0 (λ z. omega arith)).0 e in
        subst (λ (o : Outcome). VerdictBy o h.flags.mitigate (MarkedAfterBy h l (last_blocks h)))
        (sym (lane-finish-there bench lane out l k.0).0)
        (finish-reset-selected h l typed vectors conditions (length out) (not-refused h (length out) l k.1))

-- What a lane does not look at changes nothing: conditions in the other two settings and with detection off,
module _ (bench : List Hasher) (lane : ℕ) (off : uses_conditions (lane_of bench lane).flags ≡ false) (vectors conditions others masks : List ℕ) where
  pub lane-update-unconditioned : (bytes : List ℕ)
      → (lane_update_refusal bench lane bytes (loan_of vectors conditions masks) ≡ lane_update_refusal bench lane bytes (loan_of vectors others masks))
      × (lane_updated bench lane bytes (loan_of vectors conditions masks) ≡ lane_updated bench lane bytes (loan_of vectors others masks))
  unfolding on_lane
  lane-update-unconditioned bytes =
      let e = update-unconditioned (lane_of bench lane) off vectors conditions others masks bytes in
      (rw e, rw e)

  pub lane-finish-unconditioned : (out : List ℕ)
      → (lane_outcome bench lane out (loan_of vectors conditions masks) ≡ lane_outcome bench lane out (loan_of vectors others masks))
      × (lane_finished bench lane out (loan_of vectors conditions masks) ≡ lane_finished bench lane out (loan_of vectors others masks))
      × (lane_written bench lane out (loan_of vectors conditions masks) ≡ lane_written bench lane out (loan_of vectors others masks))
      × (lane_first bench lane out (loan_of vectors conditions masks) ≡ lane_first bench lane out (loan_of vectors others masks))
  unfolding on_lane
  lane-finish-unconditioned out =
      let e = finish-reset-unconditioned (lane_of bench lane) off vectors conditions others masks (length out) in
      (rw e, rw e, rw (output-unconditioned (lane_of bench lane) off vectors conditions others masks out), rw e)

-- and masks in this one.
module _ (bench : List Hasher) (lane : ℕ) (on : uses_conditions (lane_of bench lane).flags ≡ true) (t : Tables) (masks others : List ℕ) where
  pub lane-update-unmasked : (bytes : List ℕ) → (lane_update_refusal bench lane bytes (lend t masks) ≡ lane_update_refusal bench lane bytes (lend t others))
      × (lane_updated bench lane bytes (lend t masks) ≡ lane_updated bench lane bytes (lend t others))
  unfolding on_lane
  lane-update-unmasked bytes =
      let e = update-unmasked (lane_of bench lane) (conditions-no-masks (lane_of bench lane).flags on) t masks others bytes in
      (rw e, rw e)

  pub lane-finish-unmasked : (out : List ℕ) → (lane_outcome bench lane out (lend t masks) ≡ lane_outcome bench lane out (lend t others))
      × (lane_finished bench lane out (lend t masks) ≡ lane_finished bench lane out (lend t others))
      × (lane_written bench lane out (lend t masks) ≡ lane_written bench lane out (lend t others))
      × (lane_first bench lane out (lend t masks) ≡ lane_first bench lane out (lend t others))
  unfolding on_lane
  lane-finish-unmasked out =
      let off = conditions-no-masks (lane_of bench lane).flags on in
      let e = finish-reset-unmasked (lane_of bench lane) off t masks others (length out) in
      (rw e, rw e, rw (output-unmasked (lane_of bench lane) off t masks others out), rw e)

-- A lane's message gives its verdict by whether detection is on and a record that is selected for one of its blocks, padding included, meets it.
pub lane-message-selected : (bench : List Hasher) (run : List LaneCall) (lane : ℕ) (f : Flags) (t : Tables) (ps : List Piece) (out last : List ℕ)
    → LaneMessage bench run lane f t ps out last → AllBytes (bytes_of ps) → TypedVectors t → TypedConditions t
    → VerdictBy (last_outcome bench run lane out t last) f.mitigate ((f.detect ≡ true) × OneMetBy f (loan_of_all t ps last) initial (padded (bytes_of ps)))
lane-message-selected bench run lane f t ps out last m bytes vectors conditions =
    subst
    (λ (o : Outcome). VerdictBy o f.mitigate ((f.detect ≡ true) × OneMetBy f (loan_of_all t ps last) initial (padded (bytes_of ps))))
    (sym (lane_outcome_lem bench run lane f t ps out last m))
    (message-selected f t ps last bytes vectors conditions (lane-none-refused bench run lane f t ps out last m))

-- Both settings agree: a message on a lane with conditions, and the same message on any lane of any bench with lent masks that are the surviving
-- bits of its blocks, end alike, under every interleaving and every cut.
pub lane-surviving : (bench other-bench : List Hasher) (run other-run : List LaneCall) (lane other-lane : ℕ) (f : Flags) (t : Tables) (ps qs : List Piece)
    (out last other-out rest : List ℕ) → LaneMessage bench run lane (with_masks f Conditions) t ps out last
    → LaneMessage other-bench other-run other-lane (with_masks f Lent) t qs other-out rest
    → bytes_of qs ≡ bytes_of ps → piece_masks qs ++ rest ≡ message_masks t (bytes_of ps)
    → (last_outcome bench run lane out t last ≡ last_outcome other-bench other-run other-lane other-out t rest)
    × (last_written bench run lane out t last ≡ last_written other-bench other-run other-lane other-out t rest)
    × (last_first bench run lane out t last ≡ last_first other-bench other-run other-lane other-out t rest)
lane-surviving bench other-bench run other-run lane other-lane f t ps qs out last other-out rest m n same lent =
    let c = with_masks f Conditions in
    let d = with_masks f Lent in
    let e =
    message-surviving f t ps qs last rest (lane-none-refused bench run lane c t ps out last m) same lent
    (lane-none-refused other-bench other-run other-lane d t qs other-out rest n)
    in (
      lane_outcome_lem bench run lane c t ps out last m ∙ e.0 ∙ sym (lane_outcome_lem other-bench other-run other-lane d t qs other-out rest n),
      lane-digest bench run lane c t ps out last m ∙ e.1 ∙ sym (lane-digest other-bench other-run other-lane d t qs other-out rest n),
      lane_first_lem bench run lane c t ps out last m ∙ e.2 ∙ sym (lane_first_lem other-bench other-run other-lane d t qs other-out rest n),
    )
