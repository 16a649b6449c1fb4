-- Demands 2 and 3 per lane: from a new or reset lane, under every interleaving with calls on other lanes and every cut, with one table for that
-- lane. The message is that of its accepted updates. Assumes nothing.
use mathlib.Core.Path.{◌≡◌, sym, ◌∙◌, subst}
use mathlib.Core.Logic.{◌↔◌}
use mathlib.Core.Bool.{true, false}
use mathlib.Core.List.{List}
use Prim.Native.Nat.{ℕ}
use Rattle.std.specs.Prelude.{Ok as Done}
use Rattle.finish.specs.Finish.{Outcome}
use Rattle.word.specs.Lists.{AllBytes}
use Rattle.verdict.specs.declared.Verdict.{Verdict}
use Rattle.verdict.specs.declared.Verdict.TheVariants.{Ok, Mitigated, Collision}
use Rattle.fips.specs.Fips.{padded, initial, sha1}
use Rattle.flags.specs.declared.Flags.{Flags}
use Rattle.loan.specs.Loan.{Tables}
use Rattle.hasher.specs.declared.Hasher.{Hasher}
use Rattle.claims.specs.Sound.{TypedVectors}
use Rattle.claims.specs.Pieces.{Piece, bytes_of, hashed, loan_of_all, block_masks, NoneRefused}
use Rattle.claims.specs.Marked.{marked_by, sha1_marked, NoneMarked, OneMarked}
use Rattle.claims.specs.Message.{OneMetIn, NoneMet, OneMet}
use Rattle.claims.specs.EveryCall.{VerdictBy}
use Rattle.claims.proofs.Fips.{fips-undetected, fips-unmitigated, fips-unmarked, marked-twice-more}
use Rattle.claims.proofs.Verdicts.{ok-exactly, mitigated-exactly, collision-exactly}
use Rattle.claims.proofs.Siblings.{ok-met, mitigated-met, collision-met}
use Rattle.claims.proofs.EveryCall.{message-met}
use Rattle.claims.proofs.Cut.{cut-alike}
use Rattle.bench_claims.specs.Calls.{LaneCall}
use Rattle.bench_claims.specs.OwnMessage.{last_outcome, last_first, last_written, LaneMessage}
use Rattle.bench_claims.proofs.OwnMessage.{lane-none-refused, lane_outcome_lem, lane_first_lem, lane-digest}

-- what is said of one outcome is said of an equal one
same_outcome : {o p : Outcome} {v : Verdict} {P : Type 0} → o ≡ p → (p ≡ Done v) ↔ P → (o ≡ Done v) ↔ P
same_outcome e k = (λ q. k.0 (sym e ∙ q), λ x. e ∙ k.1 x)

module _ (bench : List Hasher) (run : List LaneCall) (lane : ℕ) (f : Flags) (t : Tables) (ps : List Piece) (out last : List ℕ)
    (m : LaneMessage bench run lane f t ps out last) where
  -- the facts that the theorems on messages ask for
  own-none : NoneRefused f t ps last
  own-none = lane-none-refused bench run lane f t ps out last m

  own-outcome : last_outcome bench run lane out t last ≡ (hashed f t ps last).outcome
  own-outcome = lane_outcome_lem bench run lane f t ps out last m

  own-digest : last_written bench run lane out t last ≡ (hashed f t ps last).digest
  own-digest = lane-digest bench run lane f t ps out last m

  -- With detection off the bytes that the lane's finish writes are FIPS 180-4's digest of its message.
  pub lane-undetected : f.detect ≡ false → last_written bench run lane out t last ≡ sha1 (bytes_of ps)
  lane-undetected off = own-digest ∙ fips-undetected f t ps last own-none off

  -- With mitigation off they are, whatever is marked.
  pub lane-unmitigated : f.mitigate ≡ false → last_written bench run lane out t last ≡ sha1 (bytes_of ps)
  lane-unmitigated off = own-digest ∙ fips-unmitigated f t ps last own-none off

  -- Where none of its blocks is marked they are.
  pub lane-unmarked : NoneMarked f (loan_of_all t ps last) (bytes_of ps)
      → last_written bench run lane out t last ≡ sha1 (bytes_of ps)
  lane-unmarked clean = own-digest ∙ fips-unmarked f t ps last own-none clean

  -- With mitigation on they are the digest by the fold in which each marked block is compressed twice more with the same block.
  pub lane-twice-more : f.mitigate ≡ true
      → last_written bench run lane out t last
      ≡ sha1_marked (marked_by f t) (bytes_of ps) (block_masks f ps last)
  lane-twice-more on = own-digest ∙ marked-twice-more f t ps last own-none on

  -- The verdict is ok exactly when none of its blocks is marked, padding included.
  pub lane-ok : (last_outcome bench run lane out t last ≡ Done Ok)
      ↔ NoneMarked f (loan_of_all t ps last) (bytes_of ps)
  lane-ok = same_outcome own-outcome (ok-exactly f t ps last own-none)

  -- It is mitigated exactly when one is and mitigation is on.
  pub lane-mitigated : (last_outcome bench run lane out t last ≡ Done Mitigated)
      ↔ (OneMarked f (loan_of_all t ps last) (bytes_of ps) × (f.mitigate ≡ true))
  lane-mitigated = same_outcome own-outcome (mitigated-exactly f t ps last own-none)

  -- It is collision exactly when one is and mitigation is off.
  pub lane-collision : (last_outcome bench run lane out t last ≡ Done Collision)
      ↔ (OneMarked f (loan_of_all t ps last) (bytes_of ps) × (f.mitigate ≡ false))
  lane-collision = same_outcome own-outcome (collision-exactly f t ps last own-none)

  module _ (words : TypedVectors t) (bytes : AllBytes (bytes_of ps)) where
    -- Demand 3 in any mode: the verdict goes by whether detection is on and a selected sibling meets one of the message's blocks, padding included.
    pub lane-met : VerdictBy (last_outcome bench run lane out t last) f.mitigate
        ((f.detect ≡ true) × OneMetIn f (loan_of_all t ps last) initial (padded (bytes_of ps)))
    lane-met =
        subst
        (λ (o : Outcome). VerdictBy o f.mitigate ((f.detect ≡ true) × OneMetIn f (loan_of_all t ps last) initial (padded (bytes_of ps))))
        (sym own-outcome) (message-met f t ps last bytes words own-none)

    -- With detection on and reduced-round mode off it is ok exactly when for no block a selected sibling meets it,
    module _ (on : f.detect ≡ true) (off : f.reduced ≡ false) where
      pub lane-ok-met : (last_outcome bench run lane out t last ≡ Done Ok)
          ↔ NoneMet f (loan_of_all t ps last) (bytes_of ps)
      lane-ok-met = same_outcome own-outcome (ok-met f on off t words ps last bytes own-none)

      -- mitigated exactly when for one block a selected sibling meets it, and mitigation is on,
      pub lane-mitigated-met : (last_outcome bench run lane out t last ≡ Done Mitigated)
          ↔ (OneMet f (loan_of_all t ps last) (bytes_of ps) × (f.mitigate ≡ true))
      lane-mitigated-met = same_outcome own-outcome (mitigated-met f on off t words ps last bytes own-none)

      -- and collision exactly when for one block a selected sibling meets it, and mitigation is off.
      pub lane-collision-met : (last_outcome bench run lane out t last ≡ Done Collision)
          ↔ (OneMet f (loan_of_all t ps last) (bytes_of ps) × (f.mitigate ≡ false))
      lane-collision-met = same_outcome own-outcome (collision-met f on off t words ps last bytes own-none)

-- Two messages with the same bytes and, in the same order, the same masks end alike, under every interleaving and every cut, on any lanes of any benches.
pub lane-alike : (bench other-bench : List Hasher) (run other-run : List LaneCall) (lane other-lane : ℕ) (f : Flags) (t : Tables) (ps qs : List Piece)
    (out last other-out rest : List ℕ) → LaneMessage bench run lane f t ps out last → LaneMessage other-bench other-run other-lane f t qs other-out rest
    → bytes_of ps ≡ bytes_of qs
    → block_masks f ps last ≡ block_masks f qs rest
    → (last_outcome bench run lane out t last ≡ last_outcome other-bench other-run other-lane other-out t rest)
    × (last_written bench run lane out t last ≡ last_written other-bench other-run other-lane other-out t rest)
    × (last_first bench run lane out t last ≡ last_first other-bench other-run other-lane other-out t rest)
lane-alike bench other-bench run other-run lane other-lane f t ps qs out last other-out rest m n same masks =
    let e =
    cut-alike f t ps qs last rest
    (own-none bench run lane f t ps out last m) (own-none other-bench other-run other-lane f t qs other-out rest n) same masks
    in (
      own-outcome bench run lane f t ps out last m ∙ e.0 ∙ sym (own-outcome other-bench other-run other-lane f t qs other-out rest n),
      own-digest bench run lane f t ps out last m ∙ e.1 ∙ sym (own-digest other-bench other-run other-lane f t qs other-out rest n),
      lane_first_lem bench run lane f t ps out last m ∙ e.2 ∙ sym (lane_first_lem other-bench other-run other-lane f t qs other-out rest n),
    )
