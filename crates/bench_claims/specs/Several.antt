-- Several messages on one lane, one after the other, with calls on any lanes among theirs.
use Rattle.std.specs.Prelude.{◌≡◌, List, [], ◌∷◌, ◌++◌, ℕ}
use Rattle.flags.specs.declared.Flags.{Flags}
use Rattle.loan.specs.Loan.{Tables, lend}
use Rattle.hasher.specs.declared.Hasher.{Hasher}
use Rattle.finish.specs.Finish.{outcome_number}
use Rattle.bench.specs.Bench.{lane_finished}
use Rattle.claims.specs.Several.{LentMessage, alone}
use Rattle.bench_claims.specs.Calls.{finishing, Response, of_outcome, LaneCall, run_responses, run_bench}
use Rattle.bench_claims.specs.OwnMessage.{updates_with, accepted_on, last_outcome}

-- a lane's finish, with some tables, and masks for the last blocks
abbrev pub finish_of : ℕ → List ℕ → Tables → List ℕ → LaneCall
finish_of lane out t last = record { lane = lane; call = finishing out (lend t last) }

-- one message's turn on a lane: the calls, on any lanes, among which its updates are, and the output that its finish is lent
pub record Turn : Type 0 where
  pub run : List LaneCall
  pub message : LentMessage
  pub out : List ℕ

-- all calls: those of each turn, and the lane's finish after them
abbrev pub turn_calls : ℕ → List Turn → List LaneCall
turn_calls lane [] = []
turn_calls lane (m ∷ ms) = m.run ++ finish_of lane m.out m.message.tables m.message.last ∷ turn_calls lane ms

-- the bench after a turn
abbrev pub turn_bench : List Hasher → ℕ → Turn → List Hasher
turn_bench bench lane m = lane_finished (run_bench bench m.run) lane m.out (lend m.message.tables m.message.last)

-- what all calls get, where each finish gets the outcome, the first mark and the digest that its message has on a new hasher
abbrev pub alone_responses : List Hasher → ℕ → Flags → List Turn → List Response
alone_responses bench lane f [] = []
alone_responses bench lane f (m ∷ ms) =
    let d = alone f m.message in
    run_responses bench m.run ++ of_outcome d.outcome d.first d.digest ∷ alone_responses (turn_bench bench lane m) lane f ms

-- in each turn the lane accepts updates with the message's tables, one for each of its pieces, no other call, and the finish
abbrev pub AllAccepted : List Hasher → ℕ → List Turn → Type 0
AllAccepted bench lane [] = Unit
AllAccepted bench lane (m ∷ ms) =
    (accepted_on bench m.run lane ≡ updates_with m.message.tables m.message.pieces)
    × ((outcome_number (last_outcome bench m.run lane m.out m.message.tables m.message.last) ≡ 0)
    × AllAccepted (turn_bench bench lane m) lane ms)
