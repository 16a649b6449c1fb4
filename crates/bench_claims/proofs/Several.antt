-- Several messages on one lane, under every interleaving: each ends as on a new hasher. Assumes nothing.
use mathlib.Core.Path.{◌≡◌, refl, ap₂, ◌∙◌}
use mathlib.Core.List.{List, [], ◌∷◌, ◌++◌}
use Prim.Native.Nat.{ℕ}
use Rattle.flags.specs.declared.Flags.{Flags}
use Rattle.hasher.specs.Hasher.{fresh_of}
use Rattle.hasher.specs.declared.Hasher.{Hasher}
use Rattle.bench.specs.Bench.{lane_of}
use Rattle.bench_claims.specs.Calls.{Response, run_responses}
use Rattle.bench_claims.specs.OwnMessage.{LaneMessage}
use Rattle.bench_claims.specs.Several.{finish_of, Turn, turn_calls, turn_bench, alone_responses, AllAccepted}
use Rattle.bench_claims.proofs.OwnMessage.{lane-fresh}
use Rattle.bench_claims.proofs.Anywhere.{message-anywhere, response-at}

-- Messages one after the other on a lane that is new at first, each ended by an accepted finish, with any calls on other lanes among theirs, get the
-- outcomes, first marks and digests that they have on new hashers.
pub lane-several-alone : (ms : List Turn) (bench : List Hasher) (lane : ℕ) (f : Flags) → lane_of bench lane ≡ fresh_of f → AllAccepted bench lane ms
    → run_responses bench (turn_calls lane ms) ≡ alone_responses bench lane f ms
lane-several-alone [] bench lane f starts ok = refl
lane-several-alone (m ∷ ms) bench lane f starts ok =
    let t = m.message.tables in
    let ps = m.message.pieces in
    let last = m.message.last in
    let here : LaneMessage bench m.run lane f t ps m.out last = record { starts = starts; updates = ok.0; finish = ok.1.0 } in
    response-at bench m.run (finish_of lane m.out t last) (turn_calls lane ms)
    ∙ ap₂ (λ (r : Response) (rs : List Response). run_responses bench m.run ++ r ∷ rs)
    (message-anywhere bench [] m.run lane t m.out last f ps here)
    (lane-several-alone ms (turn_bench bench lane m) lane f (lane-fresh bench m.run lane f t ps m.out last here) ok.1.1)
