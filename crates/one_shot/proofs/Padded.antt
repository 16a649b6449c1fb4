-- A finish after a message is the fold over the blocks of the padded message: FIPS 180-4, section 5.1.1. Assumes nothing.
use mathlib.Core.Path.{◌≡◌, refl, sym, ap, ◌∙◌}
use mathlib.Core.Bool.{Bool, true, false}
use mathlib.Core.List.{List, [], ◌++◌}
use Prim.Native.Nat.{ℕ, ◌+◌, ◌*◌, ◌/◌}
use native.Mathlib.Omega.{arith}
use lib.ListN.{length, take, drop}
use lib.Seq.{take-append_seam, drop_at}
use Rattle.word.specs.Choice.{pick}
use Rattle.fips.specs.Fips.{padding_for, padded}
use Rattle.fips.proofs.Padded.{tail-is}
use Rattle.flags.specs.Flags.{uses_masks}
use Rattle.flags.specs.declared.Flags.{Flags}
use Rattle.loan.specs.Loan.{Tables, Loan, lend, later}
use Rattle.stream.specs.Fold.{first_chain, block_of, chained, folded}
use Rattle.stream.specs.declared.Chain.{Chain}
use Rattle.stream.proofs.Folds.{chained-masks}
use Rattle.stream.proofs.Folded.{folded-is, folded-cut, folded-blocks}
use Rattle.hasher.specs.Hasher.{zeroed, fresh_of}
use Rattle.absorb.specs.Absorb.{rest_of, absorbed}
use Rattle.absorb.proofs.Moves.{rest-length, absorbed-is}
use Rattle.finish.specs.Finish.{last_chain}

-- of the masks of two calls, those of the second, and what the first looks at
masks-second : (on : Bool) (ms ns : List ℕ) (n : ℕ) → (on ≡ true → length ms ≡ n) → pick on (drop n (ms ++ ns)) [] ≡ pick on ns []
masks-second true ms ns n h = drop_at ms ns n (h refl)
masks-second false ms ns n h = refl

masks-first : (on : Bool) (step : Chain → List ℕ → ℕ → Chain) (c : Chain) (xs ms ns : List ℕ) (n : ℕ) → (on ≡ true → length ms ≡ n)
    → chained step n c xs (pick on (ms ++ ns) []) ≡ chained step n c xs (pick on ms [])
masks-first true step c xs ms ns n h = let e = h refl in chained-masks step n c xs ms ns (omega arith)
masks-first false step c xs ms ns n h = refl

-- a stream in two parts, with the masks of both: the first part's blocks, and then its rest with the second part
pub folded-lent : (f : Flags) (t : Tables) (c : Chain) (s e ms ns : List ℕ) → (uses_masks f ≡ true → length ms ≡ length s / 64)
    → folded f (lend t (ms ++ ns)) c (s ++ e) ≡ folded f (lend t ns) (folded f (lend t ms) c s) (rest_of s ++ e)
folded-lent f t c s e ms ns counts =
    let n = length s / 64 in
    let first : folded f (lend t (ms ++ ns)) c s ≡ folded f (lend t ms) c s =
    folded-is f (lend t (ms ++ ns)) c s ∙ masks-first (uses_masks f) (block_of f t) c s ms ns n counts ∙ sym (folded-is f (lend t ms) c s)
    in
    let second : (d : Chain) → folded f (lend t (drop n (ms ++ ns))) d (rest_of s ++ e) ≡ folded f (lend t ns) d (rest_of s ++ e) =
    λ d. folded-is f (lend t (drop n (ms ++ ns))) d (rest_of s ++ e)
    ∙ ap (λ (m : List ℕ). chained (block_of f t) (length (rest_of s ++ e) / 64) d (rest_of s ++ e) m) (masks-second (uses_masks f) ms ns n counts)
    ∙ sym (folded-is f (lend t ns) d (rest_of s ++ e))
    in
    folded-cut f (lend t (ms ++ ns)) c s e ∙ second (folded f (lend t (ms ++ ns)) c s) ∙ rw first

-- the last blocks of a new hasher that took a message: what the message left pending, and the padding
last-chain-after : (f : Flags) (msg : List ℕ) (l k : Loan)
    → last_chain (absorbed (fresh_of f) msg l) k ≡ folded f k (folded f l first_chain msg) (rest_of msg ++ padding_for (length msg))
unfolding last_chain
last-chain-after f msg l k =
    let e = rest-length msg in
    let b : (folded f l first_chain msg).blocks * 64 + length (rest_of msg) ≡ length msg = omega (arith, folded-blocks f l first_chain msg) in
    let r : take (length (rest_of msg)) (zeroed (rest_of msg)) ≡ rest_of msg = take-append_seam (rest_of msg) _ in
    rw (absorbed-is (fresh_of f) msg l, b, tail-is (zeroed (rest_of msg)) (length (rest_of msg)) (length msg) e, r)

-- so the chain after the finish is that after the padded message, with one loan for both calls
pub last-chain-is : (f : Flags) (msg : List ℕ) (l : Loan)
    → last_chain (absorbed (fresh_of f) msg l) (later (length msg / 64) l) ≡ folded f l first_chain (padded msg)
last-chain-is f msg l = last-chain-after f msg l (later (length msg / 64) l) ∙ sym (folded-cut f l first_chain msg (padding_for (length msg)))

-- and with masks for each
pub last-chain-lent : (f : Flags) (t : Tables) (msg ms ns : List ℕ) → (uses_masks f ≡ true → length ms ≡ length msg / 64)
    → last_chain (absorbed (fresh_of f) msg (lend t ms)) (lend t ns) ≡ folded f (lend t (ms ++ ns)) first_chain (padded msg)
last-chain-lent f t msg ms ns counts =
    last-chain-after f msg (lend t ms) (lend t ns) ∙ sym (folded-lent f t first_chain msg (padding_for (length msg)) ms ns counts)
