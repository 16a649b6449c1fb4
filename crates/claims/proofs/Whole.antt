-- The updates and the finish of a whole message, none refused, by the fold over the blocks of the padded message. Assumes nothing.
use mathlib.Core.Path.{◌≡◌, refl, ◌∙◌}
use mathlib.Core.Bool.{true}
use mathlib.Core.List.{List, [], ◌∷◌}
use Prim.Native.Nat.{ℕ, ◌/◌, ◌%◌, ◌≤◌}
use native.Mathlib.Omega.{arith}
use lib.ListN.{length}
use Rattle.std.specs.Prelude.{Ok, Ok as Done}
use Rattle.verdict.specs.Verdict.{digest_size, verdict_of}
use Rattle.fips.specs.Fips.{most_bytes, padded, digest_of}
use Rattle.fips.specs.Tail.{tail_blocks}
use Rattle.flags.specs.Flags.{uses_masks}
use Rattle.flags.specs.declared.Flags.{Flags}
use Rattle.loan.specs.Loan.{Tables, lend, tables_refusal}
use Rattle.stream.specs.Fold.{first_chain, block_of, chained}
use Rattle.stream.proofs.Folded.{folded-is}
use Rattle.loan.proofs.Loans.{AcceptedLoan, loan-accepted}
use Rattle.hasher.specs.Hasher.{fresh_of}
use Rattle.absorb.specs.Absorb.{absorbed}
use Rattle.update.proofs.Absorbed.{fill-after}
use Rattle.finish.specs.Finish.{last_chain, finished}
use Rattle.finish.proofs.Finishing.{finish-finishing}
use Rattle.one_shot.specs.Whole.{whole_chain}
use Rattle.one_shot.proofs.Padded.{last-chain-lent}
use Rattle.claims.specs.Pieces.{Piece, bytes_of, piece_masks, taking, hashed, loan_of_all, block_masks, NoneRefused}
use Rattle.claims.specs.Marked.{again_by, blocks_in, sha1_marked, marked_at}
use Rattle.claims.proofs.Below.{any_below}
use Rattle.claims.proofs.After.{words-then, mark-then}
use Rattle.claims.proofs.Looked.{taken-accepted, finish-passes}
use Rattle.claims.proofs.Piecewise.{pieces-taken, pieces-absorbed}
use Rattle.claims.proofs.Kept.{fresh-sound, pieces-flags}

module _ (f : Flags) (t : Tables) where
  -- the hasher after the updates
  taking-is : (ps : List Piece) → (taking f t ps).refusal ≡ Ok tt
      → taking f t ps ≡ record { refusal = (Ok tt); hasher = absorbed (fresh_of f) (bytes_of ps) (lend t (piece_masks ps)) }
  taking-is ps e = pieces-absorbed ps (fresh_of f) t (fresh-sound f).size (fresh-sound f).well e

  -- what is known of a message whose updates are not refused: its masks, its length and the fill that it leaves
  pub masks-counted : (ps : List Piece) → (taking f t ps).refusal ≡ (Ok tt) → uses_masks f ≡ true → length (piece_masks ps) ≡ length (bytes_of ps) / 64
  masks-counted [] e u = refl
  masks-counted (p ∷ ps) e u =
      let a = pieces-taken p ps (fresh_of f) t (fresh-sound f).size e in
      let c = (taken-accepted (fresh_of f) (bytes_of (p ∷ ps)) (lend t (piece_masks (p ∷ ps))) a).counts u in
      omega arith

  pub short-is : (ps : List Piece) → (taking f t ps).refusal ≡ (Ok tt) → length (bytes_of ps) ≤ most_bytes
  short-is [] e = omega arith
  short-is (p ∷ ps) e =
      let l = (pieces-taken p ps (fresh_of f) t (fresh-sound f).size e).fits in
      omega arith

  pub fill_is : (ps : List Piece) → (taking f t ps).refusal ≡ (Ok tt) → (taking f t ps).hasher.fill ≡ length (bytes_of ps) % 64
  fill_is ps e = rw (taking-is ps e) (fill-after (fresh_of f) (bytes_of ps) (lend t (piece_masks ps)) refl (omega arith) ∙ omega arith)

  module _ (ps : List Piece) (last : List ℕ) (ok : NoneRefused f t ps last) where
    -- what the finish is lent
    pub last-accepted : AcceptedLoan f (lend t last) (tail_blocks (length (bytes_of ps) % 64))
    last-accepted =
        let a = (finish-finishing (taking f t ps).hasher digest_size (lend t last) ok.finish).loan in
        loan-accepted f (lend t last) (tail_blocks (length (bytes_of ps) % 64)) (rw (pieces-flags (fresh_of f) t ps, fill_is ps ok.updates) at a)

    -- the tables pass, as the finish looks at them
    pub tables-pass : tables_refusal f t ≡ Ok tt
    tables-pass = rw (pieces-flags (fresh_of f) t ps) at (finish-passes (taking f t ps).hasher digest_size (lend t last) ok.finish)

    last_chain_lem : last_chain (taking f t ps).hasher (lend t last) ≡ whole_chain f (bytes_of ps) (loan_of_all t ps last)
    unfolding whole_chain
    last_chain_lem = rw (taking-is ps ok.updates) (last-chain-lent f t (bytes_of ps) (piece_masks ps) last (masks-counted ps ok.updates))

    -- the answer, by the chain after the padded message
    pub hashed-by : hashed f t ps last
        ≡ record {
          outcome = Done (verdict_of (whole_chain f (bytes_of ps) (loan_of_all t ps last)).mark f.mitigate);
          digest = digest_of (whole_chain f (bytes_of ps) (loan_of_all t ps last)).words;
          first = (whole_chain f (bytes_of ps) (loan_of_all t ps last)).first;
          hasher = (taking f t ps).hasher;
        }
    unfolding finished
    hashed-by = rw (ok.finish, last_chain_lem, pieces-flags (fresh_of f) t ps)

    -- the answer, by the marks of the blocks
    pub hashed-is : hashed f t ps last
        ≡ record {
          outcome = Done (verdict_of (any_below (marked_at f (loan_of_all t ps last) (bytes_of ps)) (blocks_in (bytes_of ps))) f.mitigate);
          digest = sha1_marked (again_by f t) (bytes_of ps) (block_masks f ps last);
          first = (chained (block_of f t) (blocks_in (bytes_of ps)) first_chain (padded (bytes_of ps)) (block_masks f ps last)).first;
          hasher = (taking f t ps).hasher;
        }
    unfolding whole_chain
    hashed-is =
        let xs = padded (bytes_of ps) in
        let l = loan_of_all t ps last in
        hashed-by ∙ rw (mark-then f l first_chain xs, words-then f l first_chain xs, folded-is f l first_chain xs)
