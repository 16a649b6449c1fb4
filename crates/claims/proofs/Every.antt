-- Demand 2, not empty: every message of at most 2^61-1 bytes is taken, under every cut. Assumes nothing.
use mathlib.Core.Path.{◌≡◌, refl, sym, ap, ◌∙◌}
use mathlib.Core.Bool.{Bool, true, false, ◌&&◌, false≢true, and-false}
use mathlib.Core.List.{List}
use Prim.Native.Nat.{ℕ, ◌%◌, ◌≤◌}
use native.Mathlib.Omega.{arith}
use lib.ListN.{length}
use Rattle.finish.specs.Finish.{FinishAccount, Outcome}
use Rattle.std.specs.Prelude.{Ok, Ok as Done}
use Rattle.word.proofs.Tests.{unless-true}
use Rattle.verdict.specs.Verdict.{digest_size}
use Rattle.verdict.specs.declared.Verdict.TheVariants.{Ok as OkVerdict}
use Rattle.fips.specs.Fips.{most_bytes, padded, sha1}
use Rattle.fips.specs.Tail.{tail_blocks}
use Rattle.flags.specs.Flags.{is_lent, is_conditions, uses_masks}
use Rattle.flags.specs.declared.Flags.{Flags}
use Rattle.flags.specs.declared.Masks.{Masks}
use Rattle.flags.specs.declared.Masks.TheVariants.{All, Conditions}
use Rattle.loan.specs.Loan.{Tables, lend, tables_refusal, VectorsPass, GoodTables}
use Rattle.loan.proofs.Loans.{accepted-loan, good-tables}
use Rattle.stream.specs.Fold.{nowhere, first_chain}
use Rattle.stream.specs.declared.FirstMark.{FirstMark}
use Rattle.hasher.specs.Hasher.{fresh_of}
use Rattle.hasher.specs.declared.Hasher.{Hasher}
use Rattle.finish.proofs.Finishing.{finishing-finish}
use Rattle.claims.specs.Pieces.{Piece, bytes_of, taking, hashed, block_masks, NoneRefused, InTurn}
use Rattle.claims.specs.Marked.{blocks_in}
use Rattle.claims.proofs.Blocks.{first-left}
use Rattle.claims.proofs.Kept.{finish-keeps, fresh-sound, pieces-flags, pieces-sound}
use Rattle.claims.proofs.Piecewise.{Fitting, pieces-pass}
use Rattle.claims.proofs.Whole.{fill_is, hashed-is}
use Rattle.claims.proofs.Cut.{cut-alike}
use Rattle.claims.proofs.Fips.{fips-undetected}
use Rattle.claims.proofs.Verdicts.{ok-exactly}

-- what a setting does not ask for is not looked at
unasked : (asks : Masks → Bool) (f : Flags) (masks : Masks) → asks masks ≡ false → f.masks ≡ masks → (f.detect && asks f.masks) ≡ true → ⊥
unasked asks f masks off e u = false≢true (sym (and-false f.detect) ∙ (rw (e, off) at u))

same-finished : (r : FinishAccount) {o : Outcome} {d : List ℕ} {m : FirstMark} {h : Hasher} → r.outcome ≡ o → r.digest ≡ d → r.first ≡ m → r.hasher ≡ h
    → r ≡ record { outcome = o; digest = d; first = m; hasher = h }
same-finished r p q m s = rw (← p, ← q, ← m, ← s)

module _ (f : Flags) (t : Tables) (ps : List Piece) (last : List ℕ) (short : length (bytes_of ps) ≤ most_bytes) where
  -- No cut of a message of at most 2^61-1 bytes is refused where the tables are good and each block's mask is lent in its turn, if they are looked at.
  pub none-refused : tables_refusal f t ≡ (Ok tt) → (uses_masks f ≡ true → InTurn ps last) → NoneRefused f t ps last
  none-refused good turn =
      let r : Fitting (fresh_of f) t ps = record { sound = fresh-sound f; good = λ some. good; counts = λ u. (turn u).updates } in
      let e = pieces-pass ps (fresh_of f) t r (omega arith) in
      let flags = pieces-flags (fresh_of f) t ps in
      record {
        updates = e;
        finish =
            finishing-finish (taking f t ps).hasher digest_size (lend t last)
            (record {
              well = (pieces-sound (fresh_of f) t ps (fresh-sound f)).well;
              sized = refl;
              loan =
                  rw (flags, fill_is f t ps e)
                  (accepted-loan f (lend t last) (tail_blocks (length (bytes_of ps) % 64)) (record { counts = λ u. (turn u).finish; good = λ some. good }));
            });
      }

  -- With detection off none is, whatever is lent.
  pub none-refused-off : f.detect ≡ false → NoneRefused f t ps last
  none-refused-off off = none-refused (rw off) (λ u. absurd (false≢true (rw off at u)))

  -- With detection on none is, with tables that are good where they are looked at and each block's mask in its turn.
  pub none-refused-on : GoodTables f t → InTurn ps last → NoneRefused f t ps last
  none-refused-on good turn = none-refused (good-tables f t good) (λ u. turn)

  -- With masks off none is, with vectors that are, whatever else is lent.
  pub none-refused-all : f.masks ≡ All → VectorsPass f t.vectors → NoneRefused f t ps last
  none-refused-all off good =
      none-refused (good-tables f t (λ u. absurd (unasked is_conditions f All refl off u), good)) (λ u. absurd (unasked is_lent f All refl off u))

  -- With conditions none is, with such tables, whatever masks are lent.
  pub none-refused-conditions : f.masks ≡ Conditions → GoodTables f t → NoneRefused f t ps last
  none-refused-conditions on good = none-refused (good-tables f t good) (λ u. absurd (unasked is_lent f Conditions refl on u))

  -- With detection off the verdict is ok and the digest FIPS 180-4's, for every message of at most 2^61-1 bytes under every cut, whatever is lent.
  pub every-message : f.detect ≡ false
      → hashed f t ps last ≡ record { outcome = Done OkVerdict; digest = sha1 (bytes_of ps); first = nowhere; hasher = (taking f t ps).hasher }
  every-message off =
      let ok = none-refused-off off in
      same-finished (hashed f t ps last) ((ok-exactly f t ps last ok).1 (λ i l. rw off)) (fips-undetected f t ps last ok off)
      (ap (λ (r : FinishAccount). r.first) (hashed-is f t ps last ok) ∙ first-left f t first_chain (padded (bytes_of ps)) (block_masks f ps last) refl (blocks_in (bytes_of ps)) (λ i l. rw off))
      (finish-keeps _ (lend t last))

-- With conditions every cut of a message of at most 2^61-1 bytes ends alike, with one table of conditions throughout and whatever masks are lent.
pub every-cut-conditions : (f : Flags) (t : Tables) (ps qs : List Piece) (last rest : List ℕ) → f.masks ≡ Conditions → GoodTables f t
    → length (bytes_of ps) ≤ most_bytes → bytes_of ps ≡ bytes_of qs
    → ((hashed f t ps last).outcome ≡ (hashed f t qs rest).outcome) × ((hashed f t ps last).digest ≡ (hashed f t qs rest).digest)
    × ((hashed f t ps last).first ≡ (hashed f t qs rest).first)
every-cut-conditions f t ps qs last rest on good short same =
    let off : uses_masks f ≡ false = unless-true (uses_masks f) (λ u. unasked is_lent f Conditions refl on u) in
    cut-alike f t ps qs last rest (none-refused-conditions f t ps last short on good) (none-refused-conditions f t qs rest (rw (← same) short) on good) same (rw off)
