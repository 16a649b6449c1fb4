-- Demand 2, cutting: a message may be cut into pieces in any way. Assumes nothing.
use mathlib.Core.Path.{◌≡◌, refl, sym, ap, ◌∙◌}
use mathlib.Core.Bool.{true}
use mathlib.Core.List.{List, [], ◌∷◌}
use Prim.Native.Nat.{ℕ}
use Rattle.std.specs.Prelude.{Ok, is_ok, Ok as Done}
use Rattle.word.proofs.Tests.{of_either}
use Rattle.verdict.specs.Verdict.{verdict_of}
use Rattle.verdict.specs.declared.Verdict.{Verdict}
use Rattle.fips.specs.Fips.{padded, initial}
use Rattle.flags.specs.Flags.{uses_masks}
use Rattle.flags.specs.declared.Flags.{Flags}
use Rattle.loan.specs.Loan.{Tables, Loan, lend}
use Rattle.hasher.specs.Hasher.{well_formed}
use Rattle.hasher.specs.declared.Hasher.{Hasher}
use Rattle.update.specs.Update.{update_refusal, updated}
use Rattle.update.proofs.Taken.{update-taken, taken-update}
use Rattle.claims.specs.Sound.{Sized}
use Rattle.claims.specs.Pieces.{Piece, bytes_of, piece_masks, piecewise, hashed, block_masks, NoneRefused, Counted}
use Rattle.claims.specs.Marked.{marked_by, again_by, whole_blocks}
use Rattle.claims.proofs.Below.{any_below}
use Rattle.claims.proofs.Unmarked.{at_block}
use Rattle.claims.proofs.Empty.{absorb-none}
use Rattle.claims.proofs.Looked.{taken-accepted}
use Rattle.claims.proofs.Piecewise.{pieces-taken, pieces-absorbed, Fitting, pieces-pass}
use Rattle.claims.proofs.Whole.{hashed-is}

module _ (h : Hasher) (size : Sized h) (t : Tables) where
  -- Updates piece by piece, none refused, give the same hasher and refusal as one update with everything joined.
  pub cut-joined : (p : Piece) (ps : List Piece) → (piecewise h t (p ∷ ps)).refusal ≡ Ok tt
      → piecewise h t (p ∷ ps) ≡ updated h (bytes_of (p ∷ ps)) (lend t (piece_masks (p ∷ ps)))
  cut-joined p ps e =
      let a = pieces-taken p ps h t size e in
      pieces-absorbed (p ∷ ps) h t size a.well e ∙ sym (taken-update h (bytes_of (p ∷ ps)) (lend t (piece_masks (p ∷ ps))) a)

  -- What one update takes can be cut anywhere: with each block's mask in its turn no piece is refused.
  pub cut-anywhere : (p : Piece) (ps : List Piece) → (uses_masks h.flags ≡ true → Counted h.fill (p ∷ ps))
      → (updated h (bytes_of (p ∷ ps)) (lend t (piece_masks (p ∷ ps)))).refusal ≡ Ok tt
      → piecewise h t (p ∷ ps) ≡ updated h (bytes_of (p ∷ ps)) (lend t (piece_masks (p ∷ ps)))
  cut-anywhere p ps counts e =
      let a = update-taken h (bytes_of (p ∷ ps)) (lend t (piece_masks (p ∷ ps))) e in
      let r : Fitting h t (p ∷ ps) = record { sound = record { size = size; well = a.well }; good = (taken-accepted h (bytes_of (p ∷ ps)) (lend t (piece_masks (p ∷ ps))) a).good; counts = counts } in
      cut-joined p ps (pieces-pass (p ∷ ps) h t r a.fits)

  -- No piece at all is as an update of no bytes, and that changes nothing.
  pub cut-none : well_formed h ≡ true → (l : Loan) → (updated h [] l).hasher ≡ (piecewise h t []).hasher
  unfolding updated piecewise
  cut-none well l =
      of_either (λ (g : Hasher). g ≡ h) (is_ok (update_refusal h [] l)) _ h (absorb-none h size well l) refl

-- Two cuts of one message, its masks in the same order and no call refused, end alike.
pub cut-alike : (f : Flags) (t : Tables) (ps qs : List Piece) (last rest : List ℕ) → NoneRefused f t ps last → NoneRefused f t qs rest
    → bytes_of ps ≡ bytes_of qs → block_masks f ps last ≡ block_masks f qs rest
    → ((hashed f t ps last).outcome ≡ (hashed f t qs rest).outcome) × ((hashed f t ps last).digest ≡ (hashed f t qs rest).digest)
    × ((hashed f t ps last).first ≡ (hashed f t qs rest).first)
cut-alike f t ps qs last rest x y e m =
    let xs = padded (bytes_of qs) in
    let verdict : List ℕ → Verdict = λ ms. verdict_of (any_below (at_block (marked_by f t) (again_by f t) initial xs ms) (whole_blocks xs)) f.mitigate in
    rw (hashed-is f t ps last x, hashed-is f t qs rest y, e) (ap (λ (ms : List ℕ). Done (verdict ms)) m, rw m, rw m)
