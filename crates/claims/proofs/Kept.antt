-- Demand 2, what stays: reset restores all but the flags, a mark and its numbers stay until then, and every hasher that a call hands back is well formed. Assumes nothing.
use mathlib.Core.Path.{◌≡◌, refl, ◌∙◌}
use mathlib.Core.Bool.{true, false}
use mathlib.Core.List.{List}
use Prim.Native.Nat.{ℕ}
use Rattle.std.specs.Prelude.{Ok, is_ok}
use Rattle.word.proofs.Tests.{of_either}
use Rattle.flags.specs.declared.Flags.{Flags}
use Rattle.loan.specs.Loan.{Tables, Loan}
use Rattle.stream.specs.Fold.{nowhere, mark_fits}
use Rattle.hasher.specs.Hasher.{all_zero, well_formed, chain_of, fresh_of, reset_of}
use Rattle.hasher.specs.declared.Hasher.{Hasher}
use Rattle.absorb.specs.Absorb.{stream_of}
use Rattle.update.specs.Update.{updated}
use Rattle.absorb.proofs.Moves.{absorbed-is}
use Rattle.update.proofs.Absorbed.{flags-after, formed-after}
use Rattle.finish.specs.Finish.{finish_refusal, finished, finished_reset}
use Rattle.claims.specs.Sound.{Sound}
use Rattle.claims.specs.Pieces.{Piece, piecewise}
use Rattle.claims.proofs.After.{mark-then, fold-kept, sized-after, of-updated}
use Rattle.claims.proofs.Piecewise.{of-pieces}

-- A reset gives a fresh hasher with the same flags.
pub reset-restores : (h : Hasher) → well_formed h ≡ true → reset_of h ≡ record { refusal = (Ok tt); hasher = fresh_of h.flags }
unfolding reset_of
reset-restores h well = rw well

-- So it clears the mark and the numbers of the first marked block.
pub reset-clears : (h : Hasher) → well_formed h ≡ true → ((reset_of h).hasher.mark ≡ false) × ((reset_of h).hasher.first ≡ nowhere)
reset-clears h well = rw (reset-restores h well) (refl, refl)

-- An update keeps the flags.
pub update-flags : (h : Hasher) (bytes : List ℕ) (l : Loan) → (updated h bytes l).hasher.flags ≡ h.flags
update-flags h bytes l =
    of-updated (λ (g : Hasher). g.flags ≡ h.flags) h bytes l refl (λ a. flags-after h bytes l)

-- An update never clears the mark.
pub update-mark : (h : Hasher) (bytes : List ℕ) (l : Loan) → h.mark ≡ true → (updated h bytes l).hasher.mark ≡ true
update-mark h bytes l e =
    of-updated (λ (g : Hasher). g.mark ≡ true) h bytes l e
    (λ a. rw (absorbed-is h bytes l, mark-then h.flags l (chain_of h) (stream_of h bytes), e))

-- Nor does it replace the numbers of the first marked block.
pub update-first : (h : Hasher) (bytes : List ℕ) (l : Loan) → h.mark ≡ true → (updated h bytes l).hasher.first ≡ h.first
update-first h bytes l e =
    of-updated (λ (g : Hasher). g.first ≡ h.first) h bytes l refl
    (λ a. rw (absorbed-is h bytes l) (fold-kept h.flags l (chain_of h) (stream_of h bytes) e))

-- A finish hands its hasher back as it was.
pub finish-keeps : (h : Hasher) (l : Loan) → (finished h l).hasher ≡ h
unfolding finished
finish-keeps h l = refl

-- A fresh hasher is sound.
pub fresh-sound : (f : Flags) → Sound (fresh_of f)
unfolding well_formed all_zero mark_fits
fresh-sound f = record { size = record { words_size = refl; pending-size = refl }; well = refl }

module _ (h : Hasher) (s : Sound h) where
  -- So is what an update hands back, refused or not, if the hasher handed in was.
  pub update-sound : (bytes : List ℕ) (l : Loan) → Sound (updated h bytes l).hasher
  update-sound bytes l =
      of-updated Sound h bytes l s
      (λ a. record { size = sized-after h bytes l; well = formed-after h bytes l s.size.pending-size a })

  -- So is what a reset hands back.
  pub reset-sound : Sound (reset_of h).hasher
  reset-sound = rw (reset-restores h s.well) (fresh-sound h.flags)

  -- So is what a finish hands back.
  pub finish-sound : (l : Loan) → Sound (finished h l).hasher
  finish-sound l = rw (finish-keeps h l) s

  -- So is what a finish-and-reset hands back.
  pub finish-reset-sound : (size : ℕ) (l : Loan) → Sound (finished_reset h size l).hasher
  unfolding finished_reset
  finish-reset-sound size l = of_either Sound (is_ok (finish_refusal h size l)) _ h (fresh-sound h.flags) s

-- Any updates one after the other keep the flags.
pub pieces-flags : (h : Hasher) (t : Tables) (ps : List Piece) → (piecewise h t ps).hasher.flags ≡ h.flags
pieces-flags h t ps =
    of-pieces (λ (g : Hasher). g.flags ≡ h.flags) (λ g e bytes l. update-flags g bytes l ∙ e) ps h t refl

-- They keep a mark.
pub pieces-mark : (h : Hasher) (t : Tables) (ps : List Piece) → h.mark ≡ true → (piecewise h t ps).hasher.mark ≡ true
pieces-mark h t ps e = of-pieces (λ (g : Hasher). g.mark ≡ true) (λ g k bytes l. update-mark g bytes l k) ps h t e

-- They keep its numbers.
pub pieces-first : (h : Hasher) (t : Tables) (ps : List Piece) → h.mark ≡ true → (piecewise h t ps).hasher.first ≡ h.first
pieces-first h t ps e =
    (of-pieces (λ (g : Hasher). (g.mark ≡ true) × (g.first ≡ h.first)) (λ g k bytes l. (update-mark g bytes l k.0, update-first g bytes l k.0 ∙ k.1)) ps h t (e, refl)).1

-- The hasher after any updates is sound.
pub pieces-sound : (h : Hasher) (t : Tables) (ps : List Piece) → Sound h → Sound (piecewise h t ps).hasher
pieces-sound h t ps s = of-pieces Sound update-sound ps h t s
