-- A message with conditions, call by call: each update, and then the finish, answers as one with the surviving bits of the blocks that it
-- compresses lent, refused or not, and leaves the same hasher up to the setting. Assumes nothing.
use mathlib.Core.Path.{◌≡◌, refl, sym, ap, ◌∙◌}
use mathlib.Core.Bool.{Bool, true, false}
use mathlib.Core.List.{List, [], ◌∷◌}
use Prim.Native.Nat.{ℕ}
use Rattle.std.specs.Prelude.{is_ok}
use Rattle.word.specs.Choice.{pick}
use Rattle.flags.specs.Flags.{with_masks}
use Rattle.flags.specs.declared.Flags.{Flags}
use Rattle.flags.specs.declared.Masks.{Masks}
use Rattle.flags.specs.declared.Masks.TheVariants.{Lent, Conditions}
use Rattle.loan.specs.Loan.{Tables, lend, ConditionsPass}
use Rattle.hasher.specs.Hasher.{fresh_of, UpdateAccount}
use Rattle.hasher.specs.declared.Hasher.{Hasher}
use Rattle.update.specs.Update.{updated}
use Rattle.finish.specs.Finish.{finished}
use Rattle.claims.specs.Pieces.{Piece, piecewise, taking, hashed}
use Rattle.claims.specs.Settings.{set_masks, masks_on, conditions_on, surviving_blocks, surviving_last, surviving_pieces}
use Rattle.claims.proofs.Piecewise.{piecewise-nil, piecewise-cons}
use Rattle.claims.proofs.Kept.{update-flags, fresh-sound, pieces-sound, pieces-flags}
use Rattle.claims.proofs.BothSettings.{update-surviving, finish-surviving}

-- an answer with the hasher that it hands back in the setting of conditions
abbrev pub to_conditions : UpdateAccount → UpdateAccount
to_conditions u = record { refusal = u.refusal; hasher = conditions_on u.hasher }

-- a hasher of a setting is as it was when set to it
set_own : (h : Hasher) (masks : Masks) → h.flags.masks ≡ masks → set_masks h masks ≡ h
set_own h masks e = rw (← e)

picked : (b : Bool) (x y : UpdateAccount) → to_conditions (pick b x y) ≡ pick b (to_conditions x) (to_conditions y)
picked true x y = refl
picked false x y = refl

module _ (t : Tables) where
  -- updates one after the other
  pub pieces-surviving : (ps : List Piece) (h : Hasher) → ConditionsPass (conditions_on h).flags t.conditions
      → piecewise (conditions_on h) t ps ≡ to_conditions (piecewise (masks_on h) t (surviving_pieces h t ps))
  unfolding surviving_pieces
  pieces-surviving [] h pass = rw (piecewise-nil (conditions_on h) t, piecewise-nil (masks_on h) t)
  pieces-surviving (p ∷ ps) h pass =
      let l = lend t p.masks in
      let k = surviving_blocks h p.bytes l in
      let u = updated (masks_on h) p.bytes k in
      let flags : u.hasher.flags ≡ (masks_on h).flags = update-flags (masks_on h) p.bytes k in
      let own : masks_on u.hasher ≡ u.hasher = set_own u.hasher Lent (ap (λ (f : Flags). f.masks) flags) in
      let e = update-surviving h l pass p.bytes in
      let next = pieces-surviving ps u.hasher (rw flags pass) in
      let rest = surviving_pieces u.hasher t ps in
      let q : Piece = record { bytes = p.bytes; masks = k.masks } in
      let b = is_ok u.refusal in
      piecewise-cons (conditions_on h) t p ps
      ∙ ap (λ (v : UpdateAccount). pick (is_ok v.refusal) (piecewise v.hasher t ps) v) e
      ∙ ap (λ (v : UpdateAccount). pick b v (to_conditions u)) (next ∙ ap (λ (g : Hasher). to_conditions (piecewise g t rest)) own)
      ∙ sym (picked b (piecewise u.hasher t rest) u)
      ∙ ap to_conditions (sym (piecewise-cons (masks_on h) t q rest))

  module _ (f : Flags) (pass : ConditionsPass (with_masks f Conditions) t.conditions) (ps : List Piece) (last : List ℕ) where
    -- the hasher after the updates of a message with lent masks
    abbrev pub after : Hasher
    after = (taking (with_masks f Lent) t (surviving_pieces (fresh_of f) t ps)).hasher

    -- and the finish
    pub hashed-surviving : hashed (with_masks f Conditions) t ps last
        ≡ record {
          outcome = (finished after (surviving_last after (lend t last))).outcome;
          digest = (finished after (surviving_last after (lend t last))).digest;
          first = (finished after (surviving_last after (lend t last))).first;
          hasher = conditions_on after;
        }
    hashed-surviving =
        let flags : after.flags ≡ with_masks f Lent = pieces-flags (fresh_of (with_masks f Lent)) t (surviving_pieces (fresh_of f) t ps) in
        let sound = pieces-sound (fresh_of (with_masks f Lent)) t (surviving_pieces (fresh_of f) t ps) (fresh-sound (with_masks f Lent)) in
        let own : masks_on after ≡ after = set_own after Lent (ap (λ (g : Flags). g.masks) flags) in
        ap (λ (u : UpdateAccount). finished u.hasher (lend t last)) (pieces-surviving ps (fresh_of f) pass)
        ∙ finish-surviving after (lend t last) (rw flags pass) sound.size.pending-size
        ∙ ap (λ (g : Hasher). record { outcome = (finished g (surviving_last after (lend t last))).outcome; digest = (finished g (surviving_last after (lend t last))).digest; first = (finished g (surviving_last after (lend t last))).first; hasher = conditions_on after }) own
