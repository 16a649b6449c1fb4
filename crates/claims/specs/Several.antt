-- Several messages on one hasher, and updates in place one after the other.
use Rattle.one_shot.specs.Whole.{WholeAccount}
use Rattle.refusal.specs.Refusal.{Checked}
use Rattle.std.specs.Prelude.{◌≡◌, List, [], ◌∷◌, ℕ, replicate, Ok}
use Rattle.verdict.specs.Verdict.{digest_size}
use Rattle.flags.specs.declared.Flags.{Flags}
use Rattle.loan.specs.Loan.{Tables, lend}
use Rattle.hasher.specs.declared.Hasher.{Hasher}
use Rattle.finish.specs.Finish.{finished_reset, written_out}
use Rattle.in_place.specs.InPlace.{InPlace}
use Rattle.claims.specs.Pieces.{Piece, piecewise, hashed, NoneRefused}

-- a message: its tables, its pieces, and the masks of its last blocks
pub record LentMessage : Type 0 where
  pub tables : Tables
  pub pieces : List Piece
  pub last : List ℕ

-- its outcome, digest and first mark on a new hasher
abbrev pub alone : Flags → LentMessage → WholeAccount
alone f m =
    let r = hashed f m.tables m.pieces m.last in
    record { outcome = r.outcome; digest = r.digest; first = r.first }

-- those of each on new hashers
abbrev pub each_alone : Flags → List LentMessage → List WholeAccount
each_alone f [] = []
each_alone f (m ∷ ms) = alone f m ∷ each_alone f ms

-- no call of any of them is refused there
abbrev pub AllTaken : Flags → List LentMessage → Type 0
AllTaken f [] = Unit
AllTaken f (m ∷ ms) = NoneRefused f m.tables m.pieces m.last × AllTaken f ms

-- those of each on one hasher: its updates, and a finish-and-reset into 20 bytes
unfoldable pub one_after_other : Hasher → List LentMessage → List WholeAccount
one_after_other h [] = []
one_after_other h (m ∷ ms) =
    let g = (piecewise h m.tables m.pieces).hasher in
    let l = lend m.tables m.last in
    record { outcome = (finished_reset g digest_size l).outcome; digest = written_out g (replicate digest_size 0) l; first = (finished_reset g digest_size l).first }
    ∷ one_after_other (finished_reset g digest_size l).hasher ms

-- an update in place with a piece and, where it is not refused, the rest of the run, which leaves the refusal r and the hasher g
pub record NextInPlace (h : Hasher) (t : Tables) (p : Piece) (Rest : Hasher → Type 0) (r : Checked) (g : Hasher) : Type 0 where
  pub answer : Checked
  pub left : Hasher
  pub call : InPlace h p.bytes (lend t p.masks) answer left
  pub goes_on : answer ≡ (Ok tt) → Rest left
  pub ends : (answer ≡ (Ok tt) → ⊥) → (g ≡ left) × (r ≡ answer)

-- updates in place, one for each piece; the first refusal ends them
abbrev pub RunInPlace : Hasher → Tables → List Piece → Checked → Hasher → Type 0
RunInPlace h t [] r g = (g ≡ h) × (r ≡ (Ok tt))
RunInPlace h t (p ∷ ps) r g = NextInPlace h t p (λ k. RunInPlace k t ps r g) r g
