-- An update that compresses no block, and a run of updates that ends where the tables are refused. 02, request f.
use Rattle.refusal.specs.Refusal.{Checked}
use Rattle.std.specs.Prelude.{◌≡◌, List, ◌∷◌, ◌++◌, ℕ, length, Ok}
use Rattle.loan.specs.Loan.{Tables, lend}
use Rattle.hasher.specs.declared.Hasher.{Hasher}
use Rattle.update.specs.Update.{blocks_filled, updated}
use Rattle.claims.specs.Pieces.{Piece, bytes_of, piecewise}

-- an update with these bytes compresses no block
abbrev pub Short : Hasher → List ℕ → Type 0
Short h bytes = blocks_filled h (length bytes) ≡ 0

-- the updates with these pieces end at one that is refused with r: those before it, which compress no block, are all taken, and the hasher after
-- them comes back
pub record EndsAt (h : Hasher) (t : Tables) (ps : List Piece) (r : Checked) : Type 0 where
  pub front : List Piece
  pub piece : Piece
  pub rest : List Piece
  pub cut : ps ≡ front ++ piece ∷ rest
  pub short : Short h (bytes_of front)
  pub all-taken : (piecewise h t front).refusal ≡ Ok tt
  pub refused : (updated (piecewise h t front).hasher piece.bytes (lend t piece.masks)).refusal ≡ r
  pub ends : piecewise h t ps ≡ record { refusal = r; hasher = (piecewise h t front).hasher }
