-- A message in pieces: the calls that take it, one after the other.
use Rattle.std.specs.Prelude.{◌≡◌, List, [], ◌∷◌, ◌++◌, ℕ, ◌+◌, ◌/◌, ◌%◌, length, Ok, is_ok}
use Rattle.word.specs.Choice.{pick}
use Rattle.verdict.specs.Verdict.{digest_size}
use Rattle.fips.specs.Tail.{tail_blocks}
use Rattle.flags.specs.declared.Flags.{Flags}
use Rattle.loan.specs.Loan.{Tables, Loan, lend, looked_at}
use Rattle.hasher.specs.Hasher.{fresh_of, UpdateAccount}
use Rattle.hasher.specs.declared.Hasher.{Hasher}
use Rattle.update.specs.Update.{updated}
use Rattle.finish.specs.Finish.{finish_refusal, finished, FinishAccount}

-- a piece of a message, and the masks that are lent with it
pub record Piece : Type 0 where
  pub bytes : List ℕ
  pub masks : List ℕ

-- the message
abbrev pub bytes_of : List Piece → List ℕ
bytes_of [] = []
bytes_of (p ∷ ps) = p.bytes ++ bytes_of ps

-- the masks of all its pieces
abbrev pub piece_masks : List Piece → List ℕ
piece_masks [] = []
piece_masks (p ∷ ps) = p.masks ++ piece_masks ps

-- an update for each piece, in order, with the same tables; the first refusal ends them
unfoldable pub piecewise : Hasher → Tables → List Piece → UpdateAccount
piecewise h t [] = record { refusal = (Ok tt); hasher = h }
piecewise h t (p ∷ ps) =
    let u = updated h p.bytes (lend t p.masks) in
    pick (is_ok u.refusal) (piecewise u.hasher t ps) u

-- the updates from the start of a message on
abbrev pub taking : Flags → Tables → List Piece → UpdateAccount
taking f t ps = piecewise (fresh_of f) t ps

-- the rest of a message on a hasher: the updates, and the finish with the masks `last`
abbrev pub hashed_on : Hasher → Tables → List Piece → List ℕ → FinishAccount
hashed_on h t ps last = finished (piecewise h t ps).hasher (lend t last)

-- the whole of a message on a new hasher
abbrev pub hashed : Flags → Tables → List Piece → List ℕ → FinishAccount
hashed f t ps last = hashed_on (fresh_of f) t ps last

-- a message in two calls: one update with the masks `first`, and the finish with the masks `last`
abbrev pub in_two : Flags → Tables → List ℕ → List ℕ → List ℕ → FinishAccount
in_two f t bytes first last = finished (updated (fresh_of f) bytes (lend t first)).hasher (lend t last)

-- the loan for all blocks of a message: the tables, and the masks of all its calls
abbrev pub loan_of_all : Tables → List Piece → List ℕ → Loan
loan_of_all t ps last = lend t (piece_masks ps ++ last)

-- the masks of a message's blocks, padding included: those lent, or none where they are not looked at
abbrev pub block_masks : Flags → List Piece → List ℕ → List ℕ
block_masks f ps last = looked_at f (piece_masks ps ++ last)

-- no call is refused, neither an update nor the finish
pub record NoneRefused (f : Flags) (t : Tables) (ps : List Piece) (last : List ℕ) : Type 0 where
  pub updates : (taking f t ps).refusal ≡ Ok tt
  pub finish : finish_refusal (taking f t ps).hasher digest_size (lend t last) ≡ Ok tt

-- each piece has a mask for each block that it fills, where so many bytes are pending before the first
abbrev pub Counted : ℕ → List Piece → Type 0
Counted fill [] = Unit
Counted fill (p ∷ ps) =
    (length p.masks ≡ (fill + length p.bytes) / 64) × Counted ((fill + length p.bytes) % 64) ps

-- each block's mask is lent in its turn: with the piece that fills the block, and for the last blocks with the finish
pub record InTurn (ps : List Piece) (last : List ℕ) : Type 0 where
  pub updates : Counted 0 ps
  pub finish : length last ≡ tail_blocks (length (bytes_of ps) % 64)
