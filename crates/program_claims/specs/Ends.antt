-- Where the reads of a message end.
use Rattle.std.specs.Prelude.{◌≡◌, true, false, List, [], ◌∷◌, ◌++◌, map, ℕ, Ok}
use Rattle.loan.specs.Loan.{tables_of}
use Rattle.hasher.specs.declared.Hasher.{Hasher}
use Rattle.claims.specs.Pieces.{Piece, bytes_of, piecewise}
use Rattle.reads.specs.Reads.{Read, bytes_read, gave_none}

-- the updates that some reads lead to: each takes the bytes of one, and masks are off, so none is lent
abbrev pub calls : List Read → List Piece
calls rs = map (λ r. record { bytes = bytes_read r; masks = [] }) rs

-- the bytes of some reads, in order
abbrev pub message_of : List Read → List ℕ
message_of rs = bytes_of (calls rs)

-- each of some reads gave a byte at least
abbrev pub AllGave : List Read → Type 0
AllGave [] = Unit
AllGave (r ∷ rs) = (gave_none r ≡ false) × AllGave rs

-- some reads gave bytes, and the one after them gave none. Those that follow it are not looked at.
pub record Ends (reads : List Read) : Type 0 where
  pub before : List Read
  pub last : Read
  pub after : List Read
  pub parts : reads ≡ before ++ (last ∷ after)
  pub gave : AllGave before
  pub none : gave_none last ≡ true

-- the updates took all those bytes
abbrev pub Passed : Hasher → List ℕ → {reads : List Read} → Ends reads → Type 0
Passed h table e = (piecewise h (tables_of table []) (calls e.before)).refusal ≡ Ok tt
