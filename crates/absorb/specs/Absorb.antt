-- What the bytes of an update make of a hasher.
use Rattle.std.specs.Prelude.{List, ◌++◌, ℕ, ◌*◌, ◌/◌, length, take, drop}
use Rattle.flags.specs.declared.Flags.{Flags}
use Rattle.loan.specs.Loan.{Loan}
use Rattle.stream.specs.Fold.{folded}
use Rattle.stream.specs.declared.Chain.{Chain}
use Rattle.hasher.specs.Hasher.{chain_of, hasher_at}
use Rattle.hasher.specs.declared.Hasher.{Hasher}

-- the pending bytes, and after them those of a call
abbrev pub stream_of : Hasher → List ℕ → List ℕ
stream_of h bytes = take h.fill h.pending ++ bytes

-- the bytes of a stream after its last whole block
abbrev pub rest_of : List ℕ → List ℕ
rest_of s = drop (64 * (length s / 64)) s

-- the hasher after the whole blocks of the stream s, from the chain c on, with the rest left pending
unfoldable pub advanced : Flags → Loan → Chain → List ℕ → Hasher
advanced f l c s = hasher_at f (folded f l c s) (rest_of s)

-- the hasher after an update that is not refused
unfoldable pub absorbed : Hasher → List ℕ → Loan → Hasher
absorbed h bytes l = advanced h.flags l (chain_of h) (stream_of h bytes)
