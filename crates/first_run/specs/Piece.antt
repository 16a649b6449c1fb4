-- A piece of a message, with the masks of the blocks that it fills.
use Rattle.std.specs.Prelude.{List, ℕ, ◌-◌, ◌/◌, ◌%◌, take, drop}
use Rattle.std.specs.Result.{result_unwrap_or}
use Rattle.fips.specs.Tail.{tail_blocks}
use Rattle.loan.specs.Loan.{Loan, lend}
use Rattle.hasher.specs.Hasher.{hasher_handed}
use Rattle.hasher.specs.declared.Hasher.{Hasher}
use Rattle.update.specs.Update.{updated}

-- of what is lent for a message, that for the blocks that it fills from one place to another
abbrev pub loan_for : Loan → ℕ → ℕ → Loan
loan_for l from to = lend l.tables (take (to / 64 - from / 64) (drop (from / 64) l.masks))

-- that for the last blocks of a message of n bytes
abbrev pub last_loan : Loan → ℕ → Loan
last_loan l n = lend l.tables (take (tail_blocks (n % 64)) (drop (n / 64) l.masks))

-- the hasher after a piece; a refused one is as it was
abbrev pub piece_of : Hasher → List ℕ → ℕ → ℕ → Loan → Hasher
piece_of h m from to l =
    result_unwrap_or (hasher_handed (updated h (take (to - from) (drop from m)) (loan_for l from to))) h
