-- What the program takes in of a message, by what its reads gave.
use Rattle.std.specs.Prelude.{◌≡◌, Bool, true, false, List, [], ◌∷◌, ℕ, ℤ, Result, Ok, Err, is_ok, Option, Some, None}
use Rattle.word.specs.Choice.{pick}
use Rattle.loan.specs.Loan.{loan_of}
use Rattle.update.specs.Update.{updated}
use Rattle.hasher.specs.declared.Hasher.{Hasher}
use Rattle.hasher.specs.Hasher.{UpdateAccount}
use Rattle.refusal.specs.Refusal.{Checked}
use Rattle.line.specs.declared.Failure.{Failure}
use Rattle.line.specs.declared.Failure.TheVariants.{Refused, Unread}
use Rattle.reads.specs.Reads.{Read, below0, bytes_read, gave_none, Possible}

-- what came of reading the message so far: the updates, whether a read failed, and whether there is more to read
pub record Intake : Type 0 where
  pub refusal : Checked
  pub failed : Bool
  pub hasher : Hasher
  pub more : Bool

-- before the first read
abbrev pub no_intake : Hasher → Intake
no_intake h = record { refusal = (Ok tt); failed = false; hasher = h; more = true }

-- when a read gave no byte
abbrev pub message_end : ℤ → Hasher → Intake
message_end got h = record { refusal = (Ok tt); failed = below0 got; hasher = h; more = false }

-- when an update took bytes: there is more to read exactly where nothing is refused
abbrev pub intake_by : UpdateAccount → Intake
intake_by u = record { refusal = u.refusal; failed = false; hasher = u.hasher; more = is_ok u.refusal }

-- one read taken in: no byte is the end or a failure, and bytes go to an update; masks are off, so neither masks nor conditions are lent
unfoldable pub intake_with : Hasher → List ℕ → Read → Intake
intake_with h table r = pick (gave_none r) (message_end r.got h) (intake_by (updated h (bytes_read r) (loan_of table [] [])))

-- the reads one after the other, as long as there is more to read
unfoldable pub intake_of : Hasher → List ℕ → List Read → Intake
intake_of h table [] = no_intake h
intake_of h table (r ∷ rs) =
    let x = intake_with h table r in
    pick x.more (intake_of x.hasher table rs) x

-- what was taken in is what some reads give, and there is no more to read: the message ended, a read failed or an update was refused
pub record TakesIn (start : Hasher) (table : List ℕ) (x : Intake) : Type 0 where
  pub reads : List Read
  pub possible : Possible reads
  pub intake : x ≡ intake_of start table reads
  pub ended : x.more ≡ false

-- what the program has of it: the hasher that took the message, or why there is none
abbrev pub handed_by : Checked → Bool → Hasher → Result Hasher Failure
handed_by (Ok u) false h = Ok h
handed_by (Ok u) true h = Err Unread
handed_by (Err r) failed h = Err (Refused r)

-- the same of what was taken in
abbrev pub intake_handed : Intake → Result Hasher Failure
intake_handed x = handed_by x.refusal x.failed x.hasher

-- what the program has after one read: the hasher that took its bytes, none at the message's end, or why there is none
abbrev pub taken_by : Checked → Bool → Bool → Hasher → Result (Option Hasher) Failure
taken_by (Ok u) false true h = Ok (Some h)
taken_by (Ok u) false false h = Ok None
taken_by (Ok u) true more h = Err Unread
taken_by (Err r) failed more h = Err (Refused r)

-- the same of what was taken in
abbrev pub read_taken : Intake → Result (Option Hasher) Failure
read_taken x = taken_by x.refusal x.failed x.more x.hasher

-- what the program has is what some reads give, with no more to read
pub record TookIn (start : Hasher) (table : List ℕ) (r : Result Hasher Failure) : Type 0 where
  pub intake : Intake
  pub takes : TakesIn start table intake
  pub handed : r ≡ intake_handed intake
