-- What the program is given: its arguments, by what fetching them answered.
use Rattle.std.specs.Prelude.{◌≡◌, Bool, true, false, not, List, [], ◌∷◌, map, ℕ, suc, ltb, eqb, ℤ, pos, negsuc, Option, Some, None, is_some, Result, Ok, Err}
use Rattle.std.specs.Borrow.{Bor}
use Rattle.std.specs.declared.env.FillError.{FillError}
use Rattle.std.specs.declared.env.FillError.TheVariants.{NotPresent, TooLong}
use Rattle.word.specs.Choice.{pick}
use Rattle.flags.specs.declared.Flags.{Flags}
use Rattle.flags.specs.declared.Masks.TheVariants.{All}
use Rattle.arguments.specs.Arguments.{is_table, kind_of, Setting, setting_of, no_setting, with_kind}
use Rattle.arguments.specs.declared.ArgumentKind.{ArgumentKind}
use Rattle.arguments.specs.declared.ArgumentKind.TheVariants.{Table, Raw, Unknown}
use Rattle.line.specs.declared.Failure.{Failure}
use Rattle.line.specs.declared.Failure.TheVariants.{Unread}
use Rattle.plan.specs.declared.Plan.{Plan}

-- an argument: the error's number after it was fetched, and its bytes
pub record Argument : Type 0 where
  pub error : ℤ
  pub bytes : List ℕ

-- the argument of an error and bytes
abbrev pub argument_of : ℤ → List ℕ → Argument
argument_of error bytes = record { error = error; bytes = bytes }

-- the number of what went wrong as an argument was fetched, as C has it: EINVAL where there is none, ENAMETOOLONG where it is too long
abbrev pub error_number : FillError → ℤ
error_number NotPresent = pos 22
error_number TooLong = pos 36

-- the argument by what fetching it answered
abbrev pub argument_given : Result (Bor (List ℕ)) FillError → Argument
argument_given (Ok bytes) = argument_of (pos 0) bytes.now
argument_given (Err e) = argument_of (error_number e) []

-- whether there was no error
abbrev pub is_zero : ℤ → Bool
is_zero (pos k) = eqb k 0
is_zero (negsuc k) = false

-- its kind: none of ours where it could not be fetched
abbrev pub kind_read : Argument → ArgumentKind
kind_read a = pick (is_zero a.error) (kind_of a.bytes) Unknown

-- the kind by what fetching it answered: none where there is no such argument, and none of ours where it is too long
abbrev pub kind_given : Result (Bor (List ℕ)) FillError → Option ArgumentKind
kind_given (Ok bytes) = Some (kind_of bytes.now)
kind_given (Err NotPresent) = None
kind_given (Err TooLong) = Some Unknown

-- the kinds of all arguments
abbrev pub kinds_read : List Argument → List ArgumentKind
kinds_read args = map kind_read args

-- the place of the table's argument, with one argument more at place i
abbrev pub placed_at : ℕ → ArgumentKind → ℕ → ℕ
placed_at place k i = pick (is_table k) i place

-- the place, from 1, of the last argument that names a table; 0 where none does
unfoldable pub table_place : List ArgumentKind → ℕ
table_place [] = 0
table_place (k ∷ ks) = pick (ltb 0 (table_place ks)) (suc (table_place ks)) (pick (is_table k) 1 0)

-- what some arguments ask: what they set, and the place of the one that names the table
pub record Asked : Type 0 where
  pub setting : Setting
  pub place : ℕ

-- what is asked before the first argument
abbrev pub nothing_asked : Asked
nothing_asked = record { setting = no_setting; place = 0 }

-- what is asked with one argument more, at place i
abbrev pub asked_with : Asked → ArgumentKind → ℕ → Asked
asked_with a k i = record { setting = with_kind a.setting k; place = placed_at a.place k i }

-- what all arguments set
abbrev pub setting_read : List Argument → Setting
setting_read args = setting_of (kinds_read args)

-- what all arguments ask: what they set, and the place of the one that names the table
abbrev pub asked_of : List Argument → Asked
asked_of args = record { setting = setting_read args; place = table_place (kinds_read args) }

-- what is done by what is asked: 16 is said for a bad argument, else the message is read, with the table that is named or with none
abbrev pub plan_of : Asked → Result Plan Failure
plan_of a = pick a.setting.bad (Err Unread) (Ok (record { table = pick a.setting.table (Some a.place) None; raw = a.setting.raw }))

-- what is planned before the first argument
abbrev pub nothing_planned : Plan
nothing_planned = record { table = None; raw = false }

-- what is planned with one argument more, at place i
abbrev pub plan_with : Plan → ArgumentKind → ℕ → Result Plan Failure
plan_with p Table i = pick (is_some p.table) (Err Unread) (Ok (record { table = Some i; raw = p.raw }))
plan_with p Raw i = pick p.raw (Err Unread) (Ok (record { table = p.table; raw = true }))
plan_with p Unknown i = Err Unread

-- the hasher's flags: detection with a table, mitigation unless `raw`, masks and reduced-round mode off
abbrev pub plan_flags : Plan → Flags
plan_flags p = record { detect = is_some p.table; mitigate = not p.raw; masks = All; reduced = false }

-- a kind is that of some argument
pub record Given (k : ArgumentKind) : Type 0 where
  pub argument : Argument
  pub read : k ≡ kind_read argument

-- what is done is what some arguments ask
pub record Asks (r : Result Plan Failure) : Type 0 where
  pub arguments : List Argument
  pub asked : r ≡ plan_of (asked_of arguments)
