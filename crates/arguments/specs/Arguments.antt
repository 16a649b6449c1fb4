-- What the program's arguments ask.
use Rattle.std.specs.Prelude.{Bool, true, false, not, ◌||◌, List, [], ◌∷◌, ℕ, suc, ltb, take, drop}
use Rattle.word.specs.Choice.{pick}
use Rattle.octets.specs.Octets.{same_bytes}
use Rattle.flags.specs.declared.Flags.{Flags}
use Rattle.flags.specs.declared.Masks.TheVariants.{All}
use Rattle.arguments.specs.declared.ArgumentKind.{ArgumentKind}
use Rattle.arguments.specs.declared.ArgumentKind.TheVariants.{Table, Raw, Unknown}

-- `table=`, in ASCII
abbrev pub table_sign : List ℕ
table_sign = 0x74 ∷ 0x61 ∷ 0x62 ∷ 0x6C ∷ 0x65 ∷ 0x3D ∷ []

-- `raw`, in ASCII
abbrev pub raw_sign : List ℕ
raw_sign = 0x72 ∷ 0x61 ∷ 0x77 ∷ []

-- whether an argument begins with `table=`
abbrev pub names_table : List ℕ → Bool
names_table arg = same_bytes (take 6 arg) table_sign

-- which kind of argument it is
unfoldable pub kind_of : List ℕ → ArgumentKind
kind_of arg = pick (names_table arg) Table (pick (same_bytes arg raw_sign) Raw Unknown)

-- the file name: what stands after `table=`
abbrev pub name_of : List ℕ → List ℕ
name_of arg = drop 6 arg

-- whether an argument names a table
abbrev pub is_table : ArgumentKind → Bool
is_table Table = true
is_table Raw = false
is_table Unknown = false

-- whether an argument is `raw`
abbrev pub is_raw : ArgumentKind → Bool
is_raw Table = false
is_raw Raw = true
is_raw Unknown = false

-- whether an argument is of no known kind
abbrev pub is_unknown : ArgumentKind → Bool
is_unknown Table = false
is_unknown Raw = false
is_unknown Unknown = true

-- how many of the arguments are of the kind that a test finds
unfoldable pub count : (ArgumentKind → Bool) → List ArgumentKind → ℕ
count test [] = 0
count test (k ∷ ks) = pick (test k) (suc (count test ks)) (count test ks)

-- what some arguments ask: a table, no mitigation; or that one of them is unknown or repeated
pub record Setting : Type 0 where
  pub table : Bool
  pub raw : Bool
  pub bad : Bool

-- what all arguments ask, in whatever order: a table, no mitigation; an unknown or repeated one is bad
unfoldable pub setting_of : List ArgumentKind → Setting
setting_of ks =
    record {
      table = ltb 0 (count is_table ks);
      raw = ltb 0 (count is_raw ks);
      bad = ltb 1 (count is_table ks) || (ltb 1 (count is_raw ks) || ltb 0 (count is_unknown ks));
    }

-- what no argument asks
abbrev pub no_setting : Setting
no_setting = record { table = false; raw = false; bad = false }

-- what is asked with one argument more
abbrev pub with_kind : Setting → ArgumentKind → Setting
with_kind s Table = record { table = true; raw = s.raw; bad = s.bad || s.table }
with_kind s Raw = record { table = s.table; raw = true; bad = s.bad || s.raw }
with_kind s Unknown = record { table = s.table; raw = s.raw; bad = true }

-- the hasher's flags: detection with a table, mitigation unless `raw`, masks and reduced-round mode off
abbrev pub flags_of : Setting → Flags
flags_of s = record { detect = s.table; mitigate = not s.raw; masks = All; reduced = false }
