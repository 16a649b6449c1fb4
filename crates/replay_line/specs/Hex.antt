-- What hex digits stand for.
use Rattle.std.specs.Prelude.{Bool, false, not, ◌&&◌, List, [], ◌∷◌, ℕ, ◌+◌, ◌-◌, ◌*◌, ◌/◌, ◌%◌, eqb, leb, length, take, get_or, replicate, Option, Some, None, is_some, unwrap_or}
use Rattle.std.specs.List.{list_all}
use Rattle.word.specs.Choice.{pick}
use Rattle.word.specs.Lists.{list_of}
use Rattle.table_file.specs.File.{most_file_bytes}
use Rattle.replay_line.specs.declared.hex.Run.{Run}

-- the bytes of a run
abbrev pub run_bytes : Run → List ℕ
run_bytes r = take r.len r.bytes

-- a run of no bytes
unfoldable pub empty_run : Run
empty_run = record { len = 0; bytes = replicate most_file_bytes 0 }

-- the value of a digit in ASCII, `0` to `9` and `a` to `f`; no other byte has one
abbrev pub digit_of : ℕ → Option ℕ
digit_of b =
    pick (leb 0x30 b && leb b 0x39) (Some (b - 0x30))
    (pick (leb 0x61 b && leb b 0x66) (Some (b - 0x61 + 10)) None)

-- whether there are digits only
abbrev pub all_digits : List ℕ → Bool
all_digits s = list_all (λ b. is_some (digit_of b)) s

-- the byte of two digits, of which one that is none counts as 0
abbrev pub pair_of : ℕ → ℕ → ℕ
pair_of high low = 16 * unwrap_or (digit_of high) 0 + unwrap_or (digit_of low) 0

-- byte i of a run of digits, 0 past its end
abbrev pub byte_of : List ℕ → ℕ → ℕ
byte_of s i = pair_of (get_or s (2 * i) 0) (get_or s (2 * i + 1) 0)

-- two digits for each of 1 to 10,496 bytes
unfoldable pub is_run : List ℕ → Bool
is_run s = not (eqb (length s) 0) && (leb (length s) (2 * most_file_bytes) && (eqb (length s % 2) 0 && all_digits s))

-- one dash
abbrev pub is_dash : List ℕ → Bool
is_dash [] = false
is_dash (x ∷ []) = eqb x 0x2D
is_dash (x ∷ y ∷ xs) = false

-- the bytes of a field: those of a run, none of a dash; else it can't be read
unfoldable pub run_of : List ℕ → Option Run
run_of s =
    pick (is_run s) (Some (record { len = length s / 2; bytes = list_of (byte_of s) most_file_bytes }))
    (pick (is_dash s) (Some empty_run) None)

-- what a number that can't be read is read as, where it is compared with one
abbrev pub no_number : ℕ
no_number = 256

-- the number of one or two digits; nothing else can be read
unfoldable pub small_of : List ℕ → Option ℕ
small_of s =
    pick (all_digits s)
    (pick (eqb (length s) 1) (Some (pair_of 0x30 (get_or s 0 0)))
    (pick (eqb (length s) 2) (Some (pair_of (get_or s 0 0) (get_or s 1 0))) None))
    None
