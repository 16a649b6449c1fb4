-- What the fields of a case are read as.
use Rattle.std.specs.Prelude.{List, ℕ, ◌+◌, ◌*◌, ◌/◌, ◌%◌, eqb}
use Rattle.std.specs.List.{fold}
use Rattle.word.specs.Choice.{pick}
use Rattle.flags.specs.declared.Flags.{Flags}
use Rattle.flags.specs.declared.Masks.TheVariants.{Conditions}
use Rattle.flags.specs.Flags.{masks_of}
use Rattle.cases.specs.Lines.{field_of}

-- a number with one more digit, given in ASCII, behind its last 18
abbrev pub with_digit : ℕ → ℕ → ℕ
with_digit n digit = 10 * (n % 1000000000000000000) + digit % 16

-- the number of some decimal digits, each byte taken for one by its low half
abbrev pub decimal_value : List ℕ → ℕ
decimal_value digits = fold with_digit 0 digits

-- field i as a number
abbrev pub number_at : List ℕ → ℕ → ℕ
number_at line i = decimal_value (field_of line i)

-- field i as a word
abbrev pub word_field : List ℕ → ℕ → ℕ
word_field line i = number_at line i % 0x100000000

-- 1 detect, 2 mitigate, 4 masks lent, 8 reduced-round, 16 conditions, whatever the masks' bit is
abbrev pub flags_of_bits : ℕ → Flags
flags_of_bits bits =
    record {
      detect = eqb (bits % 2) 1;
      mitigate = eqb (bits / 2 % 2) 1;
      masks = pick (eqb (bits / 16 % 2) 1) Conditions (masks_of (eqb (bits / 4 % 2) 1));
      reduced = eqb (bits / 8 % 2) 1;
    }
