-- What calls are given: hashers in the middle of a message.
use Rattle.std.specs.Prelude.{Bool, List, [], ◌∷◌, ◌++◌, ℕ, ◌%◌, eqb, take, replicate}
use Rattle.flags.specs.declared.Flags.{Flags}
use Rattle.stream.specs.declared.FirstMark.{FirstMark}
use Rattle.hasher.specs.declared.Hasher.{Hasher}
use Rattle.cases.specs.Lines.{field_of}
use Rattle.cases.specs.Numbers.{number_at, word_field, flags_of_bits}

-- `abc`, zeros and a last byte, 64 in all
abbrev pub pending_of : ℕ → List ℕ
pending_of last = 0x61 ∷ 0x62 ∷ 0x63 ∷ (replicate 60 0 ++ (last ∷ []))

-- a hasher of which the fields that can be ill formed are given
abbrev pub hasher_of : ℕ → ℕ → ℕ → Flags → Bool → FirstMark → Hasher
hasher_of fill blocks last flags mark first =
    record { words = 0x01234567 ∷ 0x89ABCDEF ∷ 0xFEDCBA98 ∷ 0x76543210 ∷ 0xF0E1D2C3 ∷ []; pending = pending_of last; fill = fill; blocks = blocks; flags = flags; mark = mark; first = first }

-- where a case has a mark first made
abbrev pub given_first : List ℕ → FirstMark
given_first line = record { block = number_at line 12; place = number_at line 13 }

-- the hasher of a case, which gives its fill, blocks, last pending byte, flags, mark and where that was first made
unfoldable pub given_hasher : List ℕ → Hasher
given_hasher line =
    hasher_of (number_at line 7) (number_at line 8) (word_field line 9 % 256) (flags_of_bits (number_at line 10)) (eqb (number_at line 11) 1) (given_first line)

-- the message of a case: the first bytes of field 14
abbrev pub given_message : List ℕ → List ℕ
given_message line = take (number_at line 15) (field_of line 14)
