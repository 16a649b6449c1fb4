-- What the fields of a line are read as.
use Rattle.std.specs.Prelude.{Bool, ◌&&◌, List, [], ◌∷◌, ℕ, ◌+◌, ◌/◌, ◌%◌, eqb, take, Option, Some, None, unwrap_or, option_map, option_and_then}
use Rattle.std.specs.Option.{option_eq}
use Rattle.word.specs.Choice.{pick}
use Rattle.refusal.specs.Refusal.{number, place}
use Rattle.refusal.specs.declared.Refusal.{Refusal}
use Rattle.table_file.specs.File.{most_words, file_words}
use Rattle.cases.specs.Lines.{field_of}
use Rattle.replay_line.specs.Hex.{run_bytes, run_of, no_number, small_of}
use Rattle.replay_line.specs.declared.hex.Run.{Run}
use Rattle.replay_line.specs.declared.fields.Words.{Words}

-- the words of what was read
abbrev pub word_list : Words → List ℕ
word_list w = take w.len w.words

-- field i as a run
abbrev pub run_at : List ℕ → ℕ → Option Run
run_at line i = run_of (field_of line i)

-- its bytes
abbrev pub bytes_at : List ℕ → ℕ → Option (List ℕ)
bytes_at line i = option_map run_bytes (run_at line i)

-- field i as a number
abbrev pub small_at : List ℕ → ℕ → Option ℕ
small_at line i = small_of (field_of line i)

-- the words of a run, where they are whole words
unfoldable pub words_in : Run → Option Words
words_in r = pick (eqb (r.len % 4) 0) (Some (record { len = r.len / 4; words = file_words r.bytes most_words })) None

-- field i as words
abbrev pub hex_words : List ℕ → ℕ → Option Words
hex_words line i = option_and_then words_in (run_at line i)

-- five words of a list that has five
abbrev pub five_of_list : List ℕ → Option (List ℕ)
five_of_list (a ∷ b ∷ c ∷ d ∷ e ∷ []) = Some (a ∷ b ∷ c ∷ d ∷ e ∷ [])
five_of_list ws = None

-- the word of a list that has one
abbrev pub one_of_list : List ℕ → Option ℕ
one_of_list (a ∷ []) = Some a
one_of_list ws = None

-- field i as five words, where it has five
unfoldable pub five_at : List ℕ → ℕ → Option (List ℕ)
five_at line i = option_and_then (λ w. five_of_list (word_list w)) (hex_words line i)

-- field i as a word, where it has one
unfoldable pub word_at : List ℕ → ℕ → Option ℕ
word_at line i = option_and_then (λ w. one_of_list (word_list w)) (hex_words line i)

-- whether field i is 1 for a mark and 0 for none
abbrev pub is_mark : List ℕ → ℕ → Bool → Bool
is_mark line i mark = option_eq eqb (small_at line i) (Some (pick mark 1 0))

-- whether fields i and i + 1 are a refusal's number and its place, which is no_number where it can't be read
abbrev pub is_refusal : List ℕ → ℕ → Refusal → Bool
is_refusal line i r =
    option_eq eqb (small_at line i) (Some (number r)) && eqb (unwrap_or (small_at line (i + 1)) no_number) (place r)
