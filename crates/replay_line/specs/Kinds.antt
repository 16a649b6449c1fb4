-- What a line of the list is, by its letter and its number of fields.
use Rattle.std.specs.Prelude.{Bool, true, false, ◌&&◌, ◌||◌, List, [], ◌∷◌, ℕ, ◌+◌, eqb, leb, ◌==◌, count_by, Option, Some, None, option_and_then}
use Rattle.word.specs.Choice.{pick}
use Rattle.cases.specs.Lines.{field_end}
use Rattle.replay_line.specs.declared.kind.Kind.{Kind}
use Rattle.replay_line.specs.declared.kind.Kind.TheVariants.{Comment, Table, Block, Fresh, Update, Finish, FinishReset, OneShot, Reset}

-- the kind of a letter: `t`, `b`, `n`, `u`, `f`, `r`, `o`, `z`, and the capitals of those that can be refused
abbrev pub named : ℕ → Option Kind
named x =
    pick (eqb x 0x74 || eqb x 0x54) (Some Table) (pick (eqb x 0x62 || eqb x 0x42) (Some Block) (pick (eqb x 0x6E) (Some Fresh)
    (pick (eqb x 0x75 || eqb x 0x55) (Some Update) (pick (eqb x 0x66 || eqb x 0x46) (Some Finish)
    (pick (eqb x 0x72 || eqb x 0x52) (Some FinishReset) (pick (eqb x 0x6F || eqb x 0x4F) (Some OneShot) (pick (eqb x 0x7A) (Some Reset) None)))))))

-- whether a line begins with a capital: what it has is refused
abbrev pub is_refused : List ℕ → Bool
is_refused [] = false
is_refused (x ∷ xs) = leb 0x41 x && leb x 0x5A

-- how many fields stand after the letter for what is given
abbrev pub given_fields : Kind → ℕ
given_fields Comment = 0
given_fields Table = 1
given_fields Block = 4
given_fields Fresh = 1
given_fields Update = 2
given_fields Finish = 1
given_fields FinishReset = 1
given_fields OneShot = 2
given_fields Reset = 0

-- how many stand after those for the answer
abbrev pub answer_fields : Kind → ℕ
answer_fields Comment = 0
answer_fields Table = 0
answer_fields Block = 4
answer_fields Fresh = 0
answer_fields Update = 4
answer_fields Finish = 2
answer_fields FinishReset = 2
answer_fields OneShot = 2
answer_fields Reset = 0

-- how many fields stand after the letter; a refusal has two for the answer, its number and its place
abbrev pub fields_of : Kind → Bool → ℕ
fields_of k refused = given_fields k + pick refused 2 (answer_fields k)

-- whether a line's first byte is all of it, or a space stands after it
abbrev pub is_alone : List ℕ → Bool
is_alone [] = true
is_alone (x ∷ []) = true
is_alone (x ∷ y ∷ xs) = eqb y field_end

-- a kind that has its number of fields
abbrev pub with_fields : Kind → Bool → ℕ → Option Kind
with_fields k refused n = pick (eqb n (fields_of k refused)) (Some k) None

-- a line's kind: `#` begins a comment; none where it can't be read
unfoldable pub line_kind : List ℕ → Option Kind
line_kind [] = None
line_kind (x ∷ xs) =
    pick (eqb x 0x23) (Some Comment)
    (pick (is_alone (x ∷ xs))
    (option_and_then (λ k. with_fields k (is_refused (x ∷ xs)) (count_by (λ b. b == field_end) (x ∷ xs))) (named x))
    None)
