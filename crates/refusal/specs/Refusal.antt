-- The number of each refusal in the table of docs/BEHAVIOUR.md, and the place that it names.
use Rattle.std.specs.Prelude.{Bool, false, ◌||◌, List, [], ◌∷◌, ℕ, zero, suc, eqb, Result, Ok, Err, is_ok}
use Rattle.word.specs.Choice.{pick}
use Rattle.refusal.specs.declared.Refusal.{Refusal}
use Rattle.refusal.specs.declared.Refusal.TheVariants.{HasherForm, TableLength, MaskNumber, TestStep, DmRule, MaskCount, MessageLength, Size, SheetLength, NoLane, MaskRepeated, ConditionLength, Condition}

-- what a check answers: nothing is wrong, or this is
abbrev pub Checked : Type 0
Checked = Result Unit Refusal

-- its number in the table
abbrev pub number : Refusal → ℕ
number HasherForm = 1
number TableLength = 2
number (MaskNumber i) = 3
number (TestStep i) = 4
number (DmRule i) = 5
number MaskCount = 6
number MessageLength = 7
number Size = 8
number SheetLength = 9
number NoLane = 10
number (MaskRepeated i) = 11
number ConditionLength = 12
number (Condition i) = 13

-- the place, from 0, of the record that decides; 0 for the other numbers
abbrev pub place : Refusal → ℕ
place HasherForm = 0
place TableLength = 0
place (MaskNumber i) = i
place (TestStep i) = i
place (DmRule i) = i
place MaskCount = 0
place MessageLength = 0
place Size = 0
place SheetLength = 0
place NoLane = 0
place (MaskRepeated i) = i
place ConditionLength = 0
place (Condition i) = i

-- the number of what a check answers, 0 where nothing is refused
abbrev pub number_of : Checked → ℕ
number_of (Ok u) = 0
number_of (Err r) = number r

-- the place that it names, 0 where it names none
abbrev pub place_of : Checked → ℕ
place_of (Ok u) = 0
place_of (Err r) = place r

-- the first refusal of two, the second only where the first is none
abbrev pub first_of : Checked → Checked → Checked
first_of r s = pick (is_ok r) s r

-- the first fault of the n places from i on
unfoldable pub first_from : (ℕ → Checked) → ℕ → ℕ → Checked
first_from fault i zero = Ok tt
first_from fault i (suc n) = first_of (fault i) (first_from fault (suc i) n)

-- the numbers that a table can give
abbrev pub table_numbers : List ℕ
table_numbers = 2 ∷ 3 ∷ 4 ∷ 5 ∷ 11 ∷ []

-- the numbers that a table of conditions can give
abbrev pub condition_numbers : List ℕ
condition_numbers = 12 ∷ 13 ∷ []

-- the numbers that name a record's place
abbrev pub placed_numbers : List ℕ
placed_numbers = 3 ∷ 4 ∷ 5 ∷ 11 ∷ 13 ∷ []

-- n is one of the numbers listed
abbrev pub one_of : List ℕ → ℕ → Bool
one_of [] n = false
one_of (x ∷ xs) n = eqb x n || one_of xs n
