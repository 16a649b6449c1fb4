-- How numbers, flags and a hasher lie in the memory that a C caller lends.
use Rattle.std.specs.Prelude.{◌≡◌, Bool, not, ◌&&◌, List, [], ◌∷◌, ℕ, ◌+◌, ◌*◌, ◌/◌, ◌%◌, ltb, leb, eqb, length, get_or, Option, Some, None}
use Rattle.word.specs.Choice.{pick}
use Rattle.verdict.specs.declared.Verdict.{Verdict}
use Rattle.verdict.specs.declared.Verdict.TheVariants.{Ok, Mitigated, Collision}
use Rattle.flags.specs.Flags.{conditions_of}
use Rattle.flags.specs.declared.Flags.{Flags}
use Rattle.flags.specs.declared.Masks.{Masks}
use Rattle.flags.specs.declared.Masks.TheVariants.{All, Lent, Conditions}
use Rattle.stream.specs.declared.FirstMark.{FirstMark}
use Rattle.hasher.specs.declared.Hasher.{Hasher}
use Rattle.layout.specs.declared.slices.HasherSlices.{HasherSlices}

-- a truth value as a number
abbrev pub bit_of : Bool → ℕ
bit_of b = pick b 1 0

-- whether x has the bit that is worth so much
abbrev pub has_worth : ℕ → ℕ → Bool
has_worth x worth = eqb (x / worth % 2) 1

-- whether a number stands for flags: none beyond the five, and masks and conditions not both
unfoldable pub flags_known : ℕ → Bool
flags_known x = leb x 31 && not (has_worth x 4 && has_worth x 16)

-- the masks setting in such a number: 4 masks lent, 16 conditions, else every vector
abbrev pub masks_in : ℕ → Masks
masks_in x = pick (has_worth x 4) Lent (conditions_of (has_worth x 16))

-- that setting, none where the number has both bits
abbrev pub masks_read : ℕ → Option Masks
masks_read x = pick (has_worth x 4 && has_worth x 16) None (Some (masks_in x))

-- the flags in such a number: 1 detect, 2 mitigate, 8 reduced, and the masks setting
unfoldable pub flags_in : ℕ → Flags
flags_in x = record { detect = has_worth x 1; mitigate = has_worth x 2; masks = masks_in x; reduced = has_worth x 8 }

-- the flags that a number stands for, none where it stands for none
abbrev pub flags_read : ℕ → Option Flags
flags_read x = pick (flags_known x) (Some (flags_in x)) None

-- what the masks setting is worth in such a number
abbrev pub masks_worth : Masks → ℕ
masks_worth All = 0
masks_worth Lent = 4
masks_worth Conditions = 16

-- the flags as such a number
unfoldable pub flags_number : Flags → ℕ
flags_number f = bit_of f.detect + 2 * bit_of f.mitigate + masks_worth f.masks + 8 * bit_of f.reduced

-- the first mark in a state
abbrev pub first_in : List ℕ → FirstMark
first_in state = record { block = get_or state 4 0; place = get_or state 5 0 }

-- the hasher that lies in its words, its pending bytes and its state: fill, blocks, mark, flags, the first mark's block and place
unfoldable pub hasher_in : List ℕ → List ℕ → List ℕ → Hasher
hasher_in words pending state =
    record { words = words; pending = pending; fill = get_or state 0 0; blocks = get_or state 1 0; flags = flags_in (get_or state 3 0); mark = has_worth (get_or state 2 0) 1; first = first_in state }

-- the state of a hasher, as it is written
unfoldable pub state_of : Hasher → List ℕ
state_of h = h.fill ∷ h.blocks ∷ bit_of h.mark ∷ flags_number h.flags ∷ h.first.block ∷ h.first.place ∷ []

-- the three slices that a hasher lies in
abbrev pub slices_of : Hasher → List (List ℕ)
slices_of h = h.words ∷ h.pending ∷ state_of h ∷ []

-- what lies in those three, lent as one value
abbrev pub slices_lent : HasherSlices → List (List ℕ)
slices_lent s = s.words.now ∷ s.pending.now ∷ s.state.now ∷ []

-- two such values lend the same three
abbrev pub SameSlices : HasherSlices → HasherSlices → Type 0
SameSlices s t = (t.words.ghost_name ≡ s.words.ghost_name) × (t.pending.ghost_name ≡ s.pending.ghost_name) × (t.state.ghost_name ≡ s.state.ghost_name)

-- whether a state is one that a hasher is written as: six numbers, the mark 0 or 1, and flags. Any first mark is one: where it does not
-- fit the mark and the blocks, the hasher is not well formed
abbrev pub state_fits : List ℕ → Bool
state_fits state = eqb (length state) 6 && (leb (get_or state 2 0) 1 && flags_known (get_or state 3 0))

-- whether a hasher lies in slices of so many words and pending bytes, and such a state
abbrev pub hasher_fits : ℕ → ℕ → List ℕ → Bool
hasher_fits words pending state = eqb words 5 && (eqb pending 64 && state_fits state)

-- the hasher that lies in three slices, none where they are not as a hasher is written
abbrev pub hasher_read : List ℕ → List ℕ → List ℕ → Option Hasher
hasher_read words pending state = pick (hasher_fits (length words) (length pending) state) (Some (hasher_in words pending state)) None

-- whether slices of so many words, pending bytes and numbers have the lengths that a hasher lies in
abbrev pub lengths_fit : ℕ → ℕ → ℕ → Bool
lengths_fit words pending state = eqb words 5 && (eqb pending 64 && eqb state 6)

-- whether a new hasher fits slices of so many words, pending bytes and numbers, and there are such flags
abbrev pub new_fits : ℕ → ℕ → ℕ → ℕ → Bool
new_fits words pending state flags = eqb words 5 && (eqb pending 64 && (eqb state 6 && flags_known flags))

-- a verdict as a number; 0 is left for none
abbrev pub verdict_number : Verdict → ℕ
verdict_number Ok = 1
verdict_number Mitigated = 2
verdict_number Collision = 3

-- whether a number stands for a verdict
abbrev pub verdict_known : ℕ → Bool
verdict_known x = ltb 0 x && ltb x 4

-- the verdict that such a number stands for
abbrev pub verdict_for : ℕ → Verdict
verdict_for x = pick (eqb x 1) Ok (pick (eqb x 2) Mitigated Collision)

-- the same, none where the number stands for none
abbrev pub verdict_read : ℕ → Option Verdict
verdict_read x = pick (verdict_known x) (Some (verdict_for x)) None
