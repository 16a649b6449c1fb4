-- The hasher: when it is well formed, its chain, and its reset.
use Rattle.std.specs.Prelude.{Bool, true, ◌&&◌, List, [], ◌∷◌, ◌++◌, ℕ, ◌+◌, ◌-◌, ◌*◌, ◌^◌, leb, eqb, length, drop, replicate, Result, Ok, Err}
use Rattle.std.specs.Result.{result_map_both}
use Rattle.word.specs.Choice.{pick}
use Rattle.step.specs.Step.{regs_of, five_of}
use Rattle.refusal.specs.Refusal.{Checked}
use Rattle.refusal.specs.declared.Refusal.{Refusal}
use Rattle.refusal.specs.declared.Refusal.TheVariants.{HasherForm}
use Rattle.flags.specs.declared.Flags.{Flags}
use Rattle.stream.specs.Fold.{first_chain, mark_fits}
use Rattle.stream.specs.declared.Chain.{Chain}
use Rattle.hasher.specs.declared.Hasher.{Hasher}

-- the largest block count: that of the longest message
abbrev pub most_blocks : ℕ
most_blocks = 2 ^ 55 - 1

-- every number of the list is 0
unfoldable pub all_zero : List ℕ → Bool
all_zero [] = true
all_zero (x ∷ xs) = eqb x 0 && all_zero xs

-- fill and block count in range, zeros behind the pending bytes, and a mark that fits where it was first made
unfoldable pub well_formed : Hasher → Bool
well_formed h =
    leb h.fill 63
    && (leb h.blocks most_blocks
    && (all_zero (drop h.fill h.pending)
    && mark_fits h.flags.detect h.mark h.first h.blocks))

-- the bytes taken so far
abbrev pub taken : Hasher → ℕ
taken h = h.blocks * 64 + h.fill

-- the chaining words, the mark, where it was made and the block count of a hasher
abbrev pub chain_of : Hasher → Chain
chain_of h = record { words = regs_of h.words; mark = h.mark; first = h.first; blocks = h.blocks }

-- fewer than 64 bytes, filled up with zeros
abbrev pub zeroed : List ℕ → List ℕ
zeroed xs = xs ++ replicate (64 - length xs) 0

-- a hasher that has come to a chain, with 64 bytes of which the first are pending
abbrev pub hasher_with : Flags → Chain → List ℕ → ℕ → Hasher
hasher_with f c pending fill =
    record { words = five_of c.words; pending = pending; fill = fill; blocks = c.blocks; flags = f; mark = c.mark; first = c.first }

-- a hasher that has come to a chain, with the bytes that are left after its blocks
abbrev pub hasher_at : Flags → Chain → List ℕ → Hasher
hasher_at f c rest = hasher_with f c (zeroed rest) (length rest)

-- a hasher at the start of a message
abbrev pub fresh_of : Flags → Hasher
fresh_of f = hasher_at f first_chain []

-- the whole account of a call that moves a hasher on: what it refuses, and the hasher, which a refusal leaves as it was
pub record UpdateAccount : Type 0 where
  pub refusal : Checked
  pub hasher : Hasher

-- what a caller is handed of it: the hasher, or the refusal alone
abbrev pub hasher_handed : UpdateAccount → Result Hasher Refusal
hasher_handed a = result_map_both (λ _. a.hasher) (λ r. r) a.refusal

-- what a reset gives: everything but the flags as at the start
unfoldable pub reset_of : Hasher → UpdateAccount
reset_of h =
    pick (well_formed h) (record { refusal = Ok tt; hasher = fresh_of h.flags })
    (record { refusal = Err HasherForm; hasher = h })
