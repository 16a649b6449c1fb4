-- The step of a block by its mark: a marked block is compressed twice more with mitigation on, and a mark stays, as do the numbers of the
-- first marked block. Assumes nothing.
use mathlib.Core.Path.{◌≡◌, refl, ◌∙◌}
use mathlib.Core.Bool.{Bool, true, false, ◌||◌, or_assoc, or-false}
use mathlib.Core.Logic.{⊎_elim}
use mathlib.Core.List.{List}
use Prim.Native.Nat.{ℕ, zero, suc, ◌+◌, ◌*◌, ◌<◌}
use native.Mathlib.Nat.{eq-or-lt_of_le}
use native.Mathlib.Numerals.{add-one}
use native.Mathlib.Omega.{arith}
use lib.ListN.{get_or, take, drop}
use lib.Seq.{get_or-drop}
use Rattle.word.specs.Choice.{pick}
use Rattle.word.proofs.Tests.{of_either}
use Rattle.block.specs.Compress.{compress_of}
use Rattle.detect.specs.Detect.{answer_of}
use Rattle.flags.specs.declared.Flags.{Flags}
use Rattle.loan.specs.Loan.{Tables}
use Rattle.stream.specs.Fold.{all_bits, block_of, checked_of, plain_of, chained}
use Rattle.stream.specs.declared.FirstMark.{FirstMark}
use Rattle.stream.specs.declared.Chain.{Chain}
use Rattle.stream.proofs.Folds.{chained-zero, chained-suc, chained-add}
use Rattle.claims.specs.Marked.{marked_by, place_by, again_by, compress_marked, hash_marked}
use Rattle.claims.proofs.Unmarked.{at_block}
use Rattle.claims.proofs.Below.{any_below, none_below, some_below}

-- the first mark after a block, by its mark
abbrev first_by : Flags → Tables → Chain → List ℕ → ℕ → FirstMark
first_by f t c block mask =
    pick c.mark c.first (pick (marked_by f t c.words block mask) (record { block = c.blocks; place = place_by f t c.words block mask }) c.first)

-- the chain after a block, by its mark
abbrev linked_by : Flags → Tables → Chain → List ℕ → ℕ → Chain
linked_by f t c block mask =
    record {
      words = compress_marked (again_by f t c.words block mask) c.words block;
      mark = c.mark || marked_by f t c.words block mask;
      first = first_by f t c block mask;
      blocks = c.blocks + 1;
    }

module _ (f : Flags) (t : Tables) where
  block-by : (on : Bool) → f.detect ≡ on → (c : Chain) (block : List ℕ) (mask : ℕ) → block_of f t c block mask ≡ linked_by f t c block mask
  unfolding checked_of plain_of answer_of compress_of
  block-by true e c block mask = rw e
  block-by false e c block mask =
      let same : pick c.mark c.first c.first ≡ c.first = of_either (λ (m : FirstMark). m ≡ c.first) c.mark c.first c.first refl refl in
      rw (e, or-false c.mark, same)

  block_is_lem : (c : Chain) (block : List ℕ) (mask : ℕ) → block_of f t c block mask ≡ linked_by f t c block mask
  block_is_lem c block mask = block-by f.detect refl c block mask

  -- the chaining words after n blocks
  pub chained-words : (n : ℕ) (c : Chain) (xs masks : List ℕ)
      → (chained (block_of f t) n c xs masks).words ≡ hash_marked (again_by f t) n c.words xs masks
  unfolding hash_marked
  chained-words zero c xs masks = rw chained-zero
  chained-words (suc n) c xs masks =
      rw (chained-suc, block_is_lem c (take 64 xs) (get_or masks 0 all_bits)) (chained-words n _ (drop 64 xs) (drop 1 masks))

  -- the last of n + 1 blocks by itself
  chained-last : (n : ℕ) (c : Chain) (xs masks : List ℕ)
      → chained (block_of f t) (suc n) c xs masks ≡ block_of f t (chained (block_of f t) n c xs masks) (take 64 (drop (64 * n) xs)) (get_or masks n all_bits)
  chained-last n c xs masks =
      let z : n + 0 ≡ n = omega arith in
      rw (← add-one n, chained-add (block_of f t) n 1 c xs masks, chained-suc (block_of f t) 0, chained-zero, get_or-drop n masks 0 all_bits, z)

  -- the mark after n blocks: the mark before them, or that of one of them
  pub chained-mark : (n : ℕ) (c : Chain) (xs masks : List ℕ)
      → (chained (block_of f t) n c xs masks).mark ≡ (c.mark || any_below (at_block (marked_by f t) (again_by f t) c.words xs masks) n)
  unfolding any_below
  chained-mark zero c xs masks = rw (chained-zero, or-false c.mark)
  chained-mark (suc n) c xs masks =
      let block = take 64 (drop (64 * n) xs) in
      let before = chained (block_of f t) n c xs masks in
      rw (chained-last n c xs masks, block_is_lem before block (get_or masks n all_bits), chained-mark n c xs masks, chained-words n c xs masks)
      (or_assoc c.mark _ _)

  -- the number of the next block
  pub chained-count : (n : ℕ) (c : Chain) (xs masks : List ℕ) → (chained (block_of f t) n c xs masks).blocks ≡ c.blocks + n
  chained-count zero c xs masks = rw chained-zero (omega arith)
  chained-count (suc n) c xs masks =
      let before = chained (block_of f t) n c xs masks in
      rw (chained-last n c xs masks, block_is_lem before (take 64 (drop (64 * n) xs)) (get_or masks n all_bits), chained-count n c xs masks) (omega arith)

  -- one block: a mark keeps its numbers, an unmarked block leaves them, and the first that is marked gives its own
  block-keeps : (c : Chain) (block : List ℕ) (mask : ℕ) → c.mark ≡ true → (block_of f t c block mask).first ≡ c.first
  block-keeps c block mask e = rw (block_is_lem c block mask, e)

  block-leaves : (c : Chain) (block : List ℕ) (mask : ℕ) → c.mark ≡ false → marked_by f t c.words block mask ≡ false → (block_of f t c block mask).first ≡ c.first
  block-leaves c block mask e m = rw (block_is_lem c block mask, e, m)

  block-gives : (c : Chain) (block : List ℕ) (mask : ℕ) → c.mark ≡ false → marked_by f t c.words block mask ≡ true
      → (block_of f t c block mask).first ≡ record { block = c.blocks; place = place_by f t c.words block mask }
  block-gives c block mask e m = rw (block_is_lem c block mask, e, m)

  module _ (c : Chain) (xs masks : List ℕ) where
    -- whether block i is marked, and the place of the record that marks it
    abbrev test : ℕ → Bool
    test = at_block (marked_by f t) (again_by f t) c.words xs masks

    abbrev place_at : ℕ → ℕ
    place_at i = place_by f t (hash_marked (again_by f t) i c.words xs masks) (take 64 (drop (64 * i) xs)) (get_or masks i all_bits)

    -- the chain before block n, the block and its mask
    abbrev before : ℕ → Chain
    before n = chained (block_of f t) n c xs masks

    abbrev block_is : ℕ → List ℕ
    block_is n = take 64 (drop (64 * n) xs)

    -- the numbers of a mark that was there stay
    pub first-kept : c.mark ≡ true → (n : ℕ) → (before n).first ≡ c.first
    first-kept e zero = rw chained-zero
    first-kept e (suc n) =
        rw (chained-last n c xs masks)
        (block-keeps (before n) (block_is n) (get_or masks n all_bits) (chained-mark n c xs masks ∙ rw e) ∙ first-kept e n)

    -- whether a chain that was not marked is after n blocks
    unmarked : c.mark ≡ false → (n : ℕ) → ((i : ℕ) → i < n → test i ≡ false) → (before n).mark ≡ false
    unmarked e n none = chained-mark n c xs masks ∙ rw (e, (none_below test n).1 none)

    -- without a marked block they stay as well
    pub first-left : c.mark ≡ false → (n : ℕ) → ((i : ℕ) → i < n → test i ≡ false) → (before n).first ≡ c.first
    first-left e zero none = rw chained-zero
    first-left e (suc n) none =
        let fewer : (i : ℕ) → i < n → test i ≡ false = λ i l. none i (omega arith) in
        rw (chained-last n c xs masks)
        (block-leaves (before n) (block_is n) (get_or masks n all_bits) (unmarked e n fewer) (rw (chained-words n c xs masks) (none n (omega arith))) ∙ first-left e n fewer)

    -- and the first marked block gives its own
    pub first-given : c.mark ≡ false → (n i : ℕ) → i < n → test i ≡ true → ((j : ℕ) → j < i → test j ≡ false)
        → (before n).first ≡ record { block = c.blocks + i; place = place_at i }
    first-given e zero i l m none = absurd (omega arith)
    first-given e (suc n) i l m none =
        rw (chained-last n c xs masks)
        (⊎_elim
        (λ (k : i ≡ n).
        rw k
        (block-gives (before n) (block_is n) (get_or masks n all_bits) (unmarked e n (rw k at none)) (rw (chained-words n c xs masks) (rw k at m))
        ∙ rw (chained-count n c xs masks, chained-words n c xs masks)))
        (λ (k : i < n).
        block-keeps (before n) (block_is n) (get_or masks n all_bits) (chained-mark n c xs masks ∙ rw (e, (some_below test n).1 (i, k, m)))
        ∙ first-given e n i k m none)
        (eq-or-lt_of_le (omega arith)))
