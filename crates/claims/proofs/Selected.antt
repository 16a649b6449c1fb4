-- Demand 3 with "selected" by the surviving bits: which records a block is tried with, in each setting, and what marks a block, a call and a
-- message by them, in any mode. Assumes nothing.
use mathlib.Core.Path.{◌≡◌, refl, sym, ap, ◌∙◌}
use mathlib.Core.Logic.Iff
use mathlib.Core.Logic.{⊎_map, ◌↔◌}
use mathlib.Core.Bool.{Bool, true, false, true≢false, false≢true}
use mathlib.Core.List.{List, []}
use Prim.Native.Nat.{ℕ, zero, suc, ◌/◌, ◌%◌, ◌^◌, ◌<◌}
use native.Mathlib.Nat.{mod-lt, zero-lt-suc}
use native.Mathlib.Omega.{arith}
use borrow.Author.Tests.{eqb-true, eq-eqb}
use lib.Bits.{bit_and, and_shr, and_mod}
use lib.Dec.{lit<}
use lib.ListN.{length}
use Rattle.std.specs.Prelude.{Ok}
use Rattle.word.specs.Choice.{pick}
use Rattle.word.specs.Lists.{AllWords, AllBytes}
use Rattle.refusal.specs.Refusal.{Checked}
use Rattle.verdict.specs.Verdict.{digest_size}
use Rattle.step.specs.Step.{Words, regs_of}
use Rattle.step.specs.declared.Regs.{Regs}
use Rattle.block.specs.Schedule.{words_of, schedule_of}
use Rattle.table.specs.Limits.{mask_bits}
use Rattle.table.specs.Bits.{has_bit}
use Rattle.table.specs.Table.{records_in, mask_number_at}
use Rattle.conditions.specs.Conditions.{surviving_of}
use Rattle.conditions.specs.Good.{AllIn}
use Rattle.conditions.proofs.Survive.{bit-survives, no-conditions, same-conditions}
use Rattle.search.specs.Marks.{selects}
use Rattle.detect.specs.Detect.{selection_of}
use Rattle.fips.specs.Fips.{padded, initial}
use Rattle.flags.specs.Flags.{uses_conditions}
use Rattle.flags.specs.declared.Flags.{Flags}
use Rattle.loan.specs.Loan.{Tables, Loan, looked_at}
use Rattle.stream.specs.Fold.{all_bits}
use Rattle.hasher.specs.declared.Hasher.{Hasher}
use Rattle.absorb.specs.Absorb.{stream_of}
use Rattle.update.specs.Update.{updated}
use Rattle.update.proofs.Taken.{update-taken}
use Rattle.finish.specs.Finish.{finish_refusal, finished, finished_reset}
use Rattle.one_shot.specs.Whole.{whole_refusal, whole_of}
use Rattle.in_place.specs.InPlace.{InPlace}
use Rattle.claims.specs.Sound.{Typed, TypedVectors, TypedConditions, VectorsGood, PassFor}
use Rattle.claims.specs.Pieces.{Piece, bytes_of, hashed, loan_of_all, NoneRefused}
use Rattle.claims.specs.Marked.{block_at, mask_for, selected_at, marked_in}
use Rattle.claims.specs.Message.{MetInAt, OneMetIn}
use Rattle.claims.specs.EveryCall.{MarkedAfter, last_blocks, VerdictBy}
use Rattle.claims.specs.Selected.{AllHoldOf, SelectedFor, MetBy, OneMetBy, MarkedAfterBy}
use Rattle.claims.proofs.Unseen.{conditions-no-masks}
use Rattle.claims.proofs.Looked.{looked-good, update-passes, finish-passes, whole-passes}
use Rattle.claims.proofs.MetAlong.{marked-in-at}
use Rattle.claims.proofs.Whole.{tables-pass}
use Rattle.claims.proofs.EveryCall.{decided-by, update-met, in-place-met, finish-met, finish-reset-met, whole-met, message-met}

-- `and` of two bits is set exactly when both are
both-set : (x y : ℕ) → x < 2 → y < 2 → (bit_and x y ≡ 1) ↔ ((x ≡ 1) × (y ≡ 1))
both-set zero y hx hy = (λ e. absurd (omega arith), λ p. absurd (omega (arith, p.0)))
both-set (suc zero) zero hx hy = (λ e. absurd (omega arith), λ p. absurd (omega (arith, p.1)))
both-set (suc zero) (suc zero) hx hy = (λ e. (refl, refl), λ p. refl)
both-set (suc zero) (suc (suc y)) hx hy = absurd (omega arith)
both-set (suc (suc x)) y hx hy = absurd (omega arith)

-- a mask has a bit exactly when it is set
bit_is : (x k : ℕ) → (has_bit x k ≡ true) ↔ (x / 2 ^ k % 2 ≡ 1)
bit_is x k = (eqb-true (x / 2 ^ k % 2) 1, eq-eqb (x / 2 ^ k % 2) 1)

-- `and` of two masks has a bit exactly when both have it
has_both : (x y k : ℕ) → (has_bit (bit_and x y) k ≡ true) ↔ ((has_bit x k ≡ true) × (has_bit y k ≡ true))
has_both x y k =
    let e : bit_and x y / 2 ^ k % 2 ≡ bit_and (x / 2 ^ k % 2) (y / 2 ^ k % 2) = ap (λ (n : ℕ). n % 2) (and_shr x y k) ∙ and_mod (x / 2 ^ k) (y / 2 ^ k) 1 in
    let b = both-set (x / 2 ^ k % 2) (y / 2 ^ k % 2) (mod-lt (x / 2 ^ k) (zero-lt-suc 1)) (mod-lt (y / 2 ^ k) (zero-lt-suc 1)) in
    let both : (bit_and x y / 2 ^ k % 2 ≡ 1) ↔ ((x / 2 ^ k % 2 ≡ 1) × (y / 2 ^ k % 2 ≡ 1)) = (λ p. b.0 (sym e ∙ p), λ p. e ∙ b.1 p) in
    Iff.trans (bit_is (bit_and x y) k) (Iff.trans both (Iff.and (Iff.symm (bit_is x k)) (Iff.symm (bit_is y k))))

-- A block is tried with the vectors of its mask of which every condition that names them holds.
pub selected-exactly : (conditions block : List ℕ) (mask b : ℕ) → AllWords conditions → b < mask_bits
    → (has_bit (selection_of conditions block mask) b ≡ true) ↔ ((has_bit mask b ≡ true) × AllHoldOf conditions block b)
unfolding selection_of
selected-exactly conditions block mask b words l =
    let w = schedule_of (words_of block) in
    Iff.trans (has_both mask (surviving_of w conditions) b)
    (Iff.and Iff.rfl (Iff.trans (bit_is (surviving_of w conditions) b) (bit-survives w conditions words b l)))

-- Tables with the same conditions, in any order and however often, select alike.
pub same-selection : (conditions others block : List ℕ) (mask : ℕ) → AllWords conditions → AllWords others → AllIn conditions others → AllIn others conditions
    → selection_of conditions block mask ≡ selection_of others block mask
unfolding selection_of
same-selection conditions others block mask p q a b = rw (same-conditions (schedule_of (words_of block)) conditions others p q a b)

-- a mask of all ones has every bit
pub all_set : (b : ℕ) → b < mask_bits → has_bit all_bits b ≡ true
all_set b l = (bit_is all_bits b).1 (rw (← no-conditions []) ((bit-survives [] [] (λ i. lit< tt) b l).1 (λ k h. absurd (omega arith))))

-- what the conditions ask where they are looked at, and where they are not
where-looked : (on : Bool) (conditions block : List ℕ) (mask b : ℕ) → AllWords conditions → b < mask_bits
    → (has_bit (selection_of (pick on conditions []) block mask) b ≡ true) ↔ ((has_bit mask b ≡ true) × (on ≡ true → AllHoldOf conditions block b))
where-looked true conditions block mask b words l =
    let s = selected-exactly conditions block mask b words l in
    (λ e. ((s.0 e).0, λ u. (s.0 e).1), λ p. s.1 (p.0, p.1 refl))
where-looked false conditions block mask b words l =
    let s = selected-exactly [] block mask b (λ i. lit< tt) l in
    (λ e. ((s.0 e).0, λ u. absurd (false≢true u)), λ p. s.1 (p.0, λ k h. absurd (omega arith)))

module _ (f : Flags) (l : Loan) (xs : List ℕ) (i : ℕ) (typed : TypedConditions l.tables) (good : VectorsGood l.tables) where
  -- A record is selected for block i exactly when its bit is in the block's mask and, where conditions are looked at, every one of them that
  -- names its mask number holds of the block's schedule.
  pub selected-for : (j : ℕ) → j < records_in (length l.tables.vectors)
      → (selects (selected_at f l xs i) l.tables.vectors j ≡ true) ↔ SelectedFor f l xs i j
  selected-for j h =
      where-looked (uses_conditions f) l.tables.conditions (block_at xs i) (mask_for (looked_at f l.masks) i) (mask_number_at l.tables.vectors j) typed (good.each j h).mask

  -- So a selected sibling meets the block exactly when it does by such a record.
  pub met_by : (h : Regs) → MetInAt f l h xs i ↔ MetBy f l h xs i
  met_by h = (
    λ m. record { place = m.place; inside = m.inside; selected = (selected-for m.place m.inside).0 m.selected; meets = m.holds },
    λ m. record { place = m.place; inside = m.inside; selected = (selected-for m.place m.inside).1 m.selected; holds = m.meets },
  )

  -- Where conditions are not looked at, the mask alone selects.
  pub selected-by-mask : uses_conditions f ≡ false → (j : ℕ) → j < records_in (length l.tables.vectors)
      → (selects (selected_at f l xs i) l.tables.vectors j ≡ true) ↔ (selects (mask_for (looked_at f l.masks) i) l.tables.vectors j ≡ true)
  selected-by-mask off j h =
      Iff.trans (selected-for j h) (λ s. s.0, λ m. (m, λ u. absurd (true≢false (sym u ∙ off))))

  -- Where they are, they alone do, whatever masks are lent.
  pub selected-by-conditions : uses_conditions f ≡ true → (j : ℕ) → j < records_in (length l.tables.vectors)
      → (selects (selected_at f l xs i) l.tables.vectors j ≡ true) ↔ AllHoldOf l.tables.conditions (block_at xs i) (mask_number_at l.tables.vectors j)
  selected-by-conditions on j h =
      let b = mask_number_at l.tables.vectors j in
      let set : selects (mask_for (looked_at f l.masks) i) l.tables.vectors j ≡ true = rw (conditions-no-masks f on) (all_set b (good.each j h).mask) in
      Iff.trans (selected-for j h) (λ s. s.1 on, λ a. (set, λ u. a))

-- in any mode, with detection on, block i is marked exactly when a record that is selected for it meets it
pub marked_by_lem : (f : Flags) (l : Loan) (h : Regs) (xs : List ℕ) → Words h → AllBytes xs → TypedVectors l.tables → TypedConditions l.tables
    → f.detect ≡ true → VectorsGood l.tables → (i : ℕ) → (marked_in f l h xs i ≡ true) ↔ MetBy f l h xs i
marked_by_lem f l h xs hw bytes vectors conditions on good i =
    Iff.trans (marked-in-at f l h xs hw bytes vectors on good i) (met_by f l xs i conditions good h)

-- so it is for one block of a stream, where the tables of a stream with a block pass
pub one-met-by : (f : Flags) (l : Loan) (h : Regs) (xs : List ℕ) → TypedConditions l.tables → PassFor f l xs
    → ((f.detect ≡ true) × OneMetIn f l h xs) ↔ ((f.detect ≡ true) × OneMetBy f l h xs)
one-met-by f l h xs conditions fine = (
  λ k. let w = k.1 in (k.0, (w.0, w.1, (met_by f l xs w.0 conditions (looked-good f l xs fine w.0 w.1 k.0) h).0 w.2)),
  λ k. let w = k.1 in (k.0, (w.0, w.1, (met_by f l xs w.0 conditions (looked-good f l xs fine w.0 w.1 k.0) h).1 w.2)),
)

-- and for a hasher's mark
mark-by : (h : Hasher) (l : Loan) (xs : List ℕ) → TypedConditions l.tables → PassFor h.flags l xs
    → MarkedAfter h l xs ↔ MarkedAfterBy h l xs
mark-by h l xs conditions fine =
    let o = one-met-by h.flags l (regs_of h.words) xs conditions fine in
    (⊎_map (λ e. e) o.0, ⊎_map (λ e. e) o.1)

module _ (h : Hasher) (l : Loan) (typed : Typed h) (vectors : TypedVectors l.tables) (conditions : TypedConditions l.tables) where
  -- An update that is not refused leaves a mark exactly when there was one or, with detection on, a record that is selected for a block that it fills meets it.
  pub update-selected : (bytes : List ℕ) → AllBytes bytes → (updated h bytes l).refusal ≡ Ok tt
      → ((updated h bytes l).hasher.mark ≡ true) ↔ MarkedAfterBy h l (stream_of h bytes)
  update-selected bytes b e =
      Iff.trans (update-met h l typed vectors bytes b e) (mark-by h l (stream_of h bytes) conditions (update-passes h bytes l (update-taken h bytes l e)))

  -- So does an update in place.
  pub in-place-selected : (bytes : List ℕ) → AllBytes bytes → (r : Checked) (g : Hasher) → InPlace h bytes l r g → r ≡ Ok tt
      → (g.mark ≡ true) ↔ MarkedAfterBy h l (stream_of h bytes)
  in-place-selected bytes b r g p e =
      Iff.trans (in-place-met h l typed vectors bytes b r g p e)
      (mark-by h l (stream_of h bytes) conditions (update-passes h bytes l (update-taken h bytes l (sym p.1 ∙ e))))

  last-by : (size : ℕ) → finish_refusal h size l ≡ (Ok tt) → MarkedAfter h l (last_blocks h) ↔ MarkedAfterBy h l (last_blocks h)
  last-by size e = mark-by h l (last_blocks h) conditions (λ some. finish-passes h size l e)

  -- A finish that is not refused gives its verdict by whether there was one or, with detection on, such a record meets one of the last blocks.
  pub finish-selected : finish_refusal h digest_size l ≡ (Ok tt) → VerdictBy (finished h l).outcome h.flags.mitigate (MarkedAfterBy h l (last_blocks h))
  finish-selected e = decided-by (last-by digest_size e) (finish-met h l typed vectors e)

  -- So does a finish-and-reset.
  pub finish-reset-selected : (size : ℕ) → finish_refusal h size l ≡ Ok tt
      → VerdictBy (finished_reset h size l).outcome h.flags.mitigate (MarkedAfterBy h l (last_blocks h))
  finish-reset-selected size e = decided-by (last-by size e) (finish-reset-met h l typed vectors size e)

-- A whole message in one call does by whether detection is on and such a record meets one of its blocks, padding included.
pub whole-selected : (f : Flags) (bytes : List ℕ) (l : Loan) → AllBytes bytes → TypedVectors l.tables → TypedConditions l.tables
    → whole_refusal f (length bytes) l ≡ Ok tt
    → VerdictBy (whole_of f bytes l).outcome f.mitigate ((f.detect ≡ true) × OneMetBy f l initial (padded bytes))
whole-selected f bytes l b vectors conditions e =
    decided-by (one-met-by f l initial (padded bytes) conditions (λ some. whole-passes f (length bytes) l e)) (whole-met f bytes l b vectors e)

-- So does a message under every cut, none of its calls refused, with one table of conditions throughout.
pub message-selected : (f : Flags) (t : Tables) (ps : List Piece) (last : List ℕ) → AllBytes (bytes_of ps) → TypedVectors t → TypedConditions t → NoneRefused f t ps last
    → VerdictBy (hashed f t ps last).outcome f.mitigate ((f.detect ≡ true) × OneMetBy f (loan_of_all t ps last) initial (padded (bytes_of ps)))
message-selected f t ps last b vectors conditions ok =
    decided-by (one-met-by f (loan_of_all t ps last) initial (padded (bytes_of ps)) conditions (λ some. tables-pass f t ps last ok)) (message-met f t ps last b vectors ok)
