use mathlib.Core.Path.{◌≡◌, sym, ap, ◌∙◌}
use mathlib.Core.Bool.{Bool, true, false}
use mathlib.Core.List.{List, []}
use Prim.Native.Nat.{ℕ, ◌<◌}
use native.Mathlib.Nat.{sub-zero}
use native.Mathlib.Omega.{arith}
use lib.ListN.{length, get_or}
use Rattle.std.specs.Simd.{first_chunks}
use Rattle.step.specs.declared.Regs.{Regs}
use Rattle.table.specs.Limits.{record_words}
use Rattle.table.specs.Bits.{has_bit}
use Rattle.table.specs.Table.{records_in}
use Rattle.table.proofs.Chunks.{record_is, number_is}
use Rattle.search.specs.Marks.{selects, marks, marks_by, found_in}
use Rattle.search.proofs.Marks.{marks_at}
use Rattle.search.proofs.Turns.{turn-skip, turn-try, turn-hit, turn-done}
use Rattle.search.proofs.Compressed.search.Goals as goal
use Rattle.search.proofs.Compressed.search.Goals.{then-has_bit+else-is_marked_by, else-has_bit}

-- the record that the loop has come to is record i of the table
module _ (table : List ℕ) (chunks : List (List ℕ)) (i : ℕ) (e : chunks ≡ first_chunks record_words (records_in (length table)) table) (l : i < records_in (length table)) where
  selected : (mask : ℕ) (b c : Bool) → b ≡ has_bit mask (get_or (get_or chunks i []) 0 0) → b ≡ c → selects mask table i ≡ c
  selected mask b c p q = sym (p ∙ ap (has_bit mask) (number_is table chunks i e l)) ∙ q

  marked : (reduced : Bool) (h : Regs) (w : List ℕ) (b c : Bool) → b ≡ marks_by reduced h w (get_or chunks i []) → b ≡ c → marks reduced h w table i ≡ c
  marked reduced h w b c p q = sym (p ∙ ap (marks_by reduced h w) (record_is table chunks i e l) ∙ marks_at reduced h w table i) ∙ q

pub loop-i-init : goal.loop-i-init
unfolding found_in
loop-i-init c = (omega arith, rw (sub-zero (records_in (length c.args.table.now))))

pub returns-then-is_marked_by : goal.returns-then-is_marked_by
returns-then-is_marked_by c =
    let a = c.args in
    let table = a.table.now in
    let i = c.loop-i.i in
    let l : i < records_in (length table) = omega arith in
    let s = selected table c.as_chunks.result.0.now i c.as_chunks.ensures.front l a.mask c.has_bit.result true c.has_bit.ensures c.if-has_bit.true in
    let m = marked table c.as_chunks.result.0.now i c.as_chunks.ensures.front l a.reduced a.self.start a.self.schedule.now c.is_marked_by.result true c.is_marked_by.ensures c.if-is_marked_by.true in
    sym (turn-hit (selects a.mask table) (marks a.reduced a.self.start a.self.schedule.now table) i (records_in (length table)) c.loop-i.tried l s m)
    ∙ c.loop-i.invariant.1

pub loop-i-preserved : goal.loop-i-preserved
loop-i-preserved c =
    let a = c.args in
    let table = a.table.now in
    let sel = selects a.mask table in
    let mark = marks a.reduced a.self.start a.self.schedule.now table in
    let i = c.loop-i.i in
    let n = records_in (length table) in
    let l : i < n = omega arith in
    let is_selected = selected table c.as_chunks.result.0.now i c.as_chunks.ensures.front l a.mask c.has_bit.result in
    elim c.if-has_bit.branch [
      | then-has_bit+else-is_marked_by k ↦ (
        omega arith,
        rw k.tried-is
            (sym (turn-try sel mark i n c.loop-i.tried l (is_selected true c.has_bit.ensures k.if-has_bit.true)
            (marked table c.as_chunks.result.0.now i c.as_chunks.ensures.front l a.reduced a.self.start a.self.schedule.now k.is_marked_by.result false k.is_marked_by.ensures k.if-is_marked_by.false)) ∙ c.loop-i.invariant.1),
      )
      | else-has_bit k ↦ (
        omega arith,
        rw k.tried-is
            (sym (turn-skip sel mark i n c.loop-i.tried l (is_selected false c.has_bit.ensures k.if-has_bit.false)) ∙ c.loop-i.invariant.1),
      )
    ]

pub returns : goal.returns
returns c =
    let a = c.args in
    sym (turn-done (selects a.mask a.table.now) (marks a.reduced a.self.start a.self.schedule.now a.table.now) c.loop-i.i (records_in (length a.table.now)) c.loop-i.tried
    (omega arith))
    ∙ c.loop-i.invariant.1
