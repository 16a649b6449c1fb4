use mathlib.Core.Path.{◌≡◌, sym, ap, ap₂, ◌∙◌}
use mathlib.Core.Bool.{true≢false}
use mathlib.Core.List.{List}
use Prim.Native.Nat.{ℕ, ◌*◌, ◌%◌, ◌^◌, ◌<◌}
use native.Mathlib.Nat.{sub-zero, one-mul}
use native.Mathlib.Omega.{arith}
use borrow.Author.Tests.{eq-eqb, ne_eqb}
use lib.Bits.{bit_or}
use lib.Dec.{lit<}
use lib.ListN.{length}
use lib.Pow.{shl_exact}
use Rattle.std.specs.Prelude.{is_ok}
use Rattle.refusal.proofs.First.{first-here, first_more, first_done}
use Rattle.table.specs.Limits.{mask_bits}
use Rattle.table.specs.Bits.{has_bit}
use Rattle.table.specs.Table.{records_in, mask_number_at, among, repeat_fault}
use Rattle.table.proofs.Chunks.{number_is}
use Rattle.table.proofs.Repeats.{among-true, seen_of, seen_none, seen_more, seen-has, repeat_fault_lem, no-repeat}
use Rattle.table.proofs.first_repeat.Goals as goal

-- a bit of `seen` is set exactly when an earlier record has its number
has-seen : (table : List ℕ) (i seen : ℕ) → seen ≡ seen_of (mask_number_at table) i
    → has_bit seen (mask_number_at table i) ≡ among (mask_number_at table) (mask_number_at table i) i
has-seen table i seen e = rw e (seen-has (mask_number_at table) (mask_number_at table i) i)

-- the bit of a number that a mask has
own : (k : ℕ) → k < mask_bits → 1 * 2 ^ k % 2 ^ mask_bits ≡ 2 ^ k
own k l = shl_exact 1 k mask_bits (lit< tt) (omega arith) ∙ one-mul (2 ^ k)

pub loop-i-init : goal.loop-i-init
loop-i-init c = (rw (sub-zero _), sym (seen_none (mask_number_at c.args.table.now)))

pub overflow_shr-seen : goal.overflow_shr-seen
overflow_shr-seen c =
    let h : c.loop-i.i < records_in (length c.args.table.now) = omega arith in
    rw (number_is c.args.table.now c.as_chunks.result.0.now c.loop-i.i c.as_chunks.ensures.front h) (c.requires c.loop-i.i h).mask

pub overflow_shl-seen : goal.overflow_shl-seen
overflow_shl-seen c =
    let h : c.loop-i.i < records_in (length c.args.table.now) = omega arith in
    rw (number_is c.args.table.now c.as_chunks.result.0.now c.loop-i.i c.as_chunks.ensures.front h) (c.requires c.loop-i.i h).mask

pub returns-then-seen-k-eq1 : goal.returns-then-seen-k-eq1
returns-then-seen-k-eq1 c =
    let table = c.args.table.now in
    let h : c.loop-i.i < records_in (length table) = omega arith in
    let n = number_is table c.as_chunks.result.0.now c.loop-i.i c.as_chunks.ensures.front h in
    let seen = has-seen table c.loop-i.i c.loop-i.seen c.loop-i.invariant.1 in
    let e = repeat_fault_lem table c.loop-i.i ((among-true _ _ _).0 (sym seen ∙ eq-eqb _ 1 (rw n at c.if-seen-k-eq1.true))) in
    sym e ∙ sym (first-here (repeat_fault table) c.loop-i.i (records_in (length table)) h (ap is_ok e)) ∙ c.loop-i.invariant.0

pub loop-i-preserved : goal.loop-i-preserved
loop-i-preserved c =
    let table = c.args.table.now in
    let i = c.loop-i.i in
    let h : i < records_in (length table) = omega arith in
    let k = mask_number_at table i in
    let n = number_is table c.as_chunks.result.0.now i c.as_chunks.ensures.front h in
    let seen = has-seen table i c.loop-i.seen c.loop-i.invariant.1 in
    let e = no-repeat table i (λ r. true≢false (sym ((among-true (mask_number_at table) k i).1 r) ∙ sym seen ∙ ne_eqb _ 1 (rw n at c.if-seen-k-eq1.false))) in (
      sym (first_more (repeat_fault table) i (records_in (length table)) h (ap is_ok e)) ∙ c.loop-i.invariant.0,
      rw n (ap₂ bit_or c.loop-i.invariant.1 (own k (c.requires i h).mask) ∙ sym (seen_more (mask_number_at table) i)),
    )

pub returns : goal.returns
returns c =
    let table = c.args.table.now in
    sym (first_done (repeat_fault table) c.loop-i.i (records_in (length table)) (omega arith)) ∙ c.loop-i.invariant.0
