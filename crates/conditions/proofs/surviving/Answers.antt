-- `conditions::surviving` meets its contract. Assumes nothing.
use mathlib.Core.Path.{◌≡◌, sym, ap, ap₂, ◌∙◌}
use mathlib.Core.List.{List, []}
use Prim.Native.Nat.{ℕ, ◌+◌, ◌-◌, ◌^◌, ◌*◌, ◌/◌, ◌<◌}
use native.Mathlib.Omega.{arith}
use lib.ListN.{length, get_or, take, drop}
use Rattle.std.specs.Simd.{first_chunks}
use Rattle.table.proofs.Chunks.{chunk_is}
use Rattle.table.specs.Limits.{mask_bits}
use Rattle.conditions.specs.Conditions.{holds_at, clearing_at, dropped_of, dropped_with}
use Rattle.conditions.proofs.Dropped.{dropped-none, left-none, left-all}
use Rattle.conditions.proofs.Each.{dropped_next, dropped_rest, rest_fit, part_fit}
use Rattle.conditions.proofs.surviving.Goals as goal

pub loop-group-init : goal.loop-group-init
loop-group-init c = sym (dropped-none (holds_at c.args.w.now c.args.conditions.now) (clearing_at c.args.conditions.now))

-- group g of the groups of eight
group_is : (chunks : List (List ℕ)) (groups : List (List (List ℕ))) (g : ℕ) → groups ≡ first_chunks 8 (length chunks / 8) chunks → g < length chunks / 8
    → get_or groups g [] ≡ take 8 (drop (8 * g) chunks)
group_is chunks groups g e h = ap (λ (x : List (List (List ℕ))). get_or x g []) e ∙ chunk_is 8 (length chunks / 8) g chunks [] h

pub returns-then-d : goal.returns-then-d
returns-then-d c =
    let a = c.args in
    let n = c.as_chunks.ensures.front_len in
    let m = c.as_chunks-2.ensures.front_len in
    sym (left-none a.w.now a.conditions.now (8 * c.loop-group.group-index) (omega arith) (omega (arith, c.loop-group.invariant)))

pub dropped_with-d-requires : goal.dropped_with-d-requires
dropped_with-d-requires c =
    let a = c.args in
    let e = c.as_chunks.ensures in
    let chunks = c.as_chunks.result.0.now in
    let g = c.loop-group.group-index in
    rw (group_is chunks c.as_chunks-2.result.0.now g c.as_chunks-2.ensures.front (omega arith)) (part_fit a.w.now a.conditions.now chunks e.front e.front_len c.requires (8 * g) 8)

pub loop-group-preserved : goal.loop-group-preserved
loop-group-preserved c =
    let a = c.args in
    let e = c.as_chunks.ensures in
    let chunks = c.as_chunks.result.0.now in
    let g = c.loop-group.group-index in
    let i = group_is chunks c.as_chunks-2.result.0.now g c.as_chunks-2.ensures.front (omega arith) in
    let k : 8 * g + 8 ≡ 8 * (g + 1) = omega arith in
    c.dropped_with-d.ensures ∙ ap₂ (dropped_with a.w.now) c.loop-group.invariant i
    ∙ dropped_next a.w.now a.conditions.now chunks e.front e.front_len (8 * g) 8 (omega arith) ∙ ap (dropped_of a.w.now a.conditions.now) k

pub dropped_with-requires : goal.dropped_with-requires
dropped_with-requires c =
    let a = c.args in
    let e = c.as_chunks.ensures in
    let chunks = c.as_chunks.result.0.now in
    rw c.as_chunks-2.ensures.back (rest_fit a.w.now a.conditions.now chunks e.front e.front_len c.requires (length chunks / 8 * 8))

pub returns : goal.returns
returns c =
    let a = c.args in
    let e = c.as_chunks.ensures in
    let chunks = c.as_chunks.result.0.now in
    let k : 8 * c.loop-group.group-index ≡ length chunks / 8 * 8 = omega arith in
    let d = c.dropped_with.ensures
    ∙ ap₂ (dropped_with a.w.now) (c.loop-group.invariant ∙ ap (dropped_of a.w.now a.conditions.now) k) c.as_chunks-2.ensures.back
    ∙ dropped_rest a.w.now a.conditions.now chunks e.front e.front_len (length chunks / 8 * 8) (omega arith) in
    ap (λ (n : ℕ). 2 ^ mask_bits - 1 - n) d ∙ sym (left-all a.w.now a.conditions.now)
