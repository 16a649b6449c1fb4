use mathlib.Core.Path.{◌≡◌, sym, ap, ap₂, ◌∙◌, subst}
use mathlib.Core.List.{List, [], ◌++◌}
use Prim.Native.Nat.{ℕ, ◌+◌, ◌-◌, ◌≤◌}
use borrow.Author.Rules.{rules}
use borrow.Rule.Slice.PartMut.{put_mid, take_put, post_of}
use lib.ListN.{length, take}
use lib.Seq.{take-add, take-append-le, drop_at, length-take-le}
use Rattle.std.specs.Io.KnownBytes.{Consumes}
use Rattle.std.proofs.KnownBytes.{Consumes-trans}
use Rattle.reads.proofs.Answered.{given-some}
use Rattle.reads.proofs.Filling.{FilledSoFar, fills-all, fills-end, fills-failed, fills-more}
use Rattle.line.proofs.Passed.{passed_on}
use Rattle.program_io.proofs.read_file.Goals as goal

-- the bytes so far and those of one read more, which lie where they belong
joined : (done n : ℕ) (old part : List ℕ) → done ≤ length old → n ≤ length part
    → take done old ++ take n part ≡ take (done + n) (put_mid done (length old - done) old part)
joined done n old part within fits =
    let new = put_mid done (length old - done) old part in
    let rest = post_of done (length old - done) old in
    let front = take_put done (length old - done) old part within in
    let more = ap (take n) (drop_at (take done old) (part ++ rest) done (length-take-le done old within)) ∙ take-append-le n part rest fits in
    ap₂ (λ (xs ys : List ℕ). xs ++ ys) (sym front) (sym more) ∙ sym (take-add done n new)

pub returns-clause-fills : goal.returns-clause-fills
returns-clause-fills g c = let l = c.loop-done.invariant in fills-all _ _ _ l.2 l.1 l.0 (search rules)

pub returns-in-None-clause-fills : goal.returns-in-None-clause-fills
returns-in-None-clause-fills g c =
    let done = c.loop-done.done in
    let old = c.loop-done.bytes in
    let new = put_mid done (length old - done) old c.read.new.buf in
    let so_far : FilledSoFar (length c.args.bytes.now) (take done new) =
    rw (← take_put done (length old - done) old c.read.new.buf (search rules)) at c.loop-done.invariant.2 in
    let same : length new ≡ length c.args.bytes.now = search rules in
    fills-end _ done new so_far same (search rules) (search rules) []

pub returns-in_err-n-clause-fills : goal.returns-in_err-n-clause-fills
returns-in_err-n-clause-fills g c =
    let done = c.loop-done.done in
    let old = c.loop-done.bytes in
    let new = put_mid done (length old - done) old c.read.new.buf in
    let so_far : FilledSoFar (length c.args.bytes.now) (take done new) =
    rw (← take_put done (length old - done) old c.read.new.buf (search rules)) at c.loop-done.invariant.2 in
    let same : length new ≡ length c.args.bytes.now = search rules in
    let e = passed_on c.from_residual.result _ c.from_residual.ensures.1 in
    rw e (fills-failed _ done new so_far same (search rules) (search rules) [] _)

pub loop-done-preserved : goal.loop-done-preserved
loop-done-preserved g c =
    let done = c.loop-done.done in
    let old = c.loop-done.bytes in
    let part = c.read.new.buf in
    let new = put_mid done (length old - done) old part in
    let so_far : FilledSoFar (length c.args.bytes.now) (take done new) =
    rw (← take_put done (length old - done) old part (search rules)) at c.loop-done.invariant.2 in
    let same : length new ≡ length c.args.bytes.now = search rules in
    let k = given-some c.read.result c.in-Some.n (sym c.given.ensures ∙ (rw c.in-Some.is at c.in_ok-n.was)) in
    let room : c.in-Some.n ≤ length c.read.new.buf = (rw k.0 at c.read.ensures.bound).0 in
    let left : c.in-Some.n ≤ length old - done = search rules in
    let gave = (rw k.0 at c.read.ensures.bytes).0 in (
      search rules,
      search rules,
      fills-more _ done new so_far same (search rules) (search rules) c.in-Some.n k.1 (search rules),
      subst (Consumes _ _) (joined done c.in-Some.n old part (search rules) room) (Consumes-trans _ _ _ _ _ c.loop-done.invariant.3 gave),
    )
