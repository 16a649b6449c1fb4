-- `search::Compressed::is_marked_by` meets its contract: the states are those that the block keeps. Assumes nothing.
use Rattle.search.proofs.Marks.{marks_kept}
use Rattle.search.proofs.Compressed.is_marked_by.Goals as goal

pub returns-then-same_regs : goal.returns-then-same_regs
returns-then-same_regs c =
    let b = c.args.self in
    rw (marks_kept c.args.reduced b.start b.states b.schedule.now c.args.record.now c.sibling_ends-ends.result b.kept c.sibling_ends-ends.ensures, ← c.same_regs.ensures, c.if-same_regs.true)

pub returns-then-reduced : goal.returns-then-reduced
returns-then-reduced c =
    let b = c.args.self in
    rw (marks_kept c.args.reduced b.start b.states b.schedule.now c.args.record.now c.sibling_ends-ends.result b.kept c.sibling_ends-ends.ensures, ← c.same_regs.ensures, c.if-same_regs.false, c.if-reduced.true) c.same_regs-then-reduced.ensures

pub returns-else-reduced : goal.returns-else-reduced
returns-else-reduced c =
    let b = c.args.self in
    rw (marks_kept c.args.reduced b.start b.states b.schedule.now c.args.record.now c.sibling_ends-ends.result b.kept c.sibling_ends-ends.ensures, ← c.same_regs.ensures, c.if-same_regs.false, c.if-reduced.false)
