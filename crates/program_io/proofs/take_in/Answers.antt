use mathlib.Core.Path.{sym, ◌∙◌}
use borrow.Author.Rules.{rules}
use Rattle.reads.specs.Reads.{answer_of, read_of}
use Rattle.reads.proofs.Answered.{answer-moved}
use Rattle.program.proofs.Intakes.{none-taken, took-end, took-failed, took-more}
use Rattle.line.proofs.Passed.{passed_on}
use Rattle.program_io.proofs.take_in.Goals as goal

pub loop-input-init : goal.loop-input-init
loop-input-init g c = record { long = search rules; taken = none-taken c.args.start c.args.table.now }

pub returns-in-None : goal.returns-in-None
returns-in-None g c =
    let buf = c.read-got.new.buf in
    let may = answer-moved c.read-got.result buf c.read-got.ensures.bound in
    let none = rw c.in-None.is at c.in_ok-next.was in
    took-end c.loop-input.invariant.taken (read_of (answer_of c.read-got.result) buf) may (sym c.take.ensures ∙ none)

pub returns-in_err-next : goal.returns-in_err-next
returns-in_err-next g c =
    let buf = c.read-got.new.buf in
    let may = answer-moved c.read-got.result buf c.read-got.ensures.bound in
    rw (passed_on c.from_residual.result _ c.from_residual.ensures.1)
    (took-failed c.loop-input.invariant.taken (read_of (answer_of c.read-got.result) buf) may (sym c.take.ensures ∙ c.in_err-next.was))

pub loop-input-smaller : goal.loop-input-smaller
loop-input-smaller g c =
    let buf = c.read-got.new.buf in
    let may = answer-moved c.read-got.result buf c.read-got.ensures.bound in
    let some = rw c.in-Some.is at c.in_ok-next.was in
    let l = c.loop-input.invariant in
    (took-more l.taken (read_of (answer_of c.read-got.result) buf) may l.long (sym c.take.ensures ∙ some)).1

pub loop-input-preserved : goal.loop-input-preserved
loop-input-preserved g c =
    let buf = c.read-got.new.buf in
    let may = answer-moved c.read-got.result buf c.read-got.ensures.bound in
    let some = rw c.in-Some.is at c.in_ok-next.was in
    let l = c.loop-input.invariant in
    let more = took-more l.taken (read_of (answer_of c.read-got.result) buf) may l.long (sym c.take.ensures ∙ some) in
    record { long = more.2; taken = more.0 }
