-- `program_io::program_reply` meets its contract. Assumes nothing.
use mathlib.Core.List.{[]}
use Prim.Native.Nat.{ℕ}
use lib.IntN.{negsuc}
use Rattle.reads.specs.Files.{File}
use Rattle.program.proofs.Replies.{plan-replies, table-replies, said-at-once}
use Rattle.line.proofs.Passed.{passed_on}
use Rattle.program_io.proofs.program_reply.Goals as goal

-- no file was opened
abbrev none : ℕ → File
none i = record { fd = negsuc 0; reads = [] }

pub returns-in_err-plan : goal.returns-in_err-plan
returns-in_err-plan g c =
    rw (passed_on c.from_residual.result _ c.from_residual.ensures.1)
    (plan-replies (rw c.in_err-plan.was at c.arguments.ensures) none (said-at-once c.in_err-plan.field-0.0))

pub returns-in-Some : goal.returns-in-Some
returns-in-Some g c =
    let asks = rw c.in_ok-plan.was at c.arguments.ensures in
    let r = rw c.flags-flags.ensures at c.reply_with_file.ensures in
    table-replies asks r.files _ c.in-Some.is r.replies

pub returns-in-None : goal.returns-in-None
returns-in-None g c =
    let asks = rw c.in_ok-plan.was at c.arguments.ensures in
    let r = rw c.flags-flags.ensures at c.reply_to_message.ensures in
    table-replies asks none _ c.in-None.is r
