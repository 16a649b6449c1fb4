-- `program_io::reply_to_message` meets its contract. Assumes nothing.
use Rattle.program.proofs.Replies.{said-is, took-in-replies}
use Rattle.line.proofs.Passed.{passed_on}
use Rattle.program_io.proofs.reply_to_message.Goals as goal

pub returns-in_err-hasher : goal.returns-in_err-hasher
returns-in_err-hasher g c =
    let t = took-in-replies (rw c.new.ensures at c.take_in.ensures) in
    rw (passed_on c.from_residual.result _ c.from_residual.ensures.1) (rw c.in_err-hasher.was at t)

pub returns : goal.returns
returns g c =
    let t = took-in-replies (rw c.new.ensures at c.take_in.ensures) in
    rw (c.said_of.ensures, said-is _) (rw c.in_ok-hasher.was at t)
