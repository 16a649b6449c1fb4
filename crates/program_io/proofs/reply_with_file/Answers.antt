-- `program_io::reply_with_file` meets its contract. Assumes nothing.
use mathlib.Core.Path.{sym, ◌∙◌}
use borrow.Author.Rules.{rules}
use lib.Seq.{length-take-le}
use Rattle.program.proofs.Replies.{sound-fits, sound-replies, said-replies}
use Rattle.line.proofs.Passed.{passed_on}
use Rattle.program_io.proofs.reply_with_file.Goals as goal

pub returns-in_err-n : goal.returns-in_err-n
returns-in_err-n g c =
    rw (passed_on c.from_residual.result _ c.from_residual.ensures.1)
    (said-replies c.load-got.ensures (search rules) c.args.flags c.args.i (sym c.table_check.ensures ∙ c.in_err-n.was))

pub slice_bounds-reply_with_table-end : goal.slice_bounds-reply_with_table-end
slice_bounds-reply_with_table-end g c =
    sym (length-take-le c.in_ok-n.n c.load-got.new.bytes (sound-fits c.load-got.ensures c.in_ok-n.n (sym c.table_check.ensures ∙ c.in_ok-n.was)))

pub returns : goal.returns
returns g c =
    sound-replies c.load-got.ensures (search rules) c.args.flags c.args.i c.in_ok-n.n (sym c.table_check.ensures ∙ c.in_ok-n.was) c.reply_with_table.ensures
