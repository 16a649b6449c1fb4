-- `program_io::reply_with_table` meets its contract. Assumes nothing.
use mathlib.Core.Path.{sym}
use Prim.Native.Nat.{◌/◌}
use native.Mathlib.Omega.{arith}
use lib.ListN.{length}
use Rattle.octets.specs.Octets.{be32_at}
use Rattle.word.proofs.Fill.{list_length, list-take}
use Rattle.table_file.specs.File.{most_words}
use Rattle.program.proofs.Replies.{file-short}
use Rattle.program_io.proofs.reply_with_table.Goals as goal

pub slice_bounds-words-end : goal.slice_bounds-words-end
slice_bounds-words-end g c =
    let xs = c.args.bytes.now in
    rw c.file_words-words.ensures (omega (arith, list_length (be32_at xs) most_words, file-short xs c.requires))

pub slice_bounds-reply_to_message-end : goal.slice_bounds-reply_to_message-end
slice_bounds-reply_to_message-end g c =
    let xs = c.args.bytes.now in
    rw (c.file_words-words.ensures, list-take (be32_at xs) most_words (length xs / 4) (file-short xs c.requires)) (sym (list_length (be32_at xs) (length xs / 4)))

pub returns : goal.returns
returns g c =
    let xs = c.args.bytes.now in
    rw (c.file_words-words.ensures, list-take (be32_at xs) most_words (length xs / 4) (file-short xs c.requires)) at c.reply_to_message.ensures
