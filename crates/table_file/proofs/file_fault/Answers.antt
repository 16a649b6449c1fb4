-- `table_file::file_fault` meets its contract. Assumes nothing.
use mathlib.Core.Path.{sym, ◌∙◌}
use Prim.Native.Nat.{◌/◌}
use native.Mathlib.Omega.{arith}
use lib.ListN.{length}
use Rattle.octets.specs.Octets.{be32_at}
use Rattle.word.proofs.Fill.{list_length, list-take}
use Rattle.table_file.specs.File.{most_words, file_fault}
use Rattle.table_file.proofs.Short.{short}
use Rattle.table_file.proofs.file_fault.Goals as goal

pub returns-then-not-whole_words : goal.returns-then-not-whole_words
unfolding file_fault
returns-then-not-whole_words c = simp (sym c.whole_words.ensures ∙ c.if-not-whole_words.true)

pub slice_bounds-words-end : goal.slice_bounds-words-end
slice_bounds-words-end c =
    let n = length c.args.bytes.now in
    let w = short n (sym c.whole_words.ensures ∙ c.if-not-whole_words.false) in
    rw c.file_words-words.ensures (omega (arith, list_length (be32_at c.args.bytes.now) most_words))

pub slice_bounds-table_fault-end : goal.slice_bounds-table_fault-end
slice_bounds-table_fault-end c =
    let n = length c.args.bytes.now in
    let w = short n (sym c.whole_words.ensures ∙ c.if-not-whole_words.false) in
    rw (c.file_words-words.ensures, list-take (be32_at c.args.bytes.now) most_words (n / 4) w) (sym (list_length (be32_at c.args.bytes.now) (n / 4)))

pub returns : goal.returns
unfolding file_fault
returns c =
    let n = length c.args.bytes.now in
    let w = sym c.whole_words.ensures ∙ c.if-not-whole_words.false in
    rw (c.table_fault.ensures, c.file_words-words.ensures, list-take (be32_at c.args.bytes.now) most_words (n / 4) (short n w), w)
