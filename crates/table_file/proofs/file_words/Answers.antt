-- `table_file::file_words` meets its contract. Assumes nothing.
use borrow.Author.Rules.{rules}
use Rattle.octets.specs.Octets.{be32_at}
use Rattle.table_file.specs.File.{most_words}
use Rattle.table_file.proofs.FromFn.{from-fn-is}
use Rattle.table_file.proofs.file_words.Goals as goal

pub returns : goal.returns
returns c = from-fn-is _ _ (be32_at c.args.bytes.now) most_words (λ i y q h. search rules) (λ i y q h. search rules) c.from_fn.result c.from_fn.ensures.items
