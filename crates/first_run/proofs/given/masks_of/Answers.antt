-- `first_run::given::masks_of` meets its contract. Assumes nothing.
use Rattle.std.proofs.Common.{◌+◌, rules}
use Rattle.table_file.proofs.FromFn.{from-fn-is}
use Rattle.cases.specs.Numbers.{word_field}
use Rattle.first_run.proofs.given.masks_of.Goals as goal

pub returns : goal.returns
returns c = from-fn-is _ _ (λ k. word_field c.args.line.now (4 + k)) 8 (λ i y q h. search rules) (λ i y q h. search rules) c.from_fn.result c.from_fn.ensures.items
