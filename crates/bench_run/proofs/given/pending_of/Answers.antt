-- `bench_run::given::pending_of` meets its contract. Assumes nothing.
use Rattle.std.proofs.Common.{rules}
use Rattle.table_file.proofs.FromFn.{from-fn-is}
use Rattle.bench_run.specs.Given.{byte_of}
use Rattle.bench_run.proofs.given.pending_of.Goals as goal

pub returns : goal.returns
returns c = from-fn-is _ _ (byte_of c.args.bytes.now) 64 (λ i y q h. search rules) (λ i y q h. search rules) c.from_fn.result c.from_fn.ensures.items
