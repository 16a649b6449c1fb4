-- `replay_line::hex::bytes_of` meets its contract. Assumes nothing.
use Rattle.std.proofs.Common.{rules}
use Rattle.table_file.specs.File.{most_file_bytes}
use Rattle.table_file.proofs.FromFn.{from-fn-is}
use Rattle.replay_line.specs.Hex.{byte_of}
use Rattle.replay_line.proofs.hex.bytes_of.Goals as goal

pub returns : goal.returns
returns c = from-fn-is _ _ (byte_of c.args.s.now) most_file_bytes (λ i y q h. search rules) (λ i y q h. search rules) c.from_fn.result c.from_fn.ensures.items
