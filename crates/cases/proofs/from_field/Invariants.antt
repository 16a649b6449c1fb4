-- `cases::from_field` meets its contract. Assumes nothing.
use Rattle.std.proofs.Common.{◌≡◌}
use Rattle.cases.specs.Lines.{from_field}
use Rattle.cases.proofs.from_field.Given as goal

abbrev pub invariant-loop-passed : goal.invariant-loop-passed
invariant-loop-passed l = l.rest ≡ from_field l.line l.passed
