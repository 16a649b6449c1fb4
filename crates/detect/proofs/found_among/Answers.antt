-- `detect::found_among` meets its contract. Assumes nothing.
use mathlib.Core.Path.{sym}
use Rattle.detect.proofs.Selection.{none-selected}
use Rattle.detect.proofs.found_among.Goals as goal

pub returns-then-selected-eq0 : goal.returns-then-selected-eq0
returns-then-selected-eq0 c = rw c.if-selected-eq0.true (sym (none-selected _ _ _ _))
