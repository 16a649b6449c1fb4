-- `line::put_refused` meets its contract. Assumes nothing.
use mathlib.Core.List.{[], ◌∷◌, ◌++◌}
use native.Mathlib.Omega.{arith}
use Rattle.line.specs.Line.{space, decimal_of, refused_sign, refused_text}
use Rattle.line.proofs.Lines.{grown, decimal-short}
use Rattle.line.proofs.put_refused.Goals as goal

pub returns-clause-text : goal.returns-clause-text
unfolding refused_text
returns-clause-text c =
    let n = c.args.n in
    let sign = refused_sign ++ (space ∷ []) in
    let e = grown [] sign c.requires.empty c.put.ensures (omega arith) in
    grown sign (decimal_of n) e c.put_decimal.ensures (omega (arith, decimal-short n))
