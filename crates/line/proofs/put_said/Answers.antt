-- `line::put_said` meets its contract. Assumes nothing.
use mathlib.Core.Path.{◌≡◌}
use mathlib.Core.List.{[], ◌∷◌, ◌++◌}
use Prim.Native.Nat.{◌≤◌}
use native.Mathlib.Omega.{arith}
use borrow.Author.Rules.{rules}
use lib.ListN.{length, length-append}
use Rattle.line.specs.Line.{space, hex_of, verdict_text}
use Rattle.line.proofs.Digits.{hex_length}
use Rattle.line.proofs.Lines.{grown}
use Rattle.line.proofs.put_said.Goals as goal

pub returns-clause-text : goal.returns-clause-text
unfolding verdict_text
returns-clause-text c =
    let d = c.args.said.digest in
    let n : length c.args.said.digest ≡ 20 = search rules in
    let w = c.word.result.now in
    let word : length c.word.result.now ≤ 9 = search rules in
    let e = grown [] w c.requires c.put.ensures (omega arith) in
    let f = grown w (space ∷ []) e c.put-2.ensures (omega arith) in
    rw (← c.word.ensures)
    (grown (w ++ (space ∷ [])) (hex_of d) f c.put_hex.ensures (omega (arith, hex_length d, length-append w (space ∷ []))))

pub returns-clause-short : goal.returns-clause-short
returns-clause-short c =
    let d = c.args.said.digest in
    let n : length c.args.said.digest ≡ 20 = search rules in
    let word : length c.word.result.now ≤ 9 = search rules in
    rw (c.put_hex.ensures, c.put-2.ensures, c.put.ensures, c.requires) (omega (arith, hex_length d))
