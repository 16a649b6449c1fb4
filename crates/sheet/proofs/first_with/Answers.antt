-- `sheet::first_with` meets its contract. Assumes nothing.
use borrow.Author.Rules.{rules}
use Rattle.sheet.proofs.Places.{has_code, first-to-pass, found-by}
use Rattle.sheet.proofs.first_with.Goals as goal

pub returns : goal.returns
returns c =
    let s = c.args.sheet.now in
    let code = c.args.code.now in
    let runs = c.position.ensures.runs in
    found-by s code c.position.result
    (first-to-pass runs.0 _ _ s (has_code code) (λ a r h q. search rules) (λ x b q. search rules) (search rules) c.position.result runs.2)
