-- `line::line_of` meets its contract. Assumes nothing.
use mathlib.Core.Path.{◌≡◌, ◌∙◌}
use mathlib.Core.List.{[], ◌∷◌}
use Prim.Native.Nat.{◌≤◌}
use native.Mathlib.Omega.{arith}
use Rattle.line.specs.Line.{newline, reply_of, text_of, line_with}
use Rattle.line.proofs.Lines.{grown, failed-text}
use Rattle.line.proofs.line_of.Goals.{in-Ok, in-Err}
use Rattle.line.proofs.line_of.Goals as goal

pub returns : goal.returns
returns c =
    let a = reply_of c.args.reply in
    let text = text_of a.saying a.digest in
    let said : (c.match-reply.line ≡ line_with text) × (c.match-reply.line.len ≤ 50) =
    elim c.match-reply.branch [
      | in-Ok w ↦ (rw w.in-Ok.is (w.line-is ∙ w.put_said.ensures.text), rw w.line-is w.put_said.ensures.short)
      | in-Err w ↦ (rw (w.in-Err.is, failed-text w.in-Err.failure, ← w.number.ensures) (w.line-is ∙ w.put_refused.ensures.text), rw w.line-is w.put_refused.ensures.short)
    ] in
    grown text (newline ∷ []) said.0 c.put.ensures (let short = rw said.0 at said.1 in omega arith)
