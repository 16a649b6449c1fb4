-- `cases::behind_space` meets its contract: the place that `position` finds is that of the first space. Assumes nothing.
use Rattle.std.proofs.Common.{rules, refl, ◌≡◌, ℕ, length, ◌+◌, ◌-◌, ◌≤◌, Bool, true, false, None, Some, eqb, drop, ap, sym, ◌∙◌}
use native.Mathlib.Omega.{arith}
use mathlib.Core.Bool.{cond}
use borrow.Author.Tests.{ltb-false}
use lib.Seq.{take_all}
use lib.ListN.{length-drop, drop_of_length-le}
use Rattle.std.specs.List.{position_or_len}
use Rattle.std.proofs.lemmas.Iterator.{YieldsList-from_slice}
use Rattle.std.proofs.lemmas.Iterator.Search.{position_from_yields_List}
use Rattle.cases.specs.Lines.{field_end}
use Rattle.cases.proofs.behind_space.Goals as goal

found_at : (b : Bool) (n at : ℕ) → Some at ≡ cond b (Some n) None → at ≡ n
found_at true n at e = search rules
found_at false n at e = absurd cc

none_found : (b : Bool) (n : ℕ) → None ≡ cond b (Some n) None → b ≡ false
none_found true n e = absurd cc
none_found false n e = refl

pub returns-in-Some : goal.returns-in-Some
returns-in-Some c =
    let line = c.args.line.now in
    let found = position_from_yields_List (λ b. eqb b field_end) c.position.new.self _ c.position.result c.position.ensures.ran (YieldsList-from_slice line (search rules)) (λ x b q h. search rules) in
    let place : c.in-Some.at ≡ position_or_len (λ b. eqb b field_end) line = found_at _ _ _ (sym c.in-Some.is ∙ found) in
    let short : length (drop (c.in-Some.at + 1) line) ≤ length line - (c.in-Some.at + 1) = omega (arith, length-drop (c.in-Some.at + 1) line) in
    take_all _ _ short ∙ ap (λ (n : ℕ). drop (n + 1) line) place

pub returns-in-None : goal.returns-in-None
returns-in-None c =
    let line = c.args.line.now in
    let found = position_from_yields_List (λ b. eqb b field_end) c.position.new.self _ c.position.result c.position.ensures.ran (YieldsList-from_slice line (search rules)) (λ x b q h. search rules) in
    let past = ltb-false _ _ (none_found _ _ (sym c.in-None.is ∙ found)) in
    sym (drop_of_length-le line (omega (arith, past)))
