-- `cases::field` meets its contract: the pieces that `split` gives are those of `slice_split`. Assumes nothing.
use Rattle.std.proofs.Common.{rules, ◌≡◌, List, ℕ, Bor, ap, Option, None, Some, eqb}
use Rattle.std.specs.Option.{option_map, unwrap_or}
use Rattle.std.proofs.lemmas.Iterator.Consumers.{nth_from_yields_List}
use Rattle.std.proofs.lemmas.Iterator.Splits.{YieldsList-from_slice_split}
use Rattle.cases.specs.Lines.{field_end, field_of}
use Rattle.cases.proofs.field.Goals as goal

now_or : (r : Option (Bor (List ℕ))) (d : Bor (List ℕ)) (o : Option (List ℕ)) → option_map (λ x. x.now) r ≡ o → (unwrap_or r d).now ≡ unwrap_or o d.now
now_or None d o e = ap (λ (q : Option (List ℕ)). unwrap_or q d.now) e
now_or (Some x) d o e = ap (λ (q : Option (List ℕ)). unwrap_or q d.now) e

pub returns : goal.returns
unfolding field_of
returns c =
    let pieces = YieldsList-from_slice_split _ (λ b. eqb b field_end) c.args.line.now (search rules) (search rules) (search rules) (λ x b q h. search rules) in
    rw c.unwrap_or.ensures (now_or c.nth.result _ _ (nth_from_yields_List c.nth.result _ c.args.i c.nth.ensures.ran pieces))
