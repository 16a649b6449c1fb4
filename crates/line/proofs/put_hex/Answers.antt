use mathlib.Core.Path.{◌≡◌, sym, ap, ◌∙◌}
use mathlib.Core.List.{List, [], ◌∷◌}
use Prim.Native.Nat.{ℕ, ◌≤◌, ◌/◌, ◌%◌}
use native.Mathlib.Omega.{arith}
use borrow.Author.Rules.{rules}
use lib.ListN.{length, get_or, take}
use Rattle.line.specs.Line.{hex_digit, hex_of, written}
use Rattle.line.specs.declared.Line.{Line}
use Rattle.line.proofs.Digits.{hex_none, hex_more}
use Rattle.line.proofs.Lines.{written-none, written-twice}
use Rattle.line.proofs.put_hex.Goals as goal

pub loop-byte-init : goal.loop-byte-init
loop-byte-init c = record { digits = rw hex_none (sym (written-none c.args.line.now)); long = omega arith }

pub loop-byte-preserved : goal.loop-byte-preserved
loop-byte-preserved c =
    let d = c.args.digest in
    let i = c.loop-byte.byte-index in
    let n : length c.args.digest ≡ 20 = search rules in
    let fits : c.args.line.now.len ≤ length c.args.line.now.bytes = search rules in
    let pair : List ℕ = hex_digit (get_or d i 0 / 16) ∷ hex_digit (get_or d i 0 % 16) ∷ [] in
    let put : c.put.new.line ≡ written c.loop-byte.line pair = rw (← c.hex_digit-in-loop-byte.ensures, ← c.hex_digit.ensures) c.put.ensures in
    record {
      digits =
          put
          ∙ ap (λ (l : Line). written l pair) c.loop-byte.invariant.digits
          ∙ written-twice c.args.line.now (hex_of (take i d)) pair fits
          ∙ ap (written c.args.line.now) (sym (hex_more d i (omega arith)));
      long = rw put (omega (arith, c.loop-byte.invariant.long));
    }
