-- `line::put_hex` meets its contract. The invariant: the bytes so far have their digits, two for each. Assumes nothing.
use mathlib.Core.Path.{◌≡◌}
use Prim.Native.Nat.{◌+◌, ◌*◌}
use lib.ListN.{take}
use Rattle.line.specs.Line.{hex_of, written}
use Rattle.line.proofs.put_hex.Given as goal

abbrev pub invariant-loop-byte : goal.invariant-loop-byte
invariant-loop-byte l =
    record {
      digits : l.line ≡ written l.initial.line (hex_of (take l.byte-index l.fn.digest));
      long : l.line.len ≡ l.initial.line.len + 2 * l.byte-index;
    }
