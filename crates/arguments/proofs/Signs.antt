-- What it tests that an argument begins with `table=`. Assumes nothing.
use mathlib.Core.Path.{◌≡◌, refl, sym, ◌∙◌}
use mathlib.Core.Bool.{Bool, true, false}
use mathlib.Core.List.{List}
use mathlib.Core.Logic.{◌↔◌}
use Prim.Native.Nat.{ℕ}
use lib.Dec.{eqb}
use lib.Pointwise.{pointwise}
use lib.ListN.{take}
use Rattle.octets.specs.Octets.{same_bytes}
use Rattle.octets.proofs.Same.{pointwise_same, same-exactly}
use Rattle.arguments.specs.Arguments.{table_sign, names_table}

-- two tests of one fact agree
agree : {P Q : Type 0} (b c : Bool) → (b ≡ true) ↔ P → (c ≡ true) ↔ Q → P ↔ Q → b ≡ c
agree true c d e p = sym (e.1 (p.0 (d.0 refl)))
agree false true d e p = d.1 (p.1 (e.0 refl))
agree false false d e p = refl

pub names : (arg : List ℕ) → pointwise eqb table_sign (take 6 arg) ≡ names_table arg
names arg =
    pointwise_same table_sign (take 6 arg)
    ∙ agree (same_bytes table_sign (take 6 arg)) (names_table arg) (same-exactly table_sign (take 6 arg)) (same-exactly (take 6 arg) table_sign) (sym, sym)
