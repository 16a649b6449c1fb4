-- What a read may answer, by what is promised of it, and what the program makes of that. Assumes nothing.
use mathlib.Core.Path.{◌≡◌, refl, ap}
use mathlib.Core.Bool.{Bool, true, false}
use mathlib.Core.List.{List}
use Prim.Native.Nat.{ℕ, ◌<◌}
use native.Mathlib.Omega.{arith}
use borrow.Author.Tests.{eqb-false}
use lib.Dec.{eqb}
use lib.ListN.{length}
use Rattle.std.specs.Prelude.{Result, Ok, Err, Option, Some, None}
use Rattle.word.specs.Choice.{pick}
use Rattle.std.specs.Io.{ReadsAtMost}
use Rattle.reads.specs.Reads.{answer_of, Moved}
use Rattle.reads.specs.Files.{given}

pub answer-moved : {E : Type 0} (r : Result ℕ E) (xs : List ℕ) → ReadsAtMost r xs → Moved (length xs) (answer_of r)
answer-moved (Ok n) xs b = b.0
answer-moved (Err e) xs b = refl

-- a read that gave some bytes, by what the program makes of its answer
given-by : {E : Type 0} (b : Bool) (k n : ℕ) → eqb k 0 ≡ b → ◌≡◌ {A = Result (Option ℕ) E} (Ok (pick b None (Some k))) (Ok (Some n)) → (k ≡ n) × (0 < k)
given-by true k n z f = absurd cc
given-by false k n z f = (cc, let some = eqb-false k 0 z in omega arith)

pub given-some : {E : Type 0} (r : Result ℕ E) (n : ℕ) → given r ≡ Ok (Some n) → (r ≡ Ok n) × (0 < n)
given-some {E} (Ok k) n e =
    let p = given-by {E = E} (eqb k 0) k n refl e in
    (ap (λ (m : ℕ). Ok m) p.0, omega (arith, p.0, p.1))
given-some (Err x) n e = absurd cc
