-- A choice between two values by a test. Every meaning that chooses does it with this.
use Rattle.std.specs.Prelude.{Bool, true, false}

-- the first value where the test is true, else the second
abbrev pub pick : {A : Type 0} → Bool → A → A → A
pick true x y = x
pick false x y = y
