-- A file of whole words that is not too long has no more of them than the longest table. Assumes nothing.
use mathlib.Core.Path.{◌≡◌}
use mathlib.Core.Bool.{true}
use Prim.Native.Nat.{ℕ, ◌*◌, ◌/◌, ◌%◌, ◌≤◌}
use native.Mathlib.Omega.{arith}
use lib.Dec.{eqb}
use borrow.Author.Tests.{leb-true}
use Rattle.word.proofs.Tests.{both_true}
use Rattle.table_file.specs.File.{most_words, whole_words}

pub short : (n : ℕ) → whole_words n ≡ true → n / 4 ≤ most_words
short n h =
    let l : n ≤ 4 * most_words = leb-true n (4 * most_words) (both_true (eqb (n % 4) 0) _ h).1 in
    omega arith
