-- Sums and differences modulo 2 ^ 32. Assumes nothing.
use Rattle.std.proofs.Common.{◌≡◌, ℕ, ◌+◌, ◌%◌, ◌^◌, ◌<◌, sym, refl, arith}
use Rattle.word.specs.Word.{◌⊞◌, ◌⊟◌}

-- the number that y added to wraps to x is the difference
pub sub_of : (r x y : ℕ) → r < 2 ^ 32 → y < 2 ^ 32 → (r + y) % 2 ^ 32 ≡ x → r ≡ x ⊟ y
unfolding ◌⊟◌
sub_of r x y hr hy e = omega arith

-- what was added is taken away again, in any place of a sum
pub sub-add : (x y : ℕ) → x < 2 ^ 32 → y < 2 ^ 32 → (x ⊞ y) ⊟ y ≡ x
sub-add x y hx hy = sym (sub_of x (x ⊞ y) y hx hy refl)

pub add-sub : (x y : ℕ) → x < 2 ^ 32 → y < 2 ^ 32 → (x ⊟ y) ⊞ y ≡ x
unfolding ◌⊟◌
add-sub x y hx hy = omega arith
