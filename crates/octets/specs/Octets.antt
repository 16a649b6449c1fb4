-- Bytes, as numbers below 256, and numbers made of them, the high byte first: FIPS 180-4, section 3.1.
use Rattle.std.specs.Prelude.{Bool, true, false, ◌&&◌, List, [], ◌∷◌, ℕ, ◌+◌, ◌*◌, ◌/◌, ◌%◌, ◌^◌, eqb, get_or}

-- whether two lists have the same bytes
unfoldable pub same_bytes : List ℕ → List ℕ → Bool
same_bytes [] [] = true
same_bytes [] (y ∷ ys) = false
same_bytes (x ∷ xs) [] = false
same_bytes (x ∷ xs) (y ∷ ys) = eqb x y && same_bytes xs ys

-- four bytes as a word
abbrev pub be32 : ℕ → ℕ → ℕ → ℕ → ℕ
be32 p q r s = p * 2 ^ 24 + q * 2 ^ 16 + r * 2 ^ 8 + s

-- word i of a list of bytes; past its end the bytes count as 0
abbrev pub be32_at : List ℕ → ℕ → ℕ
be32_at bytes i =
    be32 (get_or bytes (4 * i) 0) (get_or bytes (4 * i + 1) 0) (get_or bytes (4 * i + 2) 0) (get_or bytes (4 * i + 3) 0)

-- a word in four bytes
abbrev pub bytes32 : ℕ → List ℕ
bytes32 x = x / 2 ^ 24 % 256 ∷ x / 2 ^ 16 % 256 ∷ x / 2 ^ 8 % 256 ∷ x % 256 ∷ []

-- a number below 2 ^ 64 in eight bytes
unfoldable pub bytes64 : ℕ → List ℕ
bytes64 x =
    x / 2 ^ 56 % 256 ∷ x / 2 ^ 48 % 256 ∷ x / 2 ^ 40 % 256 ∷ x / 2 ^ 32 % 256 ∷ x / 2 ^ 24 % 256 ∷ x / 2 ^ 16 % 256 ∷ x / 2 ^ 8 % 256 ∷ x % 256 ∷ []
