-- Lists made from a function, of words and of bytes.
use Rattle.std.specs.Prelude.{ℕ, zero, suc, ◌^◌, ◌<◌, List, [], ◌∷◌, ◌++◌, bit_xor, slice_index}

-- the values of f at 0 to n - 1
unfoldable pub list_of : (ℕ → ℕ) → ℕ → List ℕ
list_of f zero = []
list_of f (suc n) = list_of f n ++ (f n ∷ [])

-- the first n words of two lists, `xor` word by word
abbrev pub xor_words : ℕ → List ℕ → List ℕ → List ℕ
xor_words n x y = list_of (λ t. bit_xor (slice_index x t) (slice_index y t)) n

-- every element is below n
abbrev pub AllBelow : ℕ → List ℕ → Type 0
AllBelow n xs = (i : ℕ) → slice_index xs i < n

-- every element is a word
abbrev pub AllWords : List ℕ → Type 0
AllWords = AllBelow (2 ^ 32)

-- every element is a byte
abbrev pub AllBytes : List ℕ → Type 0
AllBytes = AllBelow 256
