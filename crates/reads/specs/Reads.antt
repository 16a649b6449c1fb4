-- What a read gives. No contract can say which bytes come, so all is said of what the reads answered.
use Rattle.std.specs.Prelude.{◌≡◌, Bool, true, false, List, [], ◌∷◌, ℕ, ◌≤◌, eqb, length, take, ℤ, pos, negsuc, Result, Ok, Err}
use Rattle.std.specs.Counts.{clamp_len}

-- what a read answered, as a number: how many bytes it gave, or -1 for an error
abbrev pub answer_of : {E : Type 0} → Result ℕ E → ℤ
answer_of (Ok n) = pos n
answer_of (Err e) = negsuc 0

-- what a read into a buffer of n bytes may answer: -1, or how many bytes it put there, at most n
abbrev pub Moved : ℕ → ℤ → Type 0
Moved n (pos k) = k ≤ n
Moved n (negsuc k) = k ≡ 0

-- what a read answered, and the buffer after it
pub record Read : Type 0 where
  pub got : ℤ
  pub buffer : List ℕ

-- the read of an answer and a buffer
abbrev pub read_of : ℤ → List ℕ → Read
read_of got buffer = record { got = got; buffer = buffer }

-- whether a read failed, or a file was not opened, by what was answered
abbrev pub below0 : ℤ → Bool
below0 (pos k) = false
below0 (negsuc k) = true

-- how many bytes a read gave
abbrev pub size_read : Read → ℕ
size_read r = clamp_len r.got (length r.buffer)

-- the bytes that it gave
abbrev pub bytes_read : Read → List ℕ
bytes_read r = take (size_read r) r.buffer

-- whether it gave none: then it failed, or there is no more
abbrev pub gave_none : Read → Bool
gave_none r = eqb (size_read r) 0

-- each of some reads answered what a read may: -1, or how many bytes it put into the buffer
abbrev pub Possible : List Read → Type 0
Possible [] = Unit
Possible (r ∷ rs) = Moved (length r.buffer) r.got × Possible rs
