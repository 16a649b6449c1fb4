-- A line has one newline, at its end, and tells what was said. Assumes nothing.
use mathlib.Core.Path.{◌≡◌, refl, sym, ap, ap₂, ◌∙◌}
use mathlib.Core.Bool.{Bool, true, false, ◌&&◌}
use mathlib.Core.List.{List, [], ◌∷◌, ◌++◌}
use Prim.Native.Nat.{ℕ, ◌+◌, ◌-◌, ◌*◌, ◌/◌, ◌%◌, ◌≤◌, ◌<◌}
use native.Mathlib.Omega.{arith}
use borrow.Author.Tests.{lt-ltb, le-ltb, le-leb, ltb-true, ltb-false}
use lib.Dec.{ltb, leb, eqb}
use lib.ListN.{drop}
use Rattle.word.specs.Choice.{pick}
use Rattle.word.proofs.Tests.{of_either}
use Rattle.refusal.specs.Refusal.{number}
use Rattle.refusal.proofs.Small.{number_small}
use Rattle.std.specs.Prelude.{Err}
use Rattle.verdict.specs.declared.Verdict.{Verdict}
use Rattle.verdict.specs.declared.Verdict.TheVariants.{Ok, Mitigated, Collision}
use Rattle.line.specs.Line.{Saying, Verdict as Said, Refused, Unread, space, newline, hex_digit, hex_of, decimal_of, verdict_text, refused_text, text_of, line_of}

-- every byte is a space or above it, so none is a newline
abbrev pub printed : List ℕ → Bool
printed [] = true
printed (x ∷ xs) = leb space x && printed xs

hex-printed : (xs : List ℕ) → printed (hex_of xs) ≡ true
unfolding hex_of
hex-printed [] = refl
hex-printed (x ∷ xs) =
    let digit : (n : ℕ) → leb space (hex_digit n) ≡ true =
    λ n. of_either (λ (y : ℕ). leb space y ≡ true) (ltb n 10) _ _ (le-leb space (48 + n) (omega arith)) (le-leb space (97 + (n - 10)) (omega arith))
    in
    rw (digit (x / 16), digit (x % 16)) (hex-printed xs)

decimal-printed : (n : ℕ) → printed (decimal_of n) ≡ true
decimal-printed n =
    let above : (k : ℕ) → leb space (48 + k) ≡ true = λ k. le-leb space (48 + k) (omega arith) in
    of_either (λ (l : List ℕ). printed l ≡ true) (ltb n 10) _ _ (rw (above n)) (rw (above (n / 10), above (n % 10)))

-- the text before the newline has none
pub text-printed : (s : Saying) (d : List ℕ) → printed (text_of s d) ≡ true
unfolding verdict_text refused_text
text-printed (Said Ok) d = hex-printed d
text-printed (Said Mitigated) d = hex-printed d
text-printed (Said Collision) d = hex-printed d
text-printed (Refused r) d = decimal-printed (number r)
text-printed Unread d = refl

-- what a reader takes from a line: a verdict and a digest, or a number
pub data Told : Type 0 where
  verdict : Verdict → List ℕ → Told
  refused : ℕ → Told

abbrev pub told : Saying → List ℕ → Told
told (Said v) d = verdict v d
told (Refused r) d = refused (number r)
told Unread d = refused 16

-- what a hex digit stands for
abbrev value_of : ℕ → ℕ
value_of x = pick (ltb x 58) (x - 48) (x - 97 + 10)

-- the bytes of some hex digits, up to what does not make two
abbrev bytes_read : List ℕ → List ℕ
bytes_read [] = []
bytes_read (x ∷ []) = []
bytes_read (x ∷ y ∷ ys) = (16 * value_of x + value_of y) ∷ bytes_read ys

abbrev number_read : List ℕ → ℕ
number_read [] = 0
number_read (x ∷ []) = 0
number_read (x ∷ y ∷ []) = x - 48
number_read (x ∷ y ∷ z ∷ zs) = 10 * (x - 48) + (y - 48)

-- the first letter says which word it is
abbrev read : List ℕ → Told
read [] = refused 0
read (x ∷ xs) =
    pick (eqb x 0x6F) (verdict Ok (bytes_read (drop 2 xs)))
    (pick (eqb x 0x6D) (verdict Mitigated (bytes_read (drop 9 xs)))
    (pick (eqb x 0x63) (verdict Collision (bytes_read (drop 9 xs)))
    (refused (number_read (drop 7 xs)))))

digit-read : (n : ℕ) (b : Bool) → ltb n 10 ≡ b → value_of (pick b (48 + n) (97 + (n - 10))) ≡ n
digit-read n true e =
    let l : n < 10 = ltb-true n 10 e in
    rw (lt-ltb (48 + n) 58 (omega arith)) (omega arith)
digit-read n false e =
    let l : 10 ≤ n = ltb-false n 10 e in
    rw (le-ltb (97 + (n - 10)) 58 (omega arith)) (omega arith)

bytes_read_lem : (d : List ℕ) → bytes_read (hex_of d ++ (newline ∷ [])) ≡ d
unfolding hex_of
bytes_read_lem [] = refl
bytes_read_lem (x ∷ d) =
    let e : 16 * (x / 16) + x % 16 ≡ x = omega arith in
    ap₂ (λ (y : ℕ) (l : List ℕ). y ∷ l) (rw (digit-read (x / 16) _ refl, digit-read (x % 16) _ refl) e) (bytes_read_lem d)

-- a number of at most two digits
decimal-read : (n : ℕ) (b : Bool) → ltb n 10 ≡ b → n < 100
    → number_read (pick b ((48 + n) ∷ []) ((48 + n / 10) ∷ (48 + n % 10) ∷ []) ++ (newline ∷ [])) ≡ n
decimal-read n true e l = omega arith
decimal-read n false e l = omega arith

line_read : (s : Saying) (d : List ℕ) → read (line_of s d) ≡ told s d
unfolding verdict_text refused_text
line_read (Said Ok) d = ap (verdict Ok) (bytes_read_lem d)
line_read (Said Mitigated) d = ap (verdict Mitigated) (bytes_read_lem d)
line_read (Said Collision) d = ap (verdict Collision) (bytes_read_lem d)
line_read (Refused r) d = ap refused (decimal-read (number r) _ refl (number_small (Err r)))
line_read Unread d = refl

-- two equal lines tell the same
pub line-tells : (s t : Saying) (d e : List ℕ) → line_of s d ≡ line_of t e → told s d ≡ told t e
line-tells s t d e p = sym (line_read s d) ∙ ap read p ∙ line_read t e
