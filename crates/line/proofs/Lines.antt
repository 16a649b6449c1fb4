-- A line that grows. Assumes nothing.
use mathlib.Core.Path.{◌≡◌, refl, sym, ap, ap₂, ◌∙◌}
use mathlib.Core.List.{List, [], ◌++◌}
use Prim.Native.Nat.{ℕ, ◌+◌, ◌-◌, ◌≤◌}
use native.Mathlib.Omega.{arith}
use lib.ListN.{length, take, drop, replicate, length-append, length-replicate, replicate-append-replicate}
use lib.Seq.{paste, take-append_seam, take-length, drop-append-add, drop_at}
use lib.Dec.{ltb, lit≤}
use Rattle.std.proofs.lemmas.List.Edits.{paste_none, paste-paste}
use Rattle.word.proofs.Tests.{of_either}
use Rattle.line.specs.Line.{decimal_of, refused_text, saying_of, failure_number, text_of, line_with, written}
use Rattle.line.specs.declared.Failure.{Failure}
use Rattle.line.specs.declared.Failure.TheVariants.{Refused, Unread}
use Rattle.line.specs.declared.Line.{Line}

zeros-left : (k n : ℕ) → k ≤ n → drop {A = ℕ} k (replicate n 0) ≡ replicate (n - k) 0
zeros-left k n h =
    let e : n ≡ k + (n - k) = omega arith in
    ap (λ (m : ℕ). drop {A = ℕ} k (replicate m 0)) e
    ∙ ap (λ (l : List ℕ). drop k l) (sym (replicate-append-replicate k (n - k) 0))
    ∙ drop_at (replicate k 0) (replicate (n - k) 0) k (length-replicate k 0)

-- the first bytes are those given
pub shown : (xs : List ℕ) → take (line_with xs).len (line_with xs).bytes ≡ xs
shown xs = take-append_seam xs (replicate (64 - length xs) 0)

-- more bytes after them
written-more : (xs s : List ℕ) → length xs + length s ≤ 64 → written (line_with xs) s ≡ line_with (xs ++ s)
written-more xs s h =
    let n = 64 - length xs in
    let e : n - length s ≡ 64 - length (xs ++ s) = omega (arith, length-append xs s) in
    rw (
      take-append_seam xs (replicate n 0),
      take-length s,
      drop-append-add xs (replicate n 0) (length s),
      zeros-left (length s) n (omega arith),
      e,
      ← length-append xs s,
    )

-- a line after a call that puts more bytes into it
pub grown : {l r : Line} (xs s : List ℕ) → l ≡ line_with xs → r ≡ written l s → length xs + length s ≤ 64 → r ≡ line_with (xs ++ s)
grown xs s e f h = f ∙ ap (λ (m : Line). written m s) e ∙ written-more xs s h

-- a line of some bytes and a count
abbrev of : List ℕ → ℕ → Line
of bytes len = record { bytes = bytes; len = len }

-- no bytes more
pub written-none : (l : Line) → written l [] ≡ l
written-none l = ap₂ of (sym (paste_none l.bytes l.len [])) (omega arith)

-- more bytes twice
pub written-twice : (l : Line) (s t : List ℕ) → l.len ≤ length l.bytes → written (written l s) t ≡ written l (s ++ t)
written-twice l s t h =
    let both = length-append s t in
    ap₂ of (paste-paste l.bytes l.len s t (length s) (length t) refl refl h ∙ ap (paste l.bytes l.len (s ++ t)) (sym both)) (omega (arith, both))

-- a number is written with at most two digits
pub decimal-short : (n : ℕ) → length (decimal_of n) ≤ 2
decimal-short n = of_either (λ (l : List ℕ). length l ≤ 2) (ltb n 10) _ _ (lit≤ tt) (lit≤ tt)

-- the text where there is no verdict is that of a number
pub failed-text : (f : Failure) (d : List ℕ) → text_of (saying_of f) d ≡ refused_text (failure_number f)
failed-text (Refused r) d = refl
failed-text Unread d = refl
