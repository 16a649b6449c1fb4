-- Demand 2, the end: a message of more than 2^61-1 bytes is refused. Assumes nothing.
use mathlib.Core.Path.{◌≡◌}
use mathlib.Core.Bool.{true}
use mathlib.Core.List.{List, [], ◌∷◌}
use mathlib.Core.Logic.{⊎_elim}
use Prim.Native.Nat.{ℕ, ◌+◌, ◌-◌, ◌≤◌, ◌<◌}
use native.Mathlib.Nat.{eq-zero-or-pos}
use native.Mathlib.Omega.{arith}
use borrow.Author.Tests.{lt-ltb}
use lib.ListN.{length, length-append}
use Rattle.std.specs.Prelude.{Err, Ok}
use Rattle.refusal.specs.declared.Refusal.TheVariants.{MessageLength}
use Rattle.fips.specs.Fips.{most_bytes}
use Rattle.flags.specs.Flags.{uses_masks}
use Rattle.flags.specs.declared.Flags.{Flags}
use Rattle.loan.specs.Loan.{Tables, Loan, tables_refusal}
use Rattle.hasher.specs.Hasher.{well_formed, taken, fresh_of}
use Rattle.hasher.specs.declared.Hasher.{Hasher}
use Rattle.hasher.proofs.Formed.{formed}
use Rattle.update.specs.Update.{update_refusal, updated}
use Rattle.claims.specs.Pieces.{Piece, bytes_of, piecewise, taking, Counted}
use Rattle.claims.proofs.Kept.{fresh-sound}
use Rattle.claims.proofs.Piecewise.{lent_with, piecewise-cons, piecewise-next, Fitting, fitting-taken, fitting-next, fitting-taken-after}
use Rattle.claims.proofs.Whole.{short-is}

-- An update that would pass 2^61-1 bytes is refused 7, and hands its hasher back.
pub long-update : (h : Hasher) (bytes : List ℕ) (l : Loan) → well_formed h ≡ true → most_bytes < taken h + length bytes
    → updated h bytes l ≡ record { refusal = (Err MessageLength); hasher = h }
unfolding updated update_refusal
long-update h bytes l well long = rw (well, lt-ltb most_bytes (taken h + length bytes) long)

-- pieces of which only the length can be refused
pieces-long : (ps : List Piece) (h : Hasher) (t : Tables) → Fitting h t ps → most_bytes < taken h + length (bytes_of ps)
    → (piecewise h t ps).refusal ≡ Err MessageLength
pieces-long [] h t r long = let a = formed h r.sound.well in absurd (omega arith)
pieces-long (p ∷ ps) h t r long =
    let over = taken h + length p.bytes - most_bytes in
    ⊎_elim
    (λ (z : over ≡ 0).
    let l = length-append p.bytes (bytes_of ps) in
    let g : taken h + length p.bytes ≤ most_bytes = omega arith in
    let n = fitting-taken-after h t p ps r g in
    rw (piecewise-next h t p ps (fitting-taken h t p ps r g)) (pieces-long ps _ t (fitting-next h t p ps r g) (omega arith)))
    (λ (z : 0 < over). rw (piecewise-cons h t p ps, long-update h p.bytes (lent_with t p) r.sound.well (omega arith)))
    (eq-zero-or-pos over)

-- A longer message is refused at some piece, however it is cut.
pub long-refused : (f : Flags) (t : Tables) (ps : List Piece) → most_bytes < length (bytes_of ps) → (taking f t ps).refusal ≡ (Ok tt) → ⊥
long-refused f t ps long e = let l = short-is f t ps e in omega arith

-- With good tables and each block's mask in its turn, where they are looked at, the number is 7.
pub long-message : (f : Flags) (t : Tables) (ps : List Piece) → tables_refusal f t ≡ (Ok tt) → (uses_masks f ≡ true → Counted 0 ps)
    → most_bytes < length (bytes_of ps) → (taking f t ps).refusal ≡ Err MessageLength
long-message f t ps good counts long =
    pieces-long ps (fresh_of f) t (record { sound = fresh-sound f; good = λ some. good; counts = counts }) (omega arith)
