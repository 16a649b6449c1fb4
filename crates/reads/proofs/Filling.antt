-- The reads of a file, one after the other. Assumes nothing.
use mathlib.Core.Path.{◌≡◌, refl, sym, ap, ◌∙◌}
use mathlib.Core.Bool.{true, false}
use mathlib.Core.List.{List, [], ◌∷◌, ◌++◌, append_assoc, append-nil}
use Prim.Native.Nat.{ℕ, ◌+◌, ◌-◌, ◌≤◌, ◌<◌, zero-le}
use native.Mathlib.Omega.{arith}
use borrow.Author.Tests.{lt-ltb, le-ltb, eq-eqb, ne_eqb}
use lib.ListN.{length, take, drop, length-drop}
use lib.Seq.{length-take-le, take-add}
use lib.IntN.{pos, negsuc}
use Rattle.reads.specs.Reads.{Read, read_of, size_read, bytes_read, gave_none}
use Rattle.reads.specs.Files.{holds, ended_by, filling, Fills}
use Rattle.std.specs.Prelude.{Ok, Err}

-- what the reads so far gave
pub record FilledSoFar (most : ℕ) (bytes : List ℕ) : Type 0 where
  pub reads : List Read
  pub then : (rs : List Read) → filling most [] (reads ++ rs) ≡ filling most bytes rs

pub none_filled : (most : ℕ) → FilledSoFar most []
none_filled most = record { reads = []; then = λ rs. refl }

module _ {most : ℕ} {bytes : List ℕ} (s : FilledSoFar most bytes) where
  -- the buffer is full
  pub full : most ≤ length bytes → filling most [] s.reads ≡ holds bytes
  unfolding filling
  full l = ap (filling most []) (sym (append-nil s.reads)) ∙ s.then [] ∙ rw (le-ltb (length bytes) most l)

  module _ (room : length bytes < most) (r : Read) where
    -- a read that gives no byte
    pub ended : gave_none r ≡ true → filling most [] (s.reads ++ (r ∷ [])) ≡ ended_by r.got bytes
    unfolding filling
    ended e = s.then (r ∷ []) ∙ rw (lt-ltb (length bytes) most room, e)

    -- one that gives some
    pub gave-more : gave_none r ≡ false → FilledSoFar most (bytes ++ bytes_read r)
    unfolding filling
    gave-more e =
        record {
          reads = s.reads ++ (r ∷ []);
          then = λ rs. ap (filling most []) (append_assoc s.reads (r ∷ []) rs) ∙ s.then (r ∷ rs) ∙ rw (lt-ltb (length bytes) most room, e);
        }

-- the bytes so far are the first of the buffer
module _ (most done : ℕ) (buffer : List ℕ) (s : FilledSoFar most (take done buffer)) (long : length buffer ≡ most) (within : done ≤ length buffer) where
  so-many : length (take done buffer) ≡ done
  so-many = length-take-le done buffer within

  module _ {E : Type 0} where
    pub fills-all : most ≤ done → Fills {E = E} buffer (Ok done)
    fills-all l = record { fits = within; reads = s.reads; filled = sym (rw long (full s (rw so-many l))) }

    -- a read that gives no byte, and one that fails
    pub fills-end : done < most → (after : List ℕ) → Fills {E = E} buffer (Ok done)
    fills-end room after =
        let r = read_of (pos 0) after in
        let none : gave_none r ≡ true = eq-eqb (size_read r) 0 (omega arith) in
        record { fits = within; reads = s.reads ++ (r ∷ []); filled = sym (rw long (ended s (rw so-many room) r none)) }

    pub fills-failed : done < most → (after : List ℕ) (e : E) → Fills {E = E} buffer (Err e)
    fills-failed room after e =
        let r = read_of (negsuc 0) after in
        record { fits = zero-le; reads = s.reads ++ (r ∷ []); filled = sym (rw long (ended s (rw so-many room) r refl)) }

  -- one that gives n bytes, which lie where they belong
  pub fills-more : done < most → (n : ℕ) → 0 < n → n ≤ length buffer - done → FilledSoFar most (take (done + n) buffer)
  fills-more room n some l =
      let after = drop done buffer in
      let r = read_of (pos n) after in
      let size : size_read r ≡ n = omega (arith, length-drop done buffer) in
      let none : gave_none r ≡ false = ne_eqb (size_read r) 0 (λ e. omega arith) in
      let b : bytes_read r ≡ take n after = rw size in
      rw (take-add done n buffer, ← b) (gave-more s (rw so-many room) r none)
