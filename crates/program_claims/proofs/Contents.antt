-- What is held to be a table file's contents is all of them, or more bytes than the program reads at most. Assumes nothing.
use mathlib.Core.Path.{◌≡◌, refl, sym, ap, ◌∙◌}
use mathlib.Core.Logic.{◌⊎◌, inl, inr, ⊎_map}
use mathlib.Core.Bool.{Bool, true, false, false≢true}
use mathlib.Core.List.{List, [], ◌∷◌, ◌++◌, append_assoc, append-nil}
use Prim.Native.Nat.{ℕ, ◌≤◌}
use borrow.Author.Tests.{ltb-false}
use lib.Dec.{ltb}
use lib.ListN.{length}
use Rattle.word.specs.Choice.{pick}
use Rattle.reads.specs.Reads.{Read, below0, bytes_read, gave_none}
use Rattle.reads.specs.Files.{File, Contents, holds, unreadable, unfinished, ended_by, filling, contents_of}
use Rattle.program_claims.specs.Ends.{message_of}
use Rattle.program_claims.specs.Grounds.{Rest}
use Rattle.program_claims.proofs.Ends.{ends-here, ends-after}

-- what a file holds, or the bytes otherwise given
abbrev held_or : List ℕ → Contents → List ℕ
held_or xs (holds file) = file
held_or xs unreadable = xs
held_or xs unfinished = xs

abbrev is_held : Contents → Bool
is_held (holds file) = true
is_held unreadable = false
is_held unfinished = false

module _ (most : ℕ) (file : List ℕ) where
  -- a read that gives no byte
  at-end : (f : Bool) (r : Read) (rs : List Read) (bytes : List ℕ) → below0 r.got ≡ f → gave_none r ≡ true → pick f unreadable (holds bytes) ≡ holds file
      → Rest bytes (r ∷ rs) file
  at-end true r rs bytes k e h = absurd (false≢true (ap is_held h))
  at-end false r rs bytes k e h =
      record {
        end = ends-here r rs e;
        unfailed = k;
        whole = sym (ap (held_or []) h) ∙ sym (append-nil bytes);
      }

  -- one that gives some
  in-front : (r : Read) (rs : List Read) (bytes : List ℕ) → gave_none r ≡ false → Rest (bytes ++ bytes_read r) rs file → Rest bytes (r ∷ rs) file
  in-front r rs bytes e x =
      record {
        end = ends-after r e x.end;
        unfailed = x.unfailed;
        whole = x.whole ∙ append_assoc bytes (bytes_read r) (message_of x.end.before);
      }

  full : (bytes : List ℕ) → ltb (length bytes) most ≡ false → holds bytes ≡ holds file → most ≤ length file
  full bytes e h = rw (ap (held_or []) h) at (ltb-false (length bytes) most e)

  turn : (room gave : Bool) (r : Read) (rs : List Read) (bytes : List ℕ) → ltb (length bytes) most ≡ room → gave_none r ≡ gave
      → (filling most (bytes ++ bytes_read r) rs ≡ holds file → Rest (bytes ++ bytes_read r) rs file ⊎ (most ≤ length file))
      → pick room (pick gave (ended_by r.got bytes) (filling most (bytes ++ bytes_read r) rs)) (holds bytes) ≡ holds file
      → Rest bytes (r ∷ rs) file ⊎ (most ≤ length file)
  turn true true r rs bytes k e next h = inl (at-end _ r rs bytes refl e h)
  turn true false r rs bytes k e next h = ⊎_map (in-front r rs bytes e) (λ l. l) (next h)
  turn false gave r rs bytes k e next h = inr (full bytes k h)

  none_left : (room : Bool) (bytes : List ℕ) → ltb (length bytes) most ≡ room → pick room unfinished (holds bytes) ≡ holds file → most ≤ length file
  none_left true bytes k h = absurd (false≢true (ap is_held h))
  none_left false bytes k h = full bytes k h

  rest : (reads : List Read) (bytes : List ℕ) → filling most bytes reads ≡ holds file → Rest bytes reads file ⊎ (most ≤ length file)
  unfolding filling
  rest [] bytes h = inr (none_left _ bytes refl h)
  rest (r ∷ rs) bytes h = turn _ _ r rs bytes refl refl (rest rs (bytes ++ bytes_read r)) h

  opened-by : (b : Bool) (f : File) → pick b unreadable (filling most [] f.reads) ≡ holds file → Rest [] f.reads file ⊎ (most ≤ length file)
  opened-by true f h = absurd (false≢true (ap is_held h))
  opened-by false f h = rest f.reads [] h

  -- A file holds the bytes of all its reads to its end, in order; or it has as many bytes as are read at most, which is one too many for a table.
  pub contents-whole : (f : File) → contents_of most f ≡ holds file → Rest [] f.reads file ⊎ (most ≤ length file)
  contents-whole f h = opened-by (below0 f.fd) f h
