-- A table file can't be read exactly when it was not opened or a read of it failed before its end. Assumes nothing.
use mathlib.Core.Path.{◌≡◌, refl, ap, ◌∙◌}
use mathlib.Core.Logic.{◌↔◌}
use mathlib.Core.Bool.{Bool, true, false, false≢true}
use mathlib.Core.List.{List, [], ◌∷◌, ◌++◌, append_assoc, append-nil}
use Prim.Native.Nat.{ℕ, ◌+◌, ◌<◌}
use native.Mathlib.Omega.{arith}
use borrow.Author.Tests.{ltb-true, lt-ltb}
use lib.Dec.{ltb}
use lib.ListN.{length, length-append}
use Rattle.word.specs.Choice.{pick}
use Rattle.table_file.specs.File.{most_file_bytes}
use Rattle.reads.specs.Reads.{Read, below0, bytes_read, gave_none}
use Rattle.reads.specs.Files.{File, Contents, holds, unreadable, unfinished, ended_by, filling, contents_of}
use Rattle.program_claims.specs.Ends.{message_of, AllGave}
use Rattle.program_claims.specs.Sixteen.{ReadFails, FileUnread, unopened, unended}
use Rattle.program_claims.proofs.Ends.{ends-here, ends-after}

abbrev is_unread : Contents → Bool
is_unread (holds file) = false
is_unread unreadable = true
is_unread unfinished = false

module _ (most : ℕ) where
  -- a read that gives no byte
  at-end : (f : Bool) (r : Read) (rs : List Read) (bytes : List ℕ) → below0 r.got ≡ f → gave_none r ≡ true → length bytes < most
      → pick f unreadable (holds bytes) ≡ unreadable → ReadFails most bytes (r ∷ rs)
  at-end true r rs bytes k e l h =
      record { end = ends-here r rs e; failed = k; room = rw (append-nil bytes) l }
  at-end false r rs bytes k e l h = absurd (false≢true (ap is_unread h))

  -- one that gives some
  in-front : (r : Read) (rs : List Read) (bytes : List ℕ) → gave_none r ≡ false → ReadFails most (bytes ++ bytes_read r) rs → ReadFails most bytes (r ∷ rs)
  in-front r rs bytes e x =
      record {
        end = ends-after r e x.end;
        failed = x.failed;
        room = rw (append_assoc bytes (bytes_read r) (message_of x.end.before)) at x.room;
      }

  turn : (room gave : Bool) (r : Read) (rs : List Read) (bytes : List ℕ) → ltb (length bytes) most ≡ room → gave_none r ≡ gave
      → (filling most (bytes ++ bytes_read r) rs ≡ unreadable → ReadFails most (bytes ++ bytes_read r) rs)
      → pick room (pick gave (ended_by r.got bytes) (filling most (bytes ++ bytes_read r) rs)) (holds bytes) ≡ unreadable
      → ReadFails most bytes (r ∷ rs)
  turn true true r rs bytes k e next h = at-end _ r rs bytes refl e (ltb-true (length bytes) most k) h
  turn true false r rs bytes k e next h = in-front r rs bytes e (next h)
  turn false gave r rs bytes k e next h = absurd (false≢true (ap is_unread h))

  none_left : (room : Bool) (bytes : List ℕ) → pick room unfinished (holds bytes) ≡ unreadable → ⊥
  none_left true bytes h = false≢true (ap is_unread h)
  none_left false bytes h = false≢true (ap is_unread h)

  fails-only : (reads : List Read) (bytes : List ℕ) → filling most bytes reads ≡ unreadable → ReadFails most bytes reads
  unfolding filling
  fails-only [] bytes h = absurd (none_left (ltb (length bytes) most) bytes h)
  fails-only (r ∷ rs) bytes h = turn _ _ r rs bytes refl refl (fails-only rs (bytes ++ bytes_read r)) h

  stops-unread : (before : List Read) (last : Read) (after : List Read) (bytes : List ℕ) → AllGave before → gave_none last ≡ true → below0 last.got ≡ true
      → length (bytes ++ message_of before) < most → filling most bytes (before ++ (last ∷ after)) ≡ unreadable
  unfolding filling
  stops-unread [] last after bytes g e f l = rw (lt-ltb (length bytes) most (rw (append-nil bytes) at l), e, f)
  stops-unread (r ∷ rs) last after bytes g e f l =
      let room : length bytes < most = omega (arith, length-append bytes (message_of (r ∷ rs))) in
      rw (lt-ltb (length bytes) most room, g.0)
      (stops-unread rs last after (bytes ++ bytes_read r) g.1 e f (rw (append_assoc bytes (bytes_read r) (message_of rs)) l))

  fails-always : {bytes : List ℕ} (reads : List Read) → ReadFails most bytes reads → filling most bytes reads ≡ unreadable
  fails-always {bytes} reads x =
      let y = x.end in
      ap (filling most bytes) y.parts ∙ stops-unread y.before y.last y.after bytes y.gave y.none x.failed x.room

unread-by : (b : Bool) (f : File) → below0 f.fd ≡ b → pick b unreadable (filling (most_file_bytes + 1) [] f.reads) ≡ unreadable → FileUnread f
unread-by true f k h = unopened k
unread-by false f k h = unended k (fails-only (most_file_bytes + 1) f.reads [] h)

unread-only : (f : File) → contents_of (most_file_bytes + 1) f ≡ unreadable → FileUnread f
unread-only f h = unread-by (below0 f.fd) f refl h

unread-always : (f : File) → FileUnread f → contents_of (most_file_bytes + 1) f ≡ unreadable
unread-always f (unopened k) = rw k
unread-always f (unended k x) = rw k (fails-always (most_file_bytes + 1) f.reads x)

-- A table file can't be read exactly when it could not be opened, or a read of it failed before its end.
pub unread-exactly : (f : File) → (contents_of (most_file_bytes + 1) f ≡ unreadable) ↔ FileUnread f
unread-exactly f = (unread-only f, unread-always f)
