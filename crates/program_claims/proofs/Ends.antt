-- What the program says of a message by where its reads end. Assumes nothing.
use mathlib.Core.Path.{◌≡◌, refl, sym, ap, ◌∙◌}
use mathlib.Core.Bool.{Bool, true, false, false≢true, true≢false}
use mathlib.Core.List.{List, [], ◌∷◌, ◌++◌}
use Prim.Native.Nat.{ℕ, min}
use native.Mathlib.Omega.{arith}
use borrow.Author.Tests.{eqb-true}
use lib.Dec.{eqb}
use lib.IntN.{ℤ, pos, negsuc}
use lib.ListN.{length}
use Rattle.std.specs.Prelude.{Ok, is_ok}
use Rattle.word.specs.Choice.{pick}
use Rattle.loan.specs.Loan.{tables_of, loan_of}
use Rattle.update.specs.Update.{updated}
use Rattle.hasher.specs.declared.Hasher.{Hasher}
use Rattle.claims.specs.Pieces.{Piece, piecewise}
use Rattle.claims.proofs.Piecewise.{piecewise-nil, piecewise-cons}
use Rattle.std.specs.Counts.{clamp_len}
use Rattle.reads.specs.Reads.{Moved, Read, below0, bytes_read, gave_none, Possible}
use Rattle.program.specs.Intakes.{message_end, intake_by, intake_of}
use Rattle.program_claims.specs.Ends.{calls, AllGave, Ends, Passed}
use Rattle.program.proofs.Intakes.{with-end, with-bytes, intake-nil, intake-cons}

-- reads that end at the first, which gave none
abbrev pub ends-here : (r : Read) (rs : List Read) → gave_none r ≡ true → Ends (r ∷ rs)
ends-here r rs e = record { before = []; last = r; after = rs; parts = refl; gave = tt; none = e }

-- reads that end so, with one that gave bytes in front
abbrev pub ends-after : (r : Read) {rs : List Read} → gave_none r ≡ false → Ends rs → Ends (r ∷ rs)
ends-after r e x =
    record {
      before = r ∷ x.before;
      last = x.last;
      after = x.after;
      parts = ap (λ (qs : List Read). r ∷ qs) x.parts;
      gave = (e, x.gave);
      none = x.none;
    }

-- where the last read did not fail, it answered 0
none-zero : (z : ℤ) (n : ℕ) → Moved n z → eqb (clamp_len z n) 0 ≡ true → below0 z ≡ false → z ≡ pos 0
none-zero (pos k) n m e f = let c = eqb-true (min k n) 0 e in ap pos (omega arith)
none-zero (negsuc k) n m e f = absurd (true≢false f)

possible-last : (before : List Read) (last : Read) (after : List Read) → Possible (before ++ (last ∷ after)) → Moved (length last.buffer) last.got
possible-last [] last after p = p.0
possible-last (r ∷ rs) last after p = possible-last rs last after p.1

pub end-zero : {reads : List Read} (e : Ends reads) → Possible reads → below0 e.last.got ≡ false → e.last.got ≡ pos 0
end-zero e p f =
    none-zero e.last.got (length e.last.buffer) (possible-last e.before e.last e.after (rw e.parts at p)) e.none f

module _ (table : List ℕ) where
  -- reads whose bytes are taken
  steps : (h : Hasher) (r : Read) (rs : List Read) → gave_none r ≡ false → is_ok (updated h (bytes_read r) (loan_of table [] [])).refusal ≡ true
      → intake_of h table (r ∷ rs) ≡ intake_of (updated h (bytes_read r) (loan_of table [] [])).hasher table rs
  steps h r rs e t = intake-cons h table r rs ∙ rw (with-bytes h table r e, t)

  stops_at : (h : Hasher) (r : Read) (rs : List Read) → gave_none r ≡ true → intake_of h table (r ∷ rs) ≡ message_end r.got h
  stops_at h r rs e = intake-cons h table r rs ∙ rw (with-end h table r e)

  refused-at : (h : Hasher) (r : Read) (rs : List Read) → gave_none r ≡ false → is_ok (updated h (bytes_read r) (loan_of table [] [])).refusal ≡ false
      → intake_of h table (r ∷ rs) ≡ intake_by (updated h (bytes_read r) (loan_of table [] []))
  refused-at h r rs e t = intake-cons h table r rs ∙ rw (with-bytes h table r e, t)

  -- a first update that is refused ends the updates
  first-passed : (b : Bool) (h : Hasher) (r : Read) (ps : List Piece) → is_ok (updated h (bytes_read r) (loan_of table [] [])).refusal ≡ b
      → (pick b (piecewise (updated h (bytes_read r) (loan_of table [] [])).hasher (tables_of table []) ps) (updated h (bytes_read r) (loan_of table [] []))).refusal ≡ (Ok tt) → b ≡ true
  first-passed true h r ps k e = refl
  first-passed false h r ps k e = absurd (false≢true (sym k ∙ ap is_ok e))

  -- what is taken in where the reads stop so
  stopped : (before : List Read) (last : Read) (after : List Read) (h : Hasher) → AllGave before → gave_none last ≡ true
      → (piecewise h (tables_of table []) (calls before)).refusal ≡ Ok tt
      → intake_of h table (before ++ (last ∷ after)) ≡ message_end last.got (piecewise h (tables_of table []) (calls before)).hasher
  stopped [] last after h g e p = stops_at h last after e ∙ rw (piecewise-nil h (tables_of table []))
  stopped (r ∷ rs) last after h g e p =
      let q : Piece = record { bytes = bytes_read r; masks = [] } in
      let t = first-passed _ h r (calls rs) refl (rw (piecewise-cons h (tables_of table []) q (calls rs)) at p) in
      let c : piecewise h (tables_of table []) (q ∷ calls rs) ≡ piecewise (updated h (bytes_read r) (loan_of table [] [])).hasher (tables_of table []) (calls rs) =
      piecewise-cons h (tables_of table []) q (calls rs) ∙ rw t
      in
      steps h r (rs ++ (last ∷ after)) g.0 t ∙ rw c (stopped rs last after _ g.1 e (rw c at p))

  pub intake-end-at : (h : Hasher) (reads : List Read) (e : Ends reads) → Passed h table e
      → intake_of h table reads ≡ message_end e.last.got (piecewise h (tables_of table []) (calls e.before)).hasher
  intake-end-at h reads e p = ap (intake_of h table) e.parts ∙ stopped e.before e.last e.after h e.gave e.none p

  -- reads that end so, with updates that took all
  pub record Stops (h : Hasher) (reads : List Read) : Type 0 where
    pub end : Ends reads
    pub passed : Passed h table end

  -- one read more, whose bytes are taken, in front of such
  in-front : (h : Hasher) (r : Read) (rs : List Read) → gave_none r ≡ false → is_ok (updated h (bytes_read r) (loan_of table [] [])).refusal ≡ true
      → Stops (updated h (bytes_read r) (loan_of table [] [])).hasher rs → Stops h (r ∷ rs)
  in-front h r rs e t s =
      record {
        end = ends-after r e s.end;
        passed = rw (piecewise-cons h (tables_of table []) (record { bytes = bytes_read r; masks = [] }) (calls s.end.before), t) s.passed;
      }

  -- where there is no more to read and nothing was refused, the reads stop so
  stop-by : (a b : Bool) (r : Read) (rs : List Read) (h : Hasher) → gave_none r ≡ a → is_ok (updated h (bytes_read r) (loan_of table [] [])).refusal ≡ b
      → ((g : Hasher) → (intake_of g table rs).more ≡ false → (intake_of g table rs).refusal ≡ (Ok tt) → Stops g rs)
      → (intake_of h table (r ∷ rs)).more ≡ false → (intake_of h table (r ∷ rs)).refusal ≡ (Ok tt) → Stops h (r ∷ rs)
  stop-by true b r rs h e t next m n =
      record { end = ends-here r rs e; passed = rw (piecewise-nil h (tables_of table [])) }
  stop-by false true r rs h e t next m n = let s = steps h r rs e t in in-front h r rs e t (next _ (rw s at m) (rw s at n))
  stop-by false false r rs h e t next m n = absurd (false≢true (sym t ∙ ap is_ok (rw (refused-at h r rs e t) at n)))

  pub stop : (reads : List Read) (h : Hasher) → (intake_of h table reads).more ≡ false → (intake_of h table reads).refusal ≡ (Ok tt) → Stops h reads
  stop [] h m n = absurd (true≢false (rw (intake-nil h table) at m))
  stop (r ∷ rs) h m n = stop-by _ _ r rs h refl refl (stop rs) m n
