-- Request e, for every call: which block was marked first and which record marked it, by the marks, in demand 3's words in any mode, and with
-- what selects a record spelled out, in each of the three settings. Assumes nothing.
use mathlib.Core.Path.{◌≡◌, refl, sym, ap, ◌∙◌, subst}
use mathlib.Core.Bool.{true, false}
use mathlib.Core.List.{List, ◌∷◌}
use Prim.Native.Nat.{ℕ, ◌%◌}
use native.Mathlib.Nat.{zero-add}
use native.Mathlib.Omega.{arith}
use lib.ListN.{length}
use Rattle.std.specs.Prelude.{Ok}
use Rattle.word.specs.Lists.{AllBytes}
use Rattle.refusal.specs.Refusal.{Checked}
use Rattle.verdict.specs.Verdict.{digest_size}
use Rattle.fips.specs.Fips.{padding_for, padded, initial}
use Rattle.fips.proofs.Padded.{tail-is}
use Rattle.flags.specs.Flags.{defaults}
use Rattle.flags.specs.declared.Flags.{Flags}
use Rattle.loan.specs.Loan.{Tables, Loan, lend}
use Rattle.stream.specs.Fold.{nowhere, first_chain, folded}
use Rattle.stream.specs.declared.FirstMark.{FirstMark}
use Rattle.hasher.specs.Hasher.{well_formed, taken, chain_of, fresh_of, reset_of, UpdateAccount}
use Rattle.hasher.specs.declared.Hasher.{Hasher}
use Rattle.hasher.proofs.Formed.{formed}
use Rattle.absorb.specs.Absorb.{stream_of}
use Rattle.absorb.proofs.Moves.{absorbed-is}
use Rattle.update.specs.Update.{updated}
use Rattle.update.proofs.Taken.{update-taken, taken-update}
use Rattle.finish.specs.Finish.{last_chain, finish_refusal, finished, finished_reset}
use Rattle.finish.proofs.Finishing.{finish-finishing}
use Rattle.one_shot.specs.Whole.{whole_refusal, whole_chain, whole_of, digested, WholeAccount}
use Rattle.in_place.specs.InPlace.{InPlace}
use Rattle.claims.specs.Sound.{Sized, Typed, TypedVectors, TypedConditions, PassFor}
use Rattle.claims.specs.Pieces.{Piece, bytes_of, piece_masks, piecewise, taking, hashed, loan_of_all, NoneRefused}
use Rattle.claims.specs.Several.{RunInPlace}
use Rattle.claims.specs.EveryCall.{last_blocks}
use Rattle.claims.specs.First.{CallMarked, CallMet, CallSelected, MessageMarked, MessageMet, MessageSelected}
use Rattle.claims.proofs.After.{fold-kept}
use Rattle.claims.proofs.Along.{initial-words, padding_bytes_lem, padded-bytes}
use Rattle.claims.proofs.Typed.{own-words, stream-bytes, fresh-typed}
use Rattle.claims.proofs.Formed.{well_formed_lem, zeros-nowhere}
use Rattle.claims.proofs.Kept.{fresh-sound}
use Rattle.claims.proofs.Looked.{update-passes, finish-passes, whole-passes}
use Rattle.claims.proofs.Piecewise.{pieces-absorbed}
use Rattle.claims.proofs.Cut.{cut-joined}
use Rattle.claims.proofs.OneShot.{whole-taken, whole-agrees}
use Rattle.claims.proofs.Several.{reset-fresh, run-in-place}
use Rattle.claims.proofs.Least.{by-same, call_same, by_number}
use Rattle.claims.proofs.FirstAlong.{fold-told, same_met, same-selected}

-- A well-formed hasher without a mark has zeros.
pub unmarked-nowhere : (h : Hasher) → well_formed h ≡ true → h.mark ≡ false → h.first ≡ nowhere
unmarked-nowhere h well e =
    let w = (well_formed_lem h).0 well in
    zeros-nowhere h.first (w.block_none e) (w.place_none e)

-- the first mark after the blocks of a call on a well-formed hasher
pub call-told : (h : Hasher) (l : Loan) (xs : List ℕ) → well_formed h ≡ true → CallMarked h l xs (folded h.flags l (chain_of h) xs).first
call-told h l xs well =
    record { kept = fold-kept h.flags l (chain_of h) xs; told = λ e. fold-told h.flags l (chain_of h) xs e (unmarked-nowhere h well e) }

-- the same in demand 3's words, and with what selects a record spelled out
to-met : (h : Hasher) (l : Loan) (bytes : List ℕ) {first : FirstMark} → Typed h → TypedVectors l.tables → AllBytes bytes
    → PassFor h.flags l (stream_of h bytes) → CallMarked h l (stream_of h bytes) first → CallMet h l (stream_of h bytes) first
to-met h l bytes typed words b fine =
    call_same (same_met h.flags l _ (stream_of h bytes) (own-words h typed) (stream-bytes h typed bytes b) words fine)

to-selected : (h : Hasher) (l : Loan) (xs : List ℕ) {first : FirstMark} → TypedConditions l.tables → PassFor h.flags l xs
    → CallMet h l xs first → CallSelected h l xs first
to-selected h l xs conditions fine = call_same (same-selected h.flags l _ xs conditions fine)

module _ (h : Hasher) (l : Loan) where
  -- After an update that is not refused a hasher that was marked has its own numbers; else it has, exactly then, the number of the first marked
  -- block that the update fills and the place of the first selected record that marks it, and zeros where none is marked.
  pub update-told : (bytes : List ℕ) → (updated h bytes l).refusal ≡ (Ok tt) → CallMarked h l (stream_of h bytes) (updated h bytes l).hasher.first
  update-told bytes e =
      let a = update-taken h bytes l e in
      let m : (updated h bytes l).hasher.first ≡ (folded h.flags l (chain_of h) (stream_of h bytes)).first =
      ap (λ (u : UpdateAccount). u.hasher.first) (taken-update h bytes l a) ∙ ap (λ (g : Hasher). g.first) (absorbed-is h bytes l)
      in
      subst (CallMarked h l (stream_of h bytes)) (sym m) (call-told h l (stream_of h bytes) a.well)

  -- So has the hasher that an update in place leaves.
  pub in-place-told : (bytes : List ℕ) (r : Checked) (g : Hasher) → InPlace h bytes l r g → r ≡ (Ok tt) → CallMarked h l (stream_of h bytes) g.first
  in-place-told bytes r g p e =
      subst (λ (k : Hasher). CallMarked h l (stream_of h bytes) k.first) (sym p.0) (update-told bytes (sym p.1 ∙ e))

  -- the tables of an update, and of a finish, that is not refused
  update-fine : (bytes : List ℕ) → (updated h bytes l).refusal ≡ (Ok tt) → PassFor h.flags l (stream_of h bytes)
  update-fine bytes e = update-passes h bytes l (update-taken h bytes l e)

  finish-fine : (size : ℕ) → finish_refusal h size l ≡ (Ok tt) → PassFor h.flags l (last_blocks h)
  finish-fine size e some = finish-passes h size l e

  -- the first mark after the last blocks
  last-told : (size : ℕ) → finish_refusal h size l ≡ (Ok tt) → CallMarked h l (last_blocks h) (last_chain h l).first
  unfolding last_chain
  last-told size e =
      let a = finish-finishing h size l e in
      let below = (formed h a.well).fill-le in
      let n : h.fill ≡ taken h % 64 = omega arith in
      rw (tail-is h.pending h.fill (taken h) n) (call-told h l (last_blocks h) a.well)

  -- A finish that is not refused hands out a marked hasher's own numbers, and else those of the last blocks, which may be padding blocks.
  pub finish-told : finish_refusal h digest_size l ≡ (Ok tt) → CallMarked h l (last_blocks h) (finished h l).first
  unfolding finished
  finish-told e = rw e (last-told digest_size e)

  -- So does a finish-and-reset.
  pub finish-reset-told : (size : ℕ) → finish_refusal h size l ≡ (Ok tt) → CallMarked h l (last_blocks h) (finished_reset h size l).first
  unfolding finished_reset
  finish-reset-told size e = rw e (last-told size e)

  module _ (typed : Typed h) (words : TypedVectors l.tables) where
    -- The same in demand 3's words, in any mode: no earlier block of the call is met by a selected sibling, and no earlier selected record meets
    -- this one. For an update,
    pub update-told-met : (bytes : List ℕ) → AllBytes bytes → (updated h bytes l).refusal ≡ Ok tt
        → CallMet h l (stream_of h bytes) (updated h bytes l).hasher.first
    update-told-met bytes b e = to-met h l bytes typed words b (update-fine bytes e) (update-told bytes e)

    -- an update in place,
    pub in-place-told-met : (bytes : List ℕ) → AllBytes bytes → (r : Checked) (g : Hasher) → InPlace h bytes l r g → r ≡ Ok tt
        → CallMet h l (stream_of h bytes) g.first
    in-place-told-met bytes b r g p e =
        subst (λ (k : Hasher). CallMet h l (stream_of h bytes) k.first) (sym p.0) (update-told-met bytes b (sym p.1 ∙ e))

    -- a finish,
    pub finish-told-met : finish_refusal h digest_size l ≡ (Ok tt) → CallMet h l (last_blocks h) (finished h l).first
    finish-told-met e = to-met h l (padding_for (taken h)) typed words (padding_bytes_lem (taken h)) (finish-fine digest_size e) (finish-told e)

    -- and a finish-and-reset.
    pub finish-reset-told-met : (size : ℕ) → finish_refusal h size l ≡ (Ok tt) → CallMet h l (last_blocks h) (finished_reset h size l).first
    finish-reset-told-met size e =
        to-met h l (padding_for (taken h)) typed words (padding_bytes_lem (taken h)) (finish-fine size e) (finish-reset-told size e)

    module _ (conditions : TypedConditions l.tables) where
      -- And with what selects a record spelled out: its bit in the block's mask and, where conditions are looked at, each that names it holds.
      pub update-told-selected : (bytes : List ℕ) → AllBytes bytes → (updated h bytes l).refusal ≡ Ok tt
          → CallSelected h l (stream_of h bytes) (updated h bytes l).hasher.first
      update-told-selected bytes b e = to-selected h l (stream_of h bytes) conditions (update-fine bytes e) (update-told-met bytes b e)

      pub in-place-told-selected : (bytes : List ℕ) → AllBytes bytes → (r : Checked) (g : Hasher) → InPlace h bytes l r g → r ≡ Ok tt
          → CallSelected h l (stream_of h bytes) g.first
      in-place-told-selected bytes b r g p e =
          to-selected h l (stream_of h bytes) conditions (update-fine bytes (sym p.1 ∙ e)) (in-place-told-met bytes b r g p e)

      pub finish-told-selected : finish_refusal h digest_size l ≡ (Ok tt) → CallSelected h l (last_blocks h) (finished h l).first
      finish-told-selected e = to-selected h l (last_blocks h) conditions (finish-fine digest_size e) (finish-told-met e)

      pub finish-reset-told-selected : (size : ℕ) → finish_refusal h size l ≡ (Ok tt) → CallSelected h l (last_blocks h) (finished_reset h size l).first
      finish-reset-told-selected size e = to-selected h l (last_blocks h) conditions (finish-fine size e) (finish-reset-told-met size e)

-- After any run of updates, none refused, on any hasher: as after one update with everything joined.
module _ (h : Hasher) (size : Sized h) (well : well_formed h ≡ true) (t : Tables) (ps : List Piece) (ok : (piecewise h t ps).refusal ≡ (Ok tt)) where
  pub pieces-told : CallMarked h (lend t (piece_masks ps)) (stream_of h (bytes_of ps)) (piecewise h t ps).hasher.first
  pieces-told =
      let l = lend t (piece_masks ps) in
      let m : (piecewise h t ps).hasher.first ≡ (folded h.flags l (chain_of h) (stream_of h (bytes_of ps))).first =
      ap (λ (u : UpdateAccount). u.hasher.first) (pieces-absorbed ps h t size well ok) ∙ ap (λ (g : Hasher). g.first) (absorbed-is h (bytes_of ps) l)
      in
      subst (CallMarked h l (stream_of h (bytes_of ps))) (sym m) (call-told h l (stream_of h (bytes_of ps)) well)

-- what is said of the hasher after one update with everything joined is said of the one after the run
pub on-joined : (P : Hasher → Type 0) (h : Hasher) → Sized h → (t : Tables) (p : Piece) (ps : List Piece) → (piecewise h t (p ∷ ps)).refusal ≡ Ok tt
    → ((updated h (bytes_of (p ∷ ps)) (lend t (piece_masks (p ∷ ps)))).refusal ≡ (Ok tt) → P (updated h (bytes_of (p ∷ ps)) (lend t (piece_masks (p ∷ ps)))).hasher)
    → P (piecewise h t (p ∷ ps)).hasher
on-joined P h size t p ps ok by_one =
    let e = cut-joined h size t p ps ok in
    subst (λ (u : UpdateAccount). P u.hasher) (sym e) (by_one (ap (λ (u : UpdateAccount). u.refusal) (sym e) ∙ ok))

-- The same in demand 3's words, and with what selects a record spelled out.
module _ (h : Hasher) (size : Sized h) (typed : Typed h) (t : Tables) (words : TypedVectors t) (p : Piece) (ps : List Piece) (b : AllBytes (bytes_of (p ∷ ps)))
    (ok : (piecewise h t (p ∷ ps)).refusal ≡ (Ok tt)) where
  pub pieces-told-met : CallMet h (lend t (piece_masks (p ∷ ps))) (stream_of h (bytes_of (p ∷ ps))) (piecewise h t (p ∷ ps)).hasher.first
  pieces-told-met =
      on-joined (λ (g : Hasher). CallMet h (lend t (piece_masks (p ∷ ps))) (stream_of h (bytes_of (p ∷ ps))) g.first) h size t p ps ok
      (update-told-met h (lend t (piece_masks (p ∷ ps))) typed words (bytes_of (p ∷ ps)) b)

  pub pieces-told-selected : TypedConditions t → CallSelected h (lend t (piece_masks (p ∷ ps))) (stream_of h (bytes_of (p ∷ ps))) (piecewise h t (p ∷ ps)).hasher.first
  pieces-told-selected conditions =
      on-joined (λ (g : Hasher). CallSelected h (lend t (piece_masks (p ∷ ps))) (stream_of h (bytes_of (p ∷ ps))) g.first) h size t p ps ok
      (update-told-selected h (lend t (piece_masks (p ∷ ps))) typed words conditions (bytes_of (p ∷ ps)) b)

-- A run of updates from a new hasher: the number is that of the first marked block of the message, from 0.
pub taking-told : (f : Flags) (t : Tables) (ps : List Piece) → (taking f t ps).refusal ≡ Ok tt
    → MessageMarked f (lend t (piece_masks ps)) initial (bytes_of ps) (taking f t ps).hasher.first
taking-told f t ps ok = by_number zero-add ((pieces-told (fresh_of f) (fresh-sound f).size (fresh-sound f).well t ps ok).told refl)

module _ (f : Flags) (t : Tables) (words : TypedVectors t) (p : Piece) (ps : List Piece) (b : AllBytes (bytes_of (p ∷ ps))) (ok : (taking f t (p ∷ ps)).refusal ≡ (Ok tt)) where
  -- from a new hasher, in demand 3's words,
  pub taking-told-met : MessageMet f (lend t (piece_masks (p ∷ ps))) initial (bytes_of (p ∷ ps)) (taking f t (p ∷ ps)).hasher.first
  taking-told-met = by_number zero-add ((pieces-told-met (fresh_of f) (fresh-sound f).size (fresh-typed f) t words p ps b ok).told refl)

  -- and with what selects a record spelled out
  pub taking-told-selected : TypedConditions t → MessageSelected f (lend t (piece_masks (p ∷ ps))) initial (bytes_of (p ∷ ps)) (taking f t (p ∷ ps)).hasher.first
  taking-told-selected conditions =
      by_number zero-add ((pieces-told-selected (fresh_of f) (fresh-sound f).size (fresh-typed f) t words p ps b ok conditions).told refl)

-- So it is from a hasher that a reset that is not refused gave back: it is as a new one with its flags.
module _ (h : Hasher) (t : Tables) (e : (reset_of h).refusal ≡ (Ok tt)) where
  -- what is said of the hasher after updates from a new one is said of the one after updates from it
  on-reset : (P : Hasher → Type 0) (ps : List Piece) → ((taking h.flags t ps).refusal ≡ (Ok tt) → P (taking h.flags t ps).hasher)
      → (piecewise (reset_of h).hasher t ps).refusal ≡ (Ok tt) → P (piecewise (reset_of h).hasher t ps).hasher
  on-reset P ps from-new =
      subst (λ (g : Hasher). (piecewise g t ps).refusal ≡ (Ok tt) → P (piecewise g t ps).hasher) (sym (reset-fresh h e)) from-new

  pub reset-taking-told : (ps : List Piece) → (piecewise (reset_of h).hasher t ps).refusal ≡ Ok tt
      → MessageMarked h.flags (lend t (piece_masks ps)) initial (bytes_of ps) (piecewise (reset_of h).hasher t ps).hasher.first
  reset-taking-told ps =
      on-reset (λ (g : Hasher). MessageMarked h.flags (lend t (piece_masks ps)) initial (bytes_of ps) g.first) ps (taking-told h.flags t ps)

  module _ (words : TypedVectors t) (p : Piece) (ps : List Piece) (b : AllBytes (bytes_of (p ∷ ps))) where
    pub reset-taking-told-met : (piecewise (reset_of h).hasher t (p ∷ ps)).refusal ≡ Ok tt
        → MessageMet h.flags (lend t (piece_masks (p ∷ ps))) initial (bytes_of (p ∷ ps)) (piecewise (reset_of h).hasher t (p ∷ ps)).hasher.first
    reset-taking-told-met =
        on-reset (λ (g : Hasher). MessageMet h.flags (lend t (piece_masks (p ∷ ps))) initial (bytes_of (p ∷ ps)) g.first) (p ∷ ps)
        (taking-told-met h.flags t words p ps b)

    pub reset-taking-told-selected : TypedConditions t → (piecewise (reset_of h).hasher t (p ∷ ps)).refusal ≡ Ok tt
        → MessageSelected h.flags (lend t (piece_masks (p ∷ ps))) initial (bytes_of (p ∷ ps)) (piecewise (reset_of h).hasher t (p ∷ ps)).hasher.first
    reset-taking-told-selected conditions =
        on-reset (λ (g : Hasher). MessageSelected h.flags (lend t (piece_masks (p ∷ ps))) initial (bytes_of (p ∷ ps)) g.first) (p ∷ ps)
        (λ ok. taking-told-selected h.flags t words p ps b ok conditions)

-- And so it is where the updates of the run are in place.
module _ (f : Flags) (t : Tables) (r : Checked) (g : Hasher) (e : r ≡ (Ok tt)) where
  -- what is said of the hasher after the updates by value is said of the one that they leave in place
  on-run-in-place : (P : Hasher → Type 0) (ps : List Piece) → RunInPlace (fresh_of f) t ps r g
      → ((taking f t ps).refusal ≡ (Ok tt) → P (taking f t ps).hasher) → P g
  on-run-in-place P ps run by_value =
      let k = run-in-place ps (fresh_of f) t r g run in
      subst P (sym k.0) (by_value (sym k.1 ∙ e))

  pub run-in-place-told : (ps : List Piece) → RunInPlace (fresh_of f) t ps r g → MessageMarked f (lend t (piece_masks ps)) initial (bytes_of ps) g.first
  run-in-place-told ps run =
      on-run-in-place (λ (k : Hasher). MessageMarked f (lend t (piece_masks ps)) initial (bytes_of ps) k.first) ps run (taking-told f t ps)

  module _ (words : TypedVectors t) (p : Piece) (ps : List Piece) (b : AllBytes (bytes_of (p ∷ ps))) (run : RunInPlace (fresh_of f) t (p ∷ ps) r g) where
    pub run-in-place-told-met : MessageMet f (lend t (piece_masks (p ∷ ps))) initial (bytes_of (p ∷ ps)) g.first
    run-in-place-told-met =
        on-run-in-place (λ (k : Hasher). MessageMet f (lend t (piece_masks (p ∷ ps))) initial (bytes_of (p ∷ ps)) k.first) (p ∷ ps) run
        (taking-told-met f t words p ps b)

    pub run-in-place-told-selected : TypedConditions t → MessageSelected f (lend t (piece_masks (p ∷ ps))) initial (bytes_of (p ∷ ps)) g.first
    run-in-place-told-selected conditions =
        on-run-in-place (λ (k : Hasher). MessageSelected f (lend t (piece_masks (p ∷ ps))) initial (bytes_of (p ∷ ps)) k.first) (p ∷ ps) run
        (λ ok. taking-told-selected f t words p ps b ok conditions)

-- A whole message in one call: the first marked block, padding included.
module _ (f : Flags) (bytes : List ℕ) (l : Loan) (e : whole_refusal f (length bytes) l ≡ (Ok tt)) where
  pub whole-told : MessageMarked f l initial (padded bytes) (whole_of f bytes l).first
  unfolding whole_of whole_chain
  whole-told = rw e (by_number zero-add (fold-told f l first_chain (padded bytes) refl refl))

  whole-fine : PassFor f l (padded bytes)
  whole-fine some = whole-passes f (length bytes) l e

  module _ (b : AllBytes bytes) (words : TypedVectors l.tables) where
    pub whole-told-met : MessageMet f l initial (padded bytes) (whole_of f bytes l).first
    whole-told-met = by-same (same_met f l initial (padded bytes) initial-words (padded-bytes bytes b) words whole-fine) whole-told

    pub whole-told-selected : TypedConditions l.tables → MessageSelected f l initial (padded bytes) (whole_of f bytes l).first
    whole-told-selected conditions = by-same (same-selected f l initial (padded bytes) conditions whole-fine) whole-told-met

-- So does the one-shot form, with detection and mitigation on.
module _ (bytes : List ℕ) (l : Loan) (e : whole_refusal defaults (length bytes) l ≡ (Ok tt)) where
  pub one-shot-told : MessageMarked defaults l initial (padded bytes) (digested bytes l).first
  one-shot-told = whole-told defaults bytes l e

  module _ (b : AllBytes bytes) (words : TypedVectors l.tables) where
    pub one-shot-told-met : MessageMet defaults l initial (padded bytes) (digested bytes l).first
    one-shot-told-met = whole-told-met defaults bytes l e b words

    pub one-shot-told-selected : TypedConditions l.tables → MessageSelected defaults l initial (padded bytes) (digested bytes l).first
    one-shot-told-selected conditions = whole-told-selected defaults bytes l e b words conditions

-- So does a message under every cut, none of its calls refused.
module _ (f : Flags) (t : Tables) (ps : List Piece) (last : List ℕ) (ok : NoneRefused f t ps last) where
  -- the numbers are those of the message in one call, whatever the cut
  pub message-first : (whole_of f (bytes_of ps) (loan_of_all t ps last)).first ≡ (hashed f t ps last).first
  message-first = ap (λ (d : WholeAccount). d.first) (whole-agrees f t ps last ok)

  pub message-told : MessageMarked f (loan_of_all t ps last) initial (padded (bytes_of ps)) (hashed f t ps last).first
  message-told =
      subst (MessageMarked f (loan_of_all t ps last) initial (padded (bytes_of ps))) message-first
      (whole-told f (bytes_of ps) (loan_of_all t ps last) (whole-taken f t ps last ok))

  module _ (b : AllBytes (bytes_of ps)) (words : TypedVectors t) where
    pub message-told-met : MessageMet f (loan_of_all t ps last) initial (padded (bytes_of ps)) (hashed f t ps last).first
    message-told-met =
        subst (MessageMet f (loan_of_all t ps last) initial (padded (bytes_of ps))) message-first
        (whole-told-met f (bytes_of ps) (loan_of_all t ps last) (whole-taken f t ps last ok) b words)

    pub message-told-selected : TypedConditions t → MessageSelected f (loan_of_all t ps last) initial (padded (bytes_of ps)) (hashed f t ps last).first
    message-told-selected conditions =
        subst (MessageSelected f (loan_of_all t ps last) initial (padded (bytes_of ps))) message-first
        (whole-told-selected f (bytes_of ps) (loan_of_all t ps last) (whole-taken f t ps last ok) b words conditions)
