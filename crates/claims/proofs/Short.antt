-- 02, request f. An update that compresses no block looks at no table: it gives the same with any, and none of their numbers. What the tables are
-- refused for as one piece is refused, number and place, in some call of every cut. And a finish and a whole message always look. Assumes nothing.
use mathlib.Core.Path.{◌≡◌, refl, sym, ap, ◌∙◌}
use mathlib.Core.Logic.Iff
use mathlib.Core.Logic.{◌⊎◌, inl, inr, ⊎_elim, ◌↔◌}
use mathlib.Core.Bool.{true}
use mathlib.Core.List.{List, [], ◌∷◌}
use Prim.Native.Nat.{ℕ, ◌+◌, ◌%◌, ◌≤◌, ◌<◌}
use native.Mathlib.Nat.{eq-zero-or-pos}
use native.Mathlib.Omega.{arith}
use borrow.Author.Tests.{eqb-true}
use lib.Dec.{eqb}
use lib.ListN.{length, length-append}
use Rattle.std.specs.Prelude.{Ok}
use Rattle.word.proofs.Tests.{one-true}
use Rattle.refusal.specs.Refusal.{number_of, one_of, Checked}
use Rattle.refusal.proofs.Chains.{refuses}
use Rattle.refusal.proofs.Numbers.{apart}
use Rattle.table.specs.Good.{GoodTable}
use Rattle.fips.specs.Fips.{most_bytes}
use Rattle.fips.specs.Tail.{tail_blocks}
use Rattle.flags.specs.Flags.{uses_masks}
use Rattle.flags.specs.declared.Flags.{Flags}
use Rattle.loan.specs.Loan.{Tables, Loan, lend, tables_refusal, loan_numbers, both_numbers, WellCounted, GoodTables}
use Rattle.loan.proofs.Loans.{loan-short, tables-good}
use Rattle.stream.proofs.Folded.{folded-none}
use Rattle.hasher.specs.Hasher.{taken, chain_of, fresh_of, UpdateAccount}
use Rattle.hasher.specs.declared.Hasher.{Hasher}
use Rattle.hasher.proofs.Formed.{formed}
use Rattle.absorb.specs.Absorb.{stream_of, absorbed}
use Rattle.absorb.proofs.Moves.{absorbed-is}
use Rattle.update.specs.Update.{blocks_filled, update_refusal, updated}
use Rattle.update.proofs.Absorbed.{flags-after, fill-after}
use Rattle.finish.specs.Finish.{outcome_refusal, outcome_number, finished, finished_reset}
use Rattle.one_shot.specs.Whole.{whole_of, digested}
use Rattle.in_place.specs.InPlace.{InPlace}
use Rattle.claims.specs.Refusals.{WellFormed, ByTables}
use Rattle.claims.specs.Sound.{Sized, Sound}
use Rattle.claims.specs.Pieces.{Piece, bytes_of, piecewise, taking, hashed, NoneRefused, Counted, InTurn}
use Rattle.claims.specs.Several.{RunInPlace}
use Rattle.claims.specs.Short.{Short, EndsAt}
use Rattle.claims.proofs.Formed.{well_formed_lem}
use Rattle.claims.proofs.Looked.{stream-few}
use Rattle.claims.proofs.Kept.{fresh-sound, pieces-flags, pieces-sound}
use Rattle.claims.proofs.Piecewise.{lent_with, absorbed_by, piecewise-nil, piecewise-cons, piecewise-next, Fitting, fitting-taken, fitting-next, fitting-taken-after, pieces-pass}
use Rattle.claims.proofs.Whole.{fill_is, tables-pass}
use Rattle.claims.proofs.Several.{run-in-place}
use Rattle.claims.proofs.Refusals.{without, update-0, update-6, update-7, update-only, update-tables, update-by-tables, update-refused, finish-0, finish-tables, finish-reset-0, whole-0, whole-by-tables, shot-0}

-- no mask is lent
none_lent : (masks : List ℕ) (n : ℕ) → n ≡ 0 → (length masks ≡ n) ↔ (masks ≡ [])
none_lent [] n z = (λ e. refl, λ e. sym z)
none_lent (m ∷ ms) n z = (λ e. absurd (omega arith), λ e. let k = ap length e in absurd (omega arith))

-- what a first fact gives need not be said beside it
given_first_lem : {A B C D : Type 0} → (A → B) → C ↔ D → (A × (B × C)) ↔ (A × D)
given_first_lem gives e = (λ k. (k.0, e.0 k.1.1), λ k. (k.0, (gives k.0, e.1 k.1)))

module _ (h : Hasher) (bytes : List ℕ) (short : Short h bytes) where
  -- what is refused, and the hasher after it
  short-refusal : (t u : Tables) (masks : List ℕ) → update_refusal h bytes (lend t masks) ≡ update_refusal h bytes (lend u masks)
  unfolding update_refusal
  short-refusal t u masks = rw (short, loan-short h.flags t u masks)

  short-absorbed : (l k : Loan) → absorbed h bytes l ≡ absorbed h bytes k
  short-absorbed l k =
      let few = stream-few h bytes in
      let below : length (stream_of h bytes) < 64 = omega arith in
      rw (absorbed-is h bytes l, absorbed-is h bytes k, folded-none h.flags l (chain_of h) (stream_of h bytes) below, folded-none h.flags k (chain_of h) (stream_of h bytes) below)

  -- A short update gives the same refusal and the same hasher with any vectors and any conditions.
  pub short-update : (t u : Tables) (masks : List ℕ) → updated h bytes (lend t masks) ≡ updated h bytes (lend u masks)
  unfolding updated
  short-update t u masks = rw (short-refusal t u masks, short-absorbed (lend t masks) (lend u masks))

  -- So does one in place.
  pub short-in-place : (t u : Tables) (masks : List ℕ) (r : Checked) (g : Hasher) → InPlace h bytes (lend t masks) r g → InPlace h bytes (lend u masks) r g
  short-in-place t u masks r g p = rw (short-update t u masks) at p

  -- the longest message has the largest block count and 63 bytes after it, so that there is room wherever no block gets full
  short-fits : WellFormed h → taken h + length bytes ≤ most_bytes
  short-fits w = let most = w.blocks-most in omega arith

  module _ (l : Loan) where
    -- It is refused by none of 2 to 5, 11, 12 and 13,
    pub short-unlooked : ByTables (updated h bytes l).refusal → ⊥
    short-unlooked o = let some = (update-by-tables h bytes l o).2 in omega arith

    -- nor by 7,
    pub short-7 : number_of (updated h bytes l).refusal ≡ 7 → ⊥
    short-7 e =
        let k = (update-7 h bytes l).0 e in
        let long = k.1 in
        let fits = short-fits k.0 in
        omega arith

    -- but by 1, then by 6, and by no other number.
    pub short-only : one_of (0 ∷ 1 ∷ 6 ∷ []) (number_of (updated h bytes l).refusal) ≡ true
    short-only =
        let n = number_of (updated h bytes l).refusal in
        without (0 ∷ 1 ∷ 6 ∷ []) (7 ∷ both_numbers) (0 ∷ 1 ∷ 7 ∷ loan_numbers) n refl (update-only h bytes l)
        (λ o. ⊎_elim (λ (e : eqb 7 n ≡ true). short-7 (sym (eqb-true 7 n e))) short-unlooked (one-true (eqb 7 n) _ o))

    -- With lent masks it must be lent none: it is taken exactly then,
    pub short-0 : (number_of (updated h bytes l).refusal ≡ 0) ↔ (WellFormed h × (uses_masks h.flags ≡ true → l.masks ≡ []))
    short-0 =
        let e = none_lent l.masks (blocks_filled h (length bytes)) short in
        Iff.trans (update-0 h bytes l)
        (given_first_lem short-fits (λ g u. e.0 (g.0 u), λ g. (λ u. e.1 (g u), λ some. absurd (omega arith))))

    -- and with a mask it gives 6.
    pub short-6 : (number_of (updated h bytes l).refusal ≡ 6) ↔ (WellFormed h × ((uses_masks h.flags ≡ true) × (l.masks ≡ [] → ⊥)))
    short-6 =
        let e = none_lent l.masks (blocks_filled h (length bytes)) short in
        Iff.trans (update-6 h bytes l)
        (given_first_lem short-fits (Iff.and Iff.rfl (λ n k. n (e.1 k), λ n k. n (e.0 k))))

-- the tables are refused with r, and all else that a run of updates looks at is right
record Bad (h : Hasher) (t : Tables) (ps : List Piece) (r : Checked) : Type 0 where
  sound : Sound h
  counts : uses_masks h.flags ≡ true → Counted h.fill ps
  fits : taken h + length (bytes_of ps) ≤ most_bytes
  bad : tables_refusal h.flags t ≡ r
  given : number_of r ≡ 0 → ⊥

module _ (h : Hasher) (t : Tables) (p : Piece) (ps : List Piece) (r : Checked) (b : Bad h t (p ∷ ps) r) where
  -- the first piece leaves the message short enough
  first_fits : taken h + length p.bytes ≤ most_bytes
  first_fits = let n = b.fits in omega (arith, length-append p.bytes (bytes_of ps))

  -- if it fills a block the run ends there
  ends-here : 1 ≤ blocks_filled h (length p.bytes) → EndsAt h t (p ∷ ps) r
  ends-here some =
      let e = update-tables h p.bytes (lent_with t p) ((well_formed_lem h).0 b.sound.well) first_fits some (λ u. (b.counts u).0) ∙ b.bad in
      let kept = update-refused h p.bytes (lent_with t p) (λ z. b.given (sym (ap number_of e) ∙ z)) in
      let below = (formed h b.sound.well).fill-le in
      record {
        front = [];
        piece = p;
        rest = ps;
        cut = refl;
        short = omega arith;
        all-taken = rw (piecewise-nil h t);
        refused = rw (piecewise-nil h t) e;
        ends = rw (piecewise-cons h t p ps, piecewise-nil h t, e, refuses r b.given, kept);
      }

  module _ (none : blocks_filled h (length p.bytes) ≡ 0) where
    -- else it is taken
    alone : Fitting h t (p ∷ [])
    alone = record { sound = b.sound; good = λ some. absurd (omega (arith, length-append p.bytes [])); counts = λ u. ((b.counts u).0, tt) }

    fill-next : (absorbed_by h t p).fill ≡ (h.fill + length p.bytes) % 64
    fill-next = fill-after h p.bytes (lent_with t p) b.sound.size.pending-size (formed h b.sound.well).fill-le

    bad-next : Bad (absorbed_by h t p) t ps r
    bad-next =
        let flags = flags-after h p.bytes (lent_with t p) in
        let n = b.fits in
        record {
          sound = (fitting-next h t p [] alone first_fits).sound;
          counts = λ u. rw fill-next (b.counts (sym (ap uses_masks flags) ∙ u)).1;
          fits = omega (arith, fitting-taken-after h t p [] alone first_fits, length-append p.bytes (bytes_of ps));
          bad = rw flags b.bad;
          given = b.given;
        }

    -- and the run ends where the rest of it does
    ends-later : EndsAt (absorbed_by h t p) t ps r → EndsAt h t (p ∷ ps) r
    ends-later k =
        let a = fitting-taken h t p [] alone first_fits in
        let next = piecewise-next h t p k.front a in
        let s = k.short in
        record {
          front = p ∷ k.front;
          piece = k.piece;
          rest = k.rest;
          cut = ap (λ (qs : List Piece). p ∷ qs) k.cut;
          short = omega (arith, fill-next, length-append p.bytes (bytes_of k.front));
          all-taken = rw next k.all-taken;
          refused = rw next k.refused;
          ends = rw next (piecewise-next h t p ps a ∙ k.ends);
        }

-- such a run ends, if a block is filled
bad-ends : (ps : List Piece) (h : Hasher) (t : Tables) (r : Checked) → Bad h t ps r → 1 ≤ blocks_filled h (length (bytes_of ps)) → EndsAt h t ps r
bad-ends [] h t r b some = let below = (formed h b.sound.well).fill-le in absurd (omega arith)
bad-ends (p ∷ ps) h t r b some =
    ⊎_elim
    (λ (none : blocks_filled h (length p.bytes) ≡ 0).
    ends-later h t p ps r b none (bad-ends ps _ t r (bad-next h t p ps r b none) (omega (arith, fill-next h t p ps r b none, length-append p.bytes (bytes_of ps)))))
    (λ (here : 0 < blocks_filled h (length p.bytes)). ends-here h t p ps r b here)
    (eq-zero-or-pos (blocks_filled h (length p.bytes)))

-- The cut of a refusal: what one update is refused with for its tables, number and place, is what a piece of every cut is refused with, the pieces
-- before it taken, with the same tables throughout and each block's mask in its turn, if they are looked at. Detection is on then: else no table is.
pub refused-cut : (h : Hasher) → Sized h → (t : Tables) (ps : List Piece) (masks : List ℕ) → (uses_masks h.flags ≡ true → Counted h.fill ps)
    → ByTables (updated h (bytes_of ps) (lend t masks)).refusal → EndsAt h t ps (updated h (bytes_of ps) (lend t masks)).refusal
refused-cut h size t ps masks counts o =
    let r = (updated h (bytes_of ps) (lend t masks)).refusal in
    let k = update-by-tables h (bytes_of ps) (lend t masks) o in
    let b : Bad h t ps r =
    record {
      sound = record { size = size; well = (well_formed_lem h).1 k.0 };
      counts = counts;
      fits = k.1;
      bad = sym k.3;
      given = λ z. apart both_numbers 0 (number_of r) o refl (sym z);
    }
    in
    bad-ends ps h t r b k.2

-- So it is in place: a run that ends leaves that refusal, and the hasher after the pieces before it.
pub ends-in-place : (h : Hasher) (t : Tables) (ps : List Piece) (r : Checked) (k : EndsAt h t ps r) (answer : Checked) (g : Hasher) → RunInPlace h t ps answer g
    → (answer ≡ r) × (g ≡ (piecewise h t k.front).hasher)
ends-in-place h t ps r k answer g run =
    let e = run-in-place ps h t answer g run in
    (e.1 ∙ ap (λ (u : UpdateAccount). u.refusal) k.ends, e.0 ∙ ap (λ (u : UpdateAccount). u.hasher) k.ends)

-- A finish always looks: with tables that are not good it is refused, whatever is pending or if nothing is,
pub bad-finish : (h : Hasher) (l : Loan) → (GoodTables h.flags l.tables → ⊥) → outcome_number (finished h l).outcome ≡ 0 → ⊥
bad-finish h l bad e = bad ((finish-0 h l).0 e).1.1

-- so is a finish-and-reset,
pub bad-finish-reset : (h : Hasher) (size : ℕ) (l : Loan) → (GoodTables h.flags l.tables → ⊥) → outcome_number (finished_reset h size l).outcome ≡ 0 → ⊥
bad-finish-reset h size l bad e = bad ((finish-reset-0 h size l).0 e).1.1.1

-- a whole message in one call, however short,
pub bad-whole : (f : Flags) (bytes : List ℕ) (l : Loan) → (GoodTables f l.tables → ⊥) → outcome_number (whole_of f bytes l).outcome ≡ 0 → ⊥
bad-whole f bytes l bad e = bad ((whole-0 f bytes l).0 e).1.1

-- and the one-shot form. Number and place: `finish-tables`, `finish-reset-tables`, `whole-tables` and `shot-gives` of Refusals.
pub bad-one-shot : (bytes : List ℕ) (l : Loan) → (GoodTable l.tables.vectors → ⊥) → outcome_number (digested bytes l).outcome ≡ 0 → ⊥
bad-one-shot bytes l bad e = bad ((shot-0 bytes l).0 e).1.1

module _ (f : Flags) (t : Tables) (ps : List Piece) (last : List ℕ) where
  -- So no message is hashed with such tables: a call of it is refused, however it is cut.
  pub bad-message : (GoodTables f t → ⊥) → NoneRefused f t ps last → ⊥
  bad-message bad ok = bad (tables-good f t (tables-pass f t ps last ok))

  -- What a message in one call is refused with for its tables, number and place, is what one of its calls is refused with under every cut, each block's
  -- mask in its turn, if they are looked at: the first update that compresses a block or, where none does, the finish, all updates taken.
  pub whole-refused-cut : (masks : List ℕ) → (uses_masks f ≡ true → InTurn ps last) → ByTables (outcome_refusal (whole_of f (bytes_of ps) (lend t masks)).outcome)
      → EndsAt (fresh_of f) t ps (outcome_refusal (whole_of f (bytes_of ps) (lend t masks)).outcome)
      ⊎ (((taking f t ps).refusal ≡ (Ok tt)) × (outcome_refusal (hashed f t ps last).outcome ≡ outcome_refusal (whole_of f (bytes_of ps) (lend t masks)).outcome))
  whole-refused-cut masks turn o =
      let r = outcome_refusal (whole_of f (bytes_of ps) (lend t masks)).outcome in
      let k = whole-by-tables f (bytes_of ps) (lend t masks) o in
      let fits = k.0 in
      let b : Bad (fresh_of f) t ps r =
      record {
        sound = fresh-sound f;
        counts = λ u. (turn u).updates;
        fits = omega arith;
        bad = sym k.1;
        given = λ z. apart both_numbers 0 (number_of r) o refl (sym z);
      }
      in
      ⊎_elim
      (λ (none : blocks_filled (fresh_of f) (length (bytes_of ps)) ≡ 0).
      let few : Fitting (fresh_of f) t ps = record { sound = fresh-sound f; good = λ some. absurd (omega arith); counts = λ u. (turn u).updates } in
      let e = pieces-pass ps (fresh_of f) t few (omega arith) in
      let flags = pieces-flags (fresh_of f) t ps in
      let g = (taking f t ps).hasher in
      let w = (well_formed_lem g).0 (pieces-sound (fresh_of f) t ps (fresh-sound f)).well in
      let c : WellCounted g.flags (lend t last) (tail_blocks g.fill) = λ u. rw (fill_is f t ps e) (turn (sym (ap uses_masks flags) ∙ u)).finish in
      inr (e, finish-tables g (lend t last) w c ∙ rw flags (sym k.1)))
      (λ (some : 0 < blocks_filled (fresh_of f) (length (bytes_of ps))). inl (bad-ends ps (fresh_of f) t r b some))
      (eq-zero-or-pos (blocks_filled (fresh_of f) (length (bytes_of ps))))
