-- Updates one after the other, where none is refused. Assumes nothing.
use mathlib.Core.Path.{◌≡◌, refl, sym, ap, ◌∙◌}
use mathlib.Core.Bool.{true}
use mathlib.Core.Logic.{⊎_elim}
use mathlib.Core.List.{List, [], ◌∷◌, ◌++◌, append-nil}
use Prim.Native.Nat.{ℕ, ◌+◌, ◌≤◌, ◌<◌}
use native.Mathlib.Nat.{eq-zero-or-pos}
use native.Mathlib.Omega.{arith}
use lib.ListN.{length, length-append}
use Rattle.std.specs.Prelude.{Ok, is_ok}
use Rattle.word.specs.Choice.{pick}
use Rattle.word.proofs.Tests.{of_either}
use Rattle.fips.specs.Fips.{most_bytes}
use Rattle.flags.specs.Flags.{uses_masks}
use Rattle.loan.specs.Loan.{Tables, Loan, lend, tables_refusal}
use Rattle.loan.proofs.Loans.{accepted-loan}
use Rattle.refusal.proofs.Passed.{of_refusal_lem}
use Rattle.hasher.specs.Hasher.{well_formed, taken, UpdateAccount}
use Rattle.hasher.specs.declared.Hasher.{Hasher}
use Rattle.hasher.proofs.Formed.{formed}
use Rattle.absorb.specs.Absorb.{absorbed}
use Rattle.update.specs.Update.{blocks_filled, updated}
use Rattle.absorb.proofs.Moves.{stream-long}
use Rattle.update.proofs.Taken.{Taken, update-taken, taken-update}
use Rattle.update.proofs.Absorbed.{flags-after, fill-after, taken-after, formed-after}
use Rattle.claims.specs.Sound.{Sized, Sound}
use Rattle.claims.specs.Pieces.{Piece, bytes_of, piece_masks, piecewise, Counted}
use Rattle.claims.proofs.Updates.{absorb-cut}
use Rattle.claims.proofs.After.{sized-after}
use Rattle.claims.proofs.Empty.{absorb-none}
use Rattle.claims.proofs.Looked.{taken-accepted}

pub piecewise-nil : (h : Hasher) (t : Tables) → piecewise h t [] ≡ record { refusal = (Ok tt); hasher = h }
unfolding piecewise
piecewise-nil h t = refl

-- what is lent with a piece
abbrev pub lent_with : Tables → Piece → Loan
lent_with t p = lend t p.masks

-- the update with a piece, and the hasher after it where it is not refused
abbrev pub updated_by : Hasher → Tables → Piece → UpdateAccount
updated_by h t p = updated h p.bytes (lent_with t p)

abbrev pub absorbed_by : Hasher → Tables → Piece → Hasher
absorbed_by h t p = absorbed h p.bytes (lent_with t p)

pub piecewise-cons : (h : Hasher) (t : Tables) (p : Piece) (ps : List Piece)
    → piecewise h t (p ∷ ps) ≡ pick (is_ok (updated_by h t p).refusal) (piecewise (updated_by h t p).hasher t ps) (updated_by h t p)
unfolding piecewise
piecewise-cons h t p ps = refl

module _ (h : Hasher) (t : Tables) (p : Piece) (ps : List Piece) where
  pub first_taken : (piecewise h t (p ∷ ps)).refusal ≡ (Ok tt) → Taken h p.bytes (lent_with t p)
  first_taken e =
      let u = updated_by h t p in
      update-taken h p.bytes (lent_with t p)
      (of_refusal_lem (λ (v : UpdateAccount). v.refusal ≡ (Ok tt) → u.refusal ≡ (Ok tt)) u.refusal (piecewise u.hasher t ps) u (λ k l. k) (λ k l. l)
      (rw (piecewise-cons h t p ps) at e))

  pub piecewise-next : Taken h p.bytes (lent_with t p) → piecewise h t (p ∷ ps) ≡ piecewise (absorbed_by h t p) t ps
  piecewise-next a = rw (piecewise-cons h t p ps, taken-update h p.bytes (lent_with t p) a)

-- two updates that are not refused, as one
taken-cut : (h : Hasher) (t : Tables) (d e ms ns : List ℕ) → length h.pending ≡ 64
    → Taken h d (lend t ms) → Taken (absorbed h d (lend t ms)) e (lend t ns) → Taken h (d ++ e) (lend t (ms ++ ns))
taken-cut h t d e ms ns long a b =
    let g = absorbed h d (lend t ms) in
    let below = (formed h a.well).fill-le in
    let n = taken-after h d (lend t ms) long a in
    let f = fill-after h d (lend t ms) long below in
    let flags = flags-after h d (lend t ms) in
    let first = taken-accepted h d (lend t ms) a in
    let second = taken-accepted g e (lend t ns) b in
    record {
      well = a.well;
      fits = let x = b.fits in omega (arith, length-append d e);
      loan =
          accepted-loan h.flags (lend t (ms ++ ns)) (blocks_filled h (length (d ++ e)))
          (record {
            counts = λ u.
                let x = first.counts u in
                let y = second.counts (ap uses_masks flags ∙ u) in
                omega (arith, length-append d e, length-append ms ns);
            good = λ some.
                ⊎_elim
                (λ (z : blocks_filled h (length d) ≡ 0). rw flags at (second.good (omega (arith, length-append d e))))
                (λ (z : 0 < blocks_filled h (length d)). first.good z)
                (eq-zero-or-pos (blocks_filled h (length d)));
          });
    }

pub pieces-taken : (p : Piece) (ps : List Piece) (h : Hasher) (t : Tables) → Sized h → (piecewise h t (p ∷ ps)).refusal ≡ Ok tt
    → Taken h (bytes_of (p ∷ ps)) (lend t (piece_masks (p ∷ ps)))
pieces-taken p [] h t size e = rw (append-nil p.bytes, append-nil p.masks) (first_taken h t p [] e)
pieces-taken p (q ∷ ps) h t size e =
    let a = first_taken h t p (q ∷ ps) e in
    let i = pieces-taken q ps _ t (sized-after h p.bytes (lent_with t p)) (rw (piecewise-next h t p (q ∷ ps) a) at e) in
    taken-cut h t p.bytes (bytes_of (q ∷ ps)) p.masks (piece_masks (q ∷ ps)) size.pending-size a i

pub pieces-absorbed : (ps : List Piece) (h : Hasher) (t : Tables) → Sized h → well_formed h ≡ true → (piecewise h t ps).refusal ≡ Ok tt
    → piecewise h t ps ≡ record { refusal = (Ok tt); hasher = absorbed h (bytes_of ps) (lend t (piece_masks ps)) }
pieces-absorbed [] h t size well e = rw (piecewise-nil h t, absorb-none h size well (lend t []))
pieces-absorbed (p ∷ ps) h t size well e =
    let a = first_taken h t p ps e in
    let n = piecewise-next h t p ps a in
    let l = stream-long h.pending p.bytes h.fill size.pending-size (formed h well).fill-le in
    let lent = taken-accepted h p.bytes (lent_with t p) a in
    n
    ∙ pieces-absorbed ps _ t (sized-after h p.bytes (lent_with t p)) (formed-after h p.bytes (lent_with t p) size.pending-size a) (rw n at e)
    ∙ rw (absorb-cut h t p.bytes (bytes_of ps) p.masks (piece_masks ps) (λ u. rw l (lent.counts u)))

-- pieces of which only the length can be refused: the hasher is sound, the tables are good if a block is filled, and there is a mask for each block
pub record Fitting (h : Hasher) (t : Tables) (ps : List Piece) : Type 0 where
  pub sound : Sound h
  pub good : 1 ≤ blocks_filled h (length (bytes_of ps)) → tables_refusal h.flags t ≡ Ok tt
  pub counts : uses_masks h.flags ≡ true → Counted h.fill ps

module _ (h : Hasher) (t : Tables) (p : Piece) (ps : List Piece) (r : Fitting h t (p ∷ ps)) (fits : taken h + length p.bytes ≤ most_bytes) where
  pub fitting-taken : Taken h p.bytes (lent_with t p)
  fitting-taken =
      let n = length-append p.bytes (bytes_of ps) in
      record {
        well = r.sound.well;
        fits = fits;
        loan =
            accepted-loan h.flags (lent_with t p) (blocks_filled h (length p.bytes))
            (record { counts = λ u. (r.counts u).0; good = λ some. r.good (omega arith) });
      }

  pub fitting-next : Fitting (absorbed_by h t p) t ps
  fitting-next =
      let d = p.bytes in
      let l = lent_with t p in
      let long = r.sound.size.pending-size in
      let f = flags-after h d l in
      let fill = fill-after h d l long (formed h r.sound.well).fill-le in
      record {
        sound = record { size = sized-after h d l; well = formed-after h d l long fitting-taken };
        good = λ some. rw f (r.good (omega (arith, fill, length-append d (bytes_of ps))));
        counts = λ u. rw fill (r.counts (sym (ap uses_masks f) ∙ u)).1;
      }

  pub fitting-taken-after : taken (absorbed_by h t p) ≡ taken h + length p.bytes
  fitting-taken-after = taken-after h p.bytes (lent_with t p) r.sound.size.pending-size fitting-taken

-- such pieces pass if the message is short enough
pub pieces-pass : (ps : List Piece) (h : Hasher) (t : Tables) → Fitting h t ps → taken h + length (bytes_of ps) ≤ most_bytes
    → (piecewise h t ps).refusal ≡ Ok tt
pieces-pass [] h t r fits = rw (piecewise-nil h t)
pieces-pass (p ∷ ps) h t r fits =
    let l = length-append p.bytes (bytes_of ps) in
    let g : taken h + length p.bytes ≤ most_bytes = omega arith in
    let n = fitting-taken-after h t p ps r g in
    rw (piecewise-next h t p ps (fitting-taken h t p ps r g)) (pieces-pass ps _ t (fitting-next h t p ps r g) (omega arith))

-- what every update keeps, updates one after the other keep
pub of-pieces : (P : Hasher → Type 0) → ((h : Hasher) → P h → (bytes : List ℕ) (l : Loan) → P (updated h bytes l).hasher)
    → (ps : List Piece) (h : Hasher) (t : Tables) → P h → P (piecewise h t ps).hasher
of-pieces P keeps [] h t p = rw (piecewise-nil h t) p
of-pieces P keeps (q ∷ ps) h t p =
    let u = updated_by h t q in
    let k = keeps h p q.bytes (lent_with t q) in
    rw (piecewise-cons h t q ps)
    (of_either (λ (v : UpdateAccount). P v.hasher) (is_ok u.refusal) _ u (of-pieces P keeps ps u.hasher t k) k)
