-- The test of a hasher's form, spelled out. Assumes nothing.
use mathlib.Core.Path.{◌≡◌, refl, sym, ap, ap₂, ◌∙◌}
use mathlib.Core.Logic.{◌↔◌}
use mathlib.Core.Bool.{Bool, true, false}
use mathlib.Core.List.{List, [], ◌∷◌}
use Prim.Native.Nat.{ℕ, zero, suc, ◌+◌, ◌-◌}
use native.Mathlib.Omega.{arith}
use borrow.Author.Tests.{le-leb, eqb-true, eq-eqb}
use lib.Dec.{eqb}
use lib.ListN.{get_or, drop}
use lib.Seq.{get_or-drop}
use Rattle.word.proofs.Tests.{both_true}
use Rattle.stream.specs.Fold.{nowhere, mark_fits}
use Rattle.stream.specs.declared.FirstMark.{FirstMark}
use Rattle.stream.proofs.MarkRight.{Made, fits-made, made-fits, fits-none, none-fits}
use Rattle.hasher.specs.Hasher.{all_zero, most_blocks, well_formed}
use Rattle.hasher.specs.declared.Hasher.{Hasher}
use Rattle.hasher.proofs.Formed.{formed}
use Rattle.claims.specs.Refusals.{WellFormed}

-- the test of zeros is passed exactly when each number is 0
zeros-at : (xs : List ℕ) → all_zero xs ≡ true → (i : ℕ) → get_or xs i 0 ≡ 0
unfolding all_zero
zeros-at [] e i = refl
zeros-at (x ∷ xs) e zero = eqb-true x 0 (both_true (eqb x 0) _ e).0
zeros-at (x ∷ xs) e (suc i) = zeros-at xs (both_true (eqb x 0) _ e).1 i

zeros-if : (xs : List ℕ) → ((i : ℕ) → get_or xs i 0 ≡ 0) → all_zero xs ≡ true
unfolding all_zero
zeros-if [] h = refl
zeros-if (x ∷ xs) h = rw (eq-eqb x 0 (h 0)) (zeros-if xs (λ i. h (suc i)))

-- the test of the mark with one, and without
fits-marked : (detect mark : Bool) (first : FirstMark) (blocks : ℕ) → mark_fits detect mark first blocks ≡ true → mark ≡ true → Made detect first blocks
fits-marked detect mark first blocks e m = fits-made detect first blocks (rw m at e)

fits-unmarked : (detect mark : Bool) (first : FirstMark) (blocks : ℕ) → mark_fits detect mark first blocks ≡ true → mark ≡ false → first ≡ nowhere
fits-unmarked detect mark first blocks e m = fits-none detect first blocks (rw m at e)

mark_fits_lem : (detect mark : Bool) (first : FirstMark) (blocks : ℕ) → (mark ≡ true → Made detect first blocks) → (mark ≡ false → first ≡ nowhere)
    → mark_fits detect mark first blocks ≡ true
mark_fits_lem detect true first blocks made none = made-fits detect first blocks (made refl)
mark_fits_lem detect false first blocks made none = rw (none refl) (none-fits detect blocks)

-- two zeros are nowhere
pub zeros-nowhere : (first : FirstMark) → first.block ≡ 0 → first.place ≡ 0 → first ≡ nowhere
zeros-nowhere first b p = ap₂ (λ (m n : ℕ). record { block = m; place = n }) b p

pub well_formed_lem : (h : Hasher) → (well_formed h ≡ true) ↔ WellFormed h
unfolding well_formed
well_formed_lem h = (
  λ e.
      let f = formed h e in
      record {
        fill-most = f.fill-le;
        blocks-most = f.blocks-le;
        zeros = λ i l.
            let k : h.fill + (i - h.fill) ≡ i = omega arith in
            ap (λ (j : ℕ). get_or h.pending j 0) (sym k) ∙ sym (get_or-drop h.fill h.pending (i - h.fill) 0)
            ∙ zeros-at (drop h.fill h.pending) f.zeros (i - h.fill);
        detects = λ m. (fits-marked h.flags.detect h.mark h.first h.blocks f.mark-fits m).detects;
        block-counted = λ m. (fits-marked h.flags.detect h.mark h.first h.blocks f.mark-fits m).counted;
        place_inside = λ m. (fits-marked h.flags.detect h.mark h.first h.blocks f.mark-fits m).placed;
        block_none = λ m. ap (λ (k : FirstMark). k.block) (fits-unmarked h.flags.detect h.mark h.first h.blocks f.mark-fits m);
        place_none = λ m. ap (λ (k : FirstMark). k.place) (fits-unmarked h.flags.detect h.mark h.first h.blocks f.mark-fits m);
      },
  λ w.
      rw (
        le-leb h.fill 63 w.fill-most,
        le-leb h.blocks most_blocks w.blocks-most,
        zeros-if (drop h.fill h.pending) (λ i. get_or-drop h.fill h.pending i 0 ∙ w.zeros (h.fill + i) (omega arith)),
        mark_fits_lem h.flags.detect h.mark h.first h.blocks
            (λ m. record { detects = w.detects m; counted = w.block-counted m; placed = w.place_inside m })
            (λ m. zeros-nowhere h.first (w.block_none m) (w.place_none m)),
      ),
)
