-- The numbers that a lookup gives back, each exactly when 01 says: 8 for a barcode that is not 12 bytes, else 9 for a sheet whose
-- length is not a multiple of 32, else 0. Assumes nothing.
use mathlib.Core.Path.{◌≡◌, refl}
use mathlib.Core.Bool.{not}
use mathlib.Core.List.{List}
use mathlib.Core.Logic.{◌↔◌}
use Prim.Native.Nat.{ℕ, ◌%◌}
use native.Mathlib.Omega.{arith}
use lib.Dec.{eqb}
use lib.ListN.{length}
use Rattle.std.specs.Prelude.{Err, Ok}
use Rattle.refusal.specs.Refusal.{number_of}
use Rattle.refusal.specs.declared.Refusal.TheVariants.{Size, SheetLength}
use Rattle.refusal.proofs.Chains.{negated, equal, first-exactly, later-exactly, last-exactly, never}
use Rattle.sheet.specs.Sheet.{lookup_refusal}

module _ (s c : List ℕ) where
  pub eight-exactly : number_of (lookup_refusal s c) ≡ 8 ↔ (length c ≡ 12 → ⊥)
  unfolding lookup_refusal
  eight-exactly =
      first-exactly (negated (equal (length c) 12)) (Err Size) _ 8 refl
      (never (not (eqb (length s % 32) 0)) (Err SheetLength) (Ok tt) 8 (λ e. omega arith) (λ e. omega arith))

  pub nine-exactly : number_of (lookup_refusal s c) ≡ 9 ↔ (length c ≡ 12) × (length s % 32 ≡ 0 → ⊥)
  unfolding lookup_refusal
  nine-exactly =
      later-exactly (negated (equal (length c) 12)) (Err Size) _ 9 _ (λ e. omega arith)
      (first-exactly (negated (equal (length s % 32) 0)) (Err SheetLength) (Ok tt) 9 refl (λ e. omega arith))

  pub none-exactly : number_of (lookup_refusal s c) ≡ 0 ↔ (length c ≡ 12) × (length s % 32 ≡ 0)
  unfolding lookup_refusal
  none-exactly =
      later-exactly (negated (equal (length c) 12)) (Err Size) _ 0 _ (λ e. omega arith)
      (last-exactly (negated (equal (length s % 32) 0)) (Err SheetLength) (Ok tt) 0 (λ e. omega arith) refl)
