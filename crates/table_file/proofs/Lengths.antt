-- A table file's number is 2 exactly when its length is not 1 to 32 times 328 bytes. Assumes nothing.
use mathlib.Core.Path.{◌≡◌, refl, ap, ◌∙◌, subst}
use mathlib.Core.Logic.Iff
use mathlib.Core.Logic.{◌↔◌, inl, inr, ⊎_elim, ⊎_map}
use mathlib.Core.Bool.{Bool, true, false}
use mathlib.Core.List.{List}
use Prim.Native.Nat.{ℕ, ◌*◌, ◌/◌, ◌%◌}
use native.Mathlib.Nat.{mul-mod_right}
use native.Mathlib.Omega.{arith}
use lib.Dec.{eqb}
use lib.ListN.{length}
use borrow.Author.Tests.{leb-false, eqb-true, eqb-false}
use Rattle.word.proofs.Tests.{both_true, one-false}
use Rattle.octets.specs.Octets.{be32_at}
use Rattle.word.proofs.Fill.{list_length}
use Rattle.refusal.specs.Refusal.{number_of}
use Rattle.table.specs.Limits.{record_words}
use Rattle.table.specs.Table.{table_fault}
use Rattle.table.specs.Good.{BadLength}
use Rattle.table.proofs.Faults.{is-2}
use Rattle.table_file.specs.File.{record_bytes, most_words, whole_words, table_of, BadBytes, file_fault}

-- whole words are whole records exactly when the bytes are
bytes-words : (n : ℕ) → n % 4 ≡ 0 → BadLength (n / 4) ↔ BadBytes n
bytes-words n w = (
  ⊎_map (λ z. omega arith) (⊎_map (λ l. omega arith) (λ r e.
      let q : n / 4 ≡ record_words * (n / record_bytes) = omega arith in
      r (ap (λ (k : ℕ). k % record_words) q ∙ mul-mod_right record_words (n / record_bytes)))),
  ⊎_map (λ z. omega arith) (⊎_map (λ l. omega arith) (λ r e.
      let q : n ≡ record_bytes * (n / 4 / record_words) = omega arith in
      r (ap (λ (k : ℕ). k % record_bytes) q ∙ mul-mod_right record_bytes (n / 4 / record_words)))),
)

-- no whole words are no whole records
no_words_lem : (n : ℕ) → whole_words n ≡ false → BadBytes n
no_words_lem n w =
    ⊎_elim (λ e. inr (inr (λ r. eqb-false (n % 4) 0 e (omega arith)))) (λ e. inr (inl (leb-false n (4 * most_words) e)))
    (one-false (eqb (n % 4) 0) _ w)

module _ (bytes : List ℕ) where
  of_words : whole_words (length bytes) ≡ true → (number_of (table_fault (table_of bytes)) ≡ 2) ↔ BadBytes (length bytes)
  of_words w =
      let e = (both_true (eqb (length bytes % 4) 0) _ w).0 in
      Iff.trans (subst (λ (k : ℕ). (number_of (table_fault (table_of bytes)) ≡ 2) ↔ BadLength k) (list_length (be32_at bytes) (length bytes / 4)) (is-2 (table_of bytes)))
      (bytes-words (length bytes) (eqb-true (length bytes % 4) 0 e))

  by : (b : Bool) → whole_words (length bytes) ≡ b → (number_of (file_fault bytes) ≡ 2) ↔ BadBytes (length bytes)
  unfolding file_fault
  by true w = rw w (of_words w)
  by false w = rw w (λ e. no_words_lem (length bytes) w, λ b. refl)

  pub file-2 : (number_of (file_fault bytes) ≡ 2) ↔ BadBytes (length bytes)
  file-2 = by _ refl
