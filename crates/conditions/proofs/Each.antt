-- The conditions of a table, as the parts of it that a loop goes over. Assumes nothing.
use mathlib.Core.Path.{◌≡◌, sym, ap, ap₂, ◌∙◌}
use mathlib.Core.List.{List, []}
use Prim.Native.Nat.{ℕ, zero, suc, ◌+◌, ◌-◌, ◌*◌, ◌≤◌, ◌<◌}
use native.Mathlib.Numerals.{add-one}
use native.Mathlib.Omega.{arith}
use lib.Bits.{bit_or}
use lib.ListN.{length, get_or, take, drop}
use Rattle.std.specs.Simd.{first_chunks}
use Rattle.std.proofs.lemmas.List.{get_or-take, get_or-drop, take_rest, length-take, length-drop}
use Rattle.std.proofs.lemmas.List.Sums.{fold_more, fold-append}
use Rattle.std.proofs.Math.Seq.{take-add}
use Rattle.table.proofs.Chunks.{chunk_is}
use Rattle.conditions.specs.Limits.{condition_words}
use Rattle.conditions.specs.Conditions.{conditions_in, clearing_at, holds_at, dropped_at, dropped_of, dropped_with, fits_at}
use Rattle.conditions.specs.Good.{Fits, Same, GoodConditions}
use Rattle.conditions.proofs.Dropped.{dropped-none, dropped-more}
use Rattle.conditions.proofs.Survive.{holds_same}

module _ (conditions : List ℕ) (chunks : List (List ℕ)) (k : ℕ) (each : chunks ≡ first_chunks condition_words (conditions_in (length conditions)) conditions) (inside : k < conditions_in (length conditions)) where
  word_is : (j : ℕ) → j < condition_words → get_or (get_or chunks k []) j 0 ≡ get_or conditions (condition_words * k + j) 0
  word_is j h =
      ap (λ (x : List (List ℕ)). get_or (get_or x k []) j 0) each
      ∙ ap (λ (x : List ℕ). get_or x j 0) (chunk_is condition_words (conditions_in (length conditions)) k conditions [] inside)
      ∙ get_or-take condition_words (drop (condition_words * k) conditions) j 0 h
      ∙ get_or-drop (condition_words * k) conditions j 0

  -- part k is a table of one condition, condition k
  pub same_is : Same conditions k (get_or chunks k []) 0
  same_is =
      let e : condition_words * k + 0 ≡ condition_words * k = omega arith in
      record {
        first_word = word_is 0 (omega arith) ∙ ap (λ (j : ℕ). get_or conditions j 0) e;
        first_bit = word_is 1 (omega arith);
        second_word = word_is 2 (omega arith);
        second-bit = word_is 3 (omega arith);
        wanted = word_is 4 (omega arith);
        clearing = word_is 5 (omega arith);
      }

-- the same condition passes the same test, fits alike, and drops the same vectors
module _ (conditions : List ℕ) (k : ℕ) (others : List ℕ) (j : ℕ) (s : Same conditions k others j) where
  pub fits_same : fits_at others j ≡ fits_at conditions k
  fits_same = rw (s.first_word, s.first_bit, s.second_word, s.second-bit, s.wanted)

  pub fit_same : Fits conditions k → Fits others j
  fit_same f =
      record {
        first_word = rw s.first_word f.first_word;
        first_bit = rw s.first_bit f.first_bit;
        second_word = rw s.second_word f.second_word;
        second-bit = rw s.second-bit f.second-bit;
        wanted = rw s.wanted f.wanted;
      }

  pub dropped_same : (w : List ℕ) → dropped_at w others j ≡ dropped_at w conditions k
  dropped_same w = rw (holds_same w conditions others k j s, s.clearing)

-- All of them: what they drop together, and that they fit.
module _ (w conditions : List ℕ) (chunks : List (List ℕ)) (each : chunks ≡ first_chunks condition_words (conditions_in (length conditions)) conditions) (count : length chunks ≡ conditions_in (length conditions)) where
  pub dropped_are : (k : ℕ) → k ≤ conditions_in (length conditions) → dropped_with w 0 (take k chunks) ≡ dropped_of w conditions k
  dropped_are zero h = sym (dropped-none (holds_at w conditions) (clearing_at conditions))
  dropped_are (suc k) h =
      let l : k < length chunks = omega arith in
      let e = dropped_same conditions k (get_or chunks k []) 0 (same_is conditions chunks k each (omega arith)) w in
      rw (← (add-one k)) (fold_more (λ (d : ℕ) (c : List ℕ). bit_or d (dropped_at w c 0)) 0 chunks k [] l
      ∙ ap₂ bit_or (dropped_are k (omega arith)) e ∙ sym (dropped-more (holds_at w conditions) (clearing_at conditions) k))

  -- with one more group of n
  pub dropped_next : (k n : ℕ) → k + n ≤ conditions_in (length conditions) → dropped_with w (dropped_of w conditions k) (take n (drop k chunks)) ≡ dropped_of w conditions (k + n)
  dropped_next k n h =
      ap (λ (d : ℕ). dropped_with w d (take n (drop k chunks))) (sym (dropped_are k (omega arith)))
      ∙ sym (fold-append (λ (d : ℕ) (c : List ℕ). bit_or d (dropped_at w c 0)) 0 (take k chunks) (take n (drop k chunks)))
      ∙ ap (dropped_with w 0) (sym (take-add k n chunks)) ∙ dropped_are (k + n) h

  -- and with all the rest
  pub dropped_rest : (k : ℕ) → k ≤ conditions_in (length conditions) → dropped_with w (dropped_of w conditions k) (drop k chunks) ≡ dropped_of w conditions (conditions_in (length conditions))
  dropped_rest k h =
      let e : k + (length chunks - k) ≡ conditions_in (length conditions) = omega arith in
      ap (dropped_with w (dropped_of w conditions k)) (sym (take_rest chunks k)) ∙ dropped_next k (length chunks - k) (omega arith) ∙ ap (dropped_of w conditions) e

  pub all_fit : GoodConditions conditions → (k : ℕ) → k < length chunks → Fits (get_or chunks k []) 0
  all_fit g k h = fit_same conditions k (get_or chunks k []) 0 (same_is conditions chunks k each (omega arith)) (g.each k (omega arith))

  -- so do those of a part of them
  pub rest_fit : GoodConditions conditions → (a k : ℕ) → k < length (drop a chunks) → Fits (get_or (drop a chunks) k []) 0
  rest_fit g a k h =
      let l = length-drop a chunks in
      rw get_or-drop (all_fit g (a + k) (omega arith))

  pub part_fit : GoodConditions conditions → (a n k : ℕ) → k < length (take n (drop a chunks)) → Fits (get_or (take n (drop a chunks)) k []) 0
  part_fit g a n k h =
      let l = length-take n (drop a chunks) in
      let m : k < n = omega arith in
      rw get_or-take (rest_fit g a k (omega arith))
