-- The place that `position` finds over the records of a sheet, by what the test says of each record. Assumes nothing.
use mathlib.Core.Path.{◌≡◌, sym, ap, ◌∙◌}
use mathlib.Core.Bool.{Bool, true, false, true≢false}
use mathlib.Core.List.{List, []}
use Prim.Native.Nat.{ℕ, ◌+◌, ◌*◌, ◌≤◌, ◌<◌}
use native.Mathlib.Omega.{arith}
use lib.ListN.{length, take, drop}
use lib.Seq.{take-take}
use borrow.Author.Tests.{lt-ltb, le-ltb}
use denote.Ref.{Bor}
use denote.Param.Members.{Mut, Called}
use Rattle.std.specs.Prelude.{Option, None, Some, MatchOption, IfSome, IsSomeAnd, IsTrue, option_map}
use Rattle.std.specs.List.{IsSubsliceAt}
use Rattle.std.specs.Iterator.Runs.{Run, CallKeepsClosure, AllItemsGive, IsFirstToGive, IsChunksExactRun}
use Rattle.octets.specs.Octets.{same_bytes}
use Rattle.octets.proofs.Same.{same-exactly}
use Rattle.sheet.specs.Sheet.{barcode_size, record_size, records_on, barcode_at, record_found}
use Rattle.sheet.proofs.Exactly.{first-record, no_record}

-- record k passes a test or fails it
abbrev Tells : (List ℕ → Bool) → List ℕ → ℕ → Bool → Type 0
Tells test s k b = test (take record_size (drop (record_size * k) s)) ≡ b

-- the first record that passes the test, if any
abbrev pub FirstToPass : (List ℕ → Bool) → List ℕ → Option ℕ → Type 0
FirstToPass test s r = MatchOption r ((k : ℕ) → k < records_on s → Tells test s k false) (λ i. (i < records_on s) × Tells test s i true × ((k : ℕ) → k < i → Tells test s k false))

module _ {S F : Type 0} {steps : S → Option (Bor (List ℕ)) → S → Type 0} (u : Run steps) (g : Mut F (Bor (List ℕ) × Unit {0}) Bool) (f : F) (s : List ℕ)
    (test : List ℕ → Bool) (keeps : CallKeepsClosure g f) (computes : (x : Bor (List ℕ)) (b : Bool) → Called g f (x, tt) b f → b ≡ test x.now)
    (chunks : IsChunksExactRun u record_size s) where
  at-record : (r : Option (Bor (List ℕ))) (b : Bool) (k : ℕ) → IfSome r (λ x. (length x.now ≡ record_size) × (k * record_size + record_size ≤ length s) × IsSubsliceAt record_size s (k * record_size) x.now)
      → IsSomeAnd r (λ x. Called g f (x, tt) b f) → (k < records_on s) × Tells test s k b
  at-record None b k h e = absurd e
  at-record (Some x) b k h e =
      let q : record_size * k ≡ k * record_size = omega arith in
      let n = h.1 in
      (omega arith, rw q (ap test (sym h.2.0) ∙ sym (computes x b e)))

  -- there is an item at each place of the run
  some-item : (r : Option (Bor (List ℕ))) (y : Bor (List ℕ)) (P : Bor (List ℕ) → Type 0) → option_map (λ z. z) r ≡ Some y → IfSome r P → IsSomeAnd r P
  some-item None y P e h = absurd cc
  some-item (Some x) y P e h = h

  pub first-to-pass : (r : Option ℕ) → MatchOption r (IsTrue u.whole × AllItemsGive u g f false) (λ i. (u.len ≡ i + 1) × IsFirstToGive u g f true false i) → FirstToPass test s r
  first-to-pass None h = λ k l.
      let n : u.len ≡ records_on s = chunks.1 h.0 in
      (at-record (u.at k) false k (chunks.2 k) (some-item (u.at k) _ _ (u.reads k (record { ref_ptr = (0, 0); now = [] }) (omega arith)) (h.1 keeps k))).1
  first-to-pass (Some i) h =
      let p = h.1 keeps in
      let here = at-record (u.at i) true i (chunks.2 i) p.0 in
      (here.0, here.1, λ k l. (at-record (u.at k) false k (chunks.2 k) (p.1 k l)).1)

-- the test whether a record has a barcode
abbrev pub has_code : List ℕ → List ℕ → Bool
has_code code r = same_bytes (take barcode_size r) code

module _ (s c : List ℕ) where
  coded : (k : ℕ) → take barcode_size (take record_size (drop (record_size * k) s)) ≡ barcode_at s k
  coded k = take-take barcode_size record_size (drop (record_size * k) s) (omega arith)

  has : (k : ℕ) → Tells (has_code c) s k true → barcode_at s k ≡ c
  has k t = sym (coded k) ∙ (same-exactly _ c).0 t

  has_not : (k : ℕ) → Tells (has_code c) s k false → barcode_at s k ≡ c → ⊥
  has_not k t e = true≢false (sym ((same-exactly _ c).1 (coded k ∙ e)) ∙ t)

  pub found-by : (r : Option ℕ) → FirstToPass (has_code c) s r → r ≡ record_found s c
  found-by None h = rw (le-ltb _ _ ((no_record s c).1 (λ j l. has_not j (h j l))))
  found-by (Some i) h =
      let f = (first-record s c i).1 (record { inside = h.0; has = has i h.1; earlier = λ j l. has_not j (h.2 j l) }) in
      rw (f.0, lt-ltb i (records_on s) f.1)
