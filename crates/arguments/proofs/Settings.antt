-- What the arguments ask, taken one after the other, and in any order. Assumes nothing.
use mathlib.Core.Path.{◌≡◌, refl, sym, ◌∙◌}
use mathlib.Core.Bool.{Bool, true, false, ◌||◌, or-true, or-false}
use mathlib.Core.List.{List, [], ◌∷◌, ◌++◌}
use Prim.Native.Nat.{ℕ, zero, suc, ◌+◌}
use native.Mathlib.Nat.{add_comm, zero-add, suc-add}
use native.Mathlib.Numerals.{add-one}
use native.Mathlib.Omega.{arith}
use borrow.Author.Tests.{lt-ltb}
use lib.Dec.{ltb, leb-suc-suc}
use Rattle.word.specs.Choice.{pick}
use Rattle.arguments.specs.Arguments.{is_table, is_raw, is_unknown, count, Setting, setting_of, no_setting, with_kind}
use Rattle.arguments.specs.declared.ArgumentKind.{ArgumentKind}
use Rattle.arguments.specs.declared.ArgumentKind.TheVariants.{Table, Raw, Unknown}

counted : (b : Bool) (m n : ℕ) → pick b (suc (m + n)) (m + n) ≡ pick b (suc m) m + n
counted true m n = sym (suc-add m n)
counted false m n = refl

count-append : (test : ArgumentKind → Bool) (js ks : List ArgumentKind) → count test (js ++ ks) ≡ count test js + count test ks
unfolding count
count-append test [] ks = sym (zero-add (count test ks))
count-append test (j ∷ js) ks = rw (count-append test js ks) (counted (test j) (count test js) (count test ks))

-- in any order
pub setting-order : (js ks : List ArgumentKind) → setting_of (js ++ ks) ≡ setting_of (ks ++ js)
unfolding setting_of
setting-order js ks =
    let same : (test : ArgumentKind → Bool) → count test (js ++ ks) ≡ count test (ks ++ js) =
    λ test. count-append test js ks ∙ add_comm (count test js) (count test ks) ∙ sym (count-append test ks js)
    in
    rw (same is_table, same is_raw, same is_unknown)

-- no argument
pub setting-none : setting_of [] ≡ no_setting
unfolding setting_of count
setting-none = refl

-- one more of a kind, and one more of another
more : (test : ArgumentKind → Bool) (ks : List ArgumentKind) (k : ArgumentKind) → test k ≡ true → count test (ks ++ (k ∷ [])) ≡ suc (count test ks)
unfolding count
more test ks k e = count-append test ks (k ∷ []) ∙ rw e (add-one (count test ks))

same : (test : ArgumentKind → Bool) (ks : List ArgumentKind) (k : ArgumentKind) → test k ≡ false → count test (ks ++ (k ∷ [])) ≡ count test ks
unfolding count
same test ks k e = count-append test ks (k ∷ []) ∙ rw e (omega arith)

-- a second one is bad, whatever else is
again : (n : ℕ) (a b : Bool) → (a || (ltb 0 n || b)) ≡ ((a || (ltb 1 n || b)) || ltb 0 n)
again zero a b = sym (or-false (a || b))
again (suc zero) a b = or-true a ∙ sym (or-true (a || b))
again (suc (suc n)) a b = rw (lt-ltb 0 (suc (suc n)) (omega arith), lt-ltb 1 (suc (suc n)) (omega arith), or-true a)

-- settings that agree in what is bad
agreed : (t r : Bool) {x y : Bool} → x ≡ y → ◌≡◌ {A = Setting} (record { table = t; raw = r; bad = x }) (record { table = t; raw = r; bad = y })
agreed t r e = rw e

-- one argument more
pub setting-more : (ks : List ArgumentKind) (k : ArgumentKind) → setting_of (ks ++ (k ∷ [])) ≡ with_kind (setting_of ks) k
unfolding setting_of
setting-more ks Table =
    let n = count is_table ks in
    rw (more is_table ks Table refl, same is_raw ks Table refl, same is_unknown ks Table refl, lt-ltb 0 (suc n) (omega arith), leb-suc-suc 1 n)
    (agreed true (ltb 0 (count is_raw ks)) (again n false (ltb 1 (count is_raw ks) || ltb 0 (count is_unknown ks))))
setting-more ks Raw =
    let n = count is_raw ks in
    rw (same is_table ks Raw refl, more is_raw ks Raw refl, same is_unknown ks Raw refl, lt-ltb 0 (suc n) (omega arith), leb-suc-suc 1 n)
    (agreed (ltb 0 (count is_table ks)) true (again n (ltb 1 (count is_table ks)) (ltb 0 (count is_unknown ks))))
setting-more ks Unknown =
    let n = count is_unknown ks in
    rw (
      same is_table ks Unknown refl,
      same is_raw ks Unknown refl,
      more is_unknown ks Unknown refl,
      lt-ltb 0 (suc n) (omega arith),
      or-true (ltb 1 (count is_raw ks)),
      or-true (ltb 1 (count is_table ks)),
    )
