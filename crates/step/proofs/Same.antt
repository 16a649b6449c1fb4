-- The test whether two fives of words are the same says whether they are equal. Assumes nothing.
use mathlib.Core.Path.{◌≡◌, refl}
use mathlib.Core.Bool.{true}
use lib.Dec.{eqb}
use borrow.Author.Tests.{eqb-true, eq-eqb}
use Rattle.word.proofs.Tests.{both_true}
use Rattle.step.specs.Step.{same_regs}
use Rattle.step.specs.declared.Regs.{Regs}

module _ (s r : Regs) where
  pub same-equal : same_regs s r ≡ true → s ≡ r
  same-equal e =
      let p = both_true (eqb s.a r.a) _ e in
      let q = both_true (eqb s.b r.b) _ p.1 in
      let t = both_true (eqb s.c r.c) _ q.1 in
      let u = both_true (eqb s.d r.d) _ t.1 in
      let a : s.a ≡ r.a = eqb-true _ _ p.0 in
      let b : s.b ≡ r.b = eqb-true _ _ q.0 in
      let c : s.c ≡ r.c = eqb-true _ _ t.0 in
      let d : s.d ≡ r.d = eqb-true _ _ u.0 in
      let f : s.e ≡ r.e = eqb-true _ _ u.1 in
      let all : ◌≡◌ {A = Regs} (record { a = s.a; b = s.b; c = s.c; d = s.d; e = s.e }) (record { a = r.a; b = r.b; c = r.c; d = r.d; e = r.e }) = cc in
      all

pub same_self : (s : Regs) → same_regs s s ≡ true
same_self s =
    rw (eq-eqb s.a s.a refl, eq-eqb s.b s.b refl, eq-eqb s.c s.c refl, eq-eqb s.d s.d refl, eq-eqb s.e s.e refl)
