-- The reads of a message, one after the other. Assumes nothing.
use mathlib.Core.Path.{◌≡◌, refl, sym, ap, ◌∙◌, subst}
use mathlib.Core.Bool.{Bool, true, false, false≢true}
use mathlib.Core.List.{List, [], ◌∷◌, ◌++◌}
use Prim.Native.Nat.{ℕ, ◌-◌, ◌≤◌, ◌<◌, zero-le}
use native.Mathlib.Omega.{arith}
use borrow.Author.Tests.{eq-eqb, ne_eqb, eqb-false}
use lib.IntN.{ℤ, pos, negsuc}
use lib.ListN.{length, take}
use lib.Seq.{length-take-le}
use Rattle.std.specs.Prelude.{min, Result, Ok, Err, is_ok, Option, Some, None}
use Rattle.line.specs.declared.Failure.{Failure}
use Rattle.line.specs.declared.Failure.TheVariants.{Refused, Unread}
use Rattle.refusal.specs.Refusal.{Checked}
use Rattle.refusal.specs.declared.Refusal.{Refusal}
use Rattle.hasher.specs.Hasher.{UpdateAccount, hasher_handed}
use Rattle.word.specs.Choice.{pick}
use Rattle.refusal.proofs.Chains.{nothing_is}
use Rattle.fips.specs.Fips.{most_bytes}
use Rattle.loan.specs.Loan.{loan_of}
use Rattle.hasher.specs.Hasher.{taken}
use Rattle.absorb.specs.Absorb.{absorbed}
use Rattle.update.specs.Update.{updated}
use Rattle.hasher.specs.declared.Hasher.{Hasher}
use Rattle.update.proofs.Taken.{update-taken, taken-update}
use Rattle.update.proofs.Absorbed.{pending-after, taken-after}
use Rattle.std.specs.Counts.{clamp_len}
use Rattle.reads.specs.Reads.{Moved, Read, read_of, below0, size_read, bytes_read, gave_none, Possible}
use Rattle.program.specs.Intakes.{Intake, TookIn, intake_handed, read_taken, taken_by, no_intake, message_end, intake_by, intake_with, intake_of}

module _ (h : Hasher) (table : List ℕ) (r : Read) where
  pub with-end : gave_none r ≡ true → intake_with h table r ≡ message_end r.got h
  unfolding intake_with
  with-end e = rw e

  pub with-bytes : gave_none r ≡ false → intake_with h table r ≡ intake_by (updated h (bytes_read r) (loan_of table [] []))
  unfolding intake_with
  with-bytes e = rw e

  pub intake-cons : (rs : List Read)
      → intake_of h table (r ∷ rs) ≡ pick (intake_with h table r).more (intake_of (intake_with h table r).hasher table rs) (intake_with h table r)
  unfolding intake_of
  intake-cons rs = refl

  -- there is more to read only after bytes that an update took
  pub record Took : Type 0 where
    pub some : gave_none r ≡ false
    pub accepted : (updated h (bytes_read r) (loan_of table [] [])).refusal ≡ Ok tt

  took_by : (b : Bool) → gave_none r ≡ b → (intake_with h table r).more ≡ true → Took
  took_by true e m = absurd (false≢true (sym (ap (λ (x : Intake). x.more) (with-end e)) ∙ m))
  took_by false e m = record { some = e; accepted = nothing_is _ (sym (ap (λ (x : Intake). x.more) (with-bytes e)) ∙ m) }

  pub took : (intake_with h table r).more ≡ true → Took
  took = took_by (gave_none r) refl

  pub took-is : Took → intake_with h table r ≡ no_intake (updated h (bytes_read r) (loan_of table [] [])).hasher
  took-is t = with-bytes t.some ∙ rw t.accepted

pub intake-nil : (h : Hasher) (table : List ℕ) → intake_of h table [] ≡ no_intake h
unfolding intake_of
intake-nil h table = refl

module _ (table : List ℕ) where
  -- a last read
  lone : (b : Bool) (h : Hasher) (r : Read) → (intake_with h table r).more ≡ b
      → pick b (intake_of (intake_with h table r).hasher table []) (intake_with h table r) ≡ intake_with h table r
  lone true h r e = let t = took-is h table r (took h table r e) in rw (intake-nil _ table, t)
  lone false h r e = refl

  -- one read more
  next : (b : Bool) (x y z : Intake) (r : Read) → x.more ≡ b → (y.more ≡ true → z ≡ intake_with y.hasher table r)
      → (pick b y x).more ≡ true → pick b z x ≡ intake_with (pick b y x).hasher table r
  next true x y z r k more e = more e
  next false x y z r k more e = absurd (false≢true (sym k ∙ e))

  pub intake-more : (rs : List Read) (r : Read) (h : Hasher) → (intake_of h table rs).more ≡ true
      → intake_of h table (rs ++ (r ∷ [])) ≡ intake_with (intake_of h table rs).hasher table r
  intake-more [] r h e = rw (intake-cons h table r [], intake-nil h table) (lone _ h r refl)
  intake-more (q ∷ rs) r h e =
      let x = intake_with h table q in
      rw (intake-cons h table q (rs ++ (r ∷ [])), intake-cons h table q rs)
      (next x.more x _ _ r refl (intake-more rs r x.hasher) (rw (intake-cons h table q rs) at e))

-- what was taken in of the reads so far
pub record TakenSoFar (start : Hasher) (table : List ℕ) (x : Intake) : Type 0 where
  pub reads : List Read
  pub possible : Possible reads
  pub intake : x ≡ intake_of start table reads

pub none-taken : (start : Hasher) (table : List ℕ) → TakenSoFar start table (no_intake start)
none-taken start table = record { reads = []; possible = tt; intake = sym (intake-nil start table) }

possible-more : (rs : List Read) (r : Read) → Possible rs → Moved (length r.buffer) r.got → Possible (rs ++ (r ∷ []))
possible-more [] r p m = (m, tt)
possible-more (q ∷ rs) r p m = (p.0, possible-more rs r p.1 m)

pub taken_more : {start : Hasher} {table : List ℕ} {x : Intake} → TakenSoFar start table x → x.more ≡ true → (r : Read) → Moved (length r.buffer) r.got
    → TakenSoFar start table (intake_with x.hasher table r)
taken_more {start} {table} s more r may =
    record {
      reads = s.reads ++ (r ∷ []);
      possible = possible-more s.reads r s.possible may;
      intake =
          ap (λ (y : Intake). intake_with y.hasher table r) s.intake
          ∙ sym (intake-more table s.reads r start (sym (ap (λ (y : Intake). y.more) s.intake) ∙ more));
    }

-- how many turns are left at most: each takes a byte, but the last
abbrev pub turns_left : Hasher → ℕ
turns_left h = most_bytes - taken h

-- an update that answers a hasher took the bytes, and one that answers a refusal refused them
module _ (u : UpdateAccount) where
  answered : {h : Hasher} → hasher_handed u ≡ Ok h → (u.refusal ≡ Ok tt) × (u.hasher ≡ h)
  answered {h} e = by u.refusal refl
    where
      by : (r : Checked) → u.refusal ≡ r → (u.refusal ≡ Ok tt) × (u.hasher ≡ h)
      by (Ok v) k = let q = rw k at e in (k, cc)
      by (Err r) k = let q = rw k at e in absurd cc

  refused_by : {q : Refusal} → hasher_handed u ≡ Err q → u.refusal ≡ Err q
  refused_by {q} e = by u.refusal refl
    where
      by : (r : Checked) → u.refusal ≡ r → u.refusal ≡ Err q
      by (Ok v) k = let q = rw k at e in absurd cc
      by (Err r) k = let q = rw k at e in cc

-- what the program has after a read, by the read's answer
module _ (h : Hasher) (table : List ℕ) (buffer : List ℕ) where
  pub take-failed : read_taken (intake_with h table (read_of (negsuc 0) buffer)) ≡ Err Unread
  take-failed = ap read_taken (with-end h table (read_of (negsuc 0) buffer) refl)

  -- n of the k bytes that it answered are in the buffer
  module _ (k n : ℕ) (within : n ≡ min k (length buffer)) where
    abbrev read : Read
    read = read_of (pos k) buffer

    size : size_read read ≡ n
    size = omega (arith, within)

    pub take-end : n ≡ 0 → read_taken (intake_with h table read) ≡ Ok None
    take-end z = ap read_taken (with-end h table read (eq-eqb (size_read read) 0 (size ∙ z)))

    module _ (some : 0 < n) where
      abbrev update : UpdateAccount
      update = updated h (take n buffer) (loan_of table [] [])

      gave : gave_none read ≡ false
      gave = ne_eqb (size_read read) 0 (λ e. omega (arith, size))

      read-is : bytes_read read ≡ take n buffer
      read-is = rw size

      with-update : intake_with h table read ≡ intake_by update
      with-update = with-bytes h table read gave ∙ ap (λ (bytes : List ℕ). intake_by (updated h bytes (loan_of table [] []))) read-is

      pub take-refused : {q : Refusal} → hasher_handed update ≡ Err q → read_taken (intake_with h table read) ≡ Err (Refused q)
      take-refused e = let k = refused_by update e in ap read_taken with-update ∙ rw k

      pub take-bytes : {g : Hasher} → hasher_handed update ≡ Ok g → read_taken (intake_with h table read) ≡ Ok (Some g)
      take-bytes e = let k = answered update e in ap read_taken with-update ∙ rw (k.0, k.1)

-- a read gives no more bytes than the buffer has
clamped-fits : (z : ℤ) (n : ℕ) → clamp_len z n ≤ n
clamped-fits (pos k) n = omega arith
clamped-fits (negsuc k) n = zero-le

-- what it makes of the message so far
module _ {start : Hasher} {table : List ℕ} {h : Hasher} (s : TakenSoFar start table (no_intake h)) (r : Read) (may : Moved (length r.buffer) r.got) where
  abbrev update_of : UpdateAccount
  update_of = updated h (bytes_read r) (loan_of table [] [])

  -- a read after which there is no more
  stopped : (x : Intake) → intake_with h table r ≡ x → x.more ≡ false → TookIn start table (intake_handed x)
  stopped x e m =
      let t = taken_more s refl r may in
      record {
        intake = intake_with h table r;
        takes = record { reads = t.reads; possible = t.possible; intake = t.intake; ended = ap (λ (y : Intake). y.more) e ∙ m };
        handed = ap intake_handed (sym e);
      }

  -- what the program has then, by whether the read gave a byte, and whether it failed or the update refused
  data Outcome_of : Result (Option Hasher) Failure → Type 0 where
    ended : TookIn start table (Ok h) → Outcome_of (Ok None)
    failed : (e : Failure) → TookIn start table (Err e) → Outcome_of (Err e)
    went_on : gave_none r ≡ false → update_of.refusal ≡ Ok tt → Outcome_of (Ok (Some update_of.hasher))

  of-end : gave_none r ≡ true → (f : Bool) → below0 r.got ≡ f → Outcome_of (taken_by (Ok tt) f false h)
  of-end k false p = let t = stopped (message_end r.got h) (with-end h table r k) refl in ended (rw p at t)
  of-end k true p = let t = stopped (message_end r.got h) (with-end h table r k) refl in failed Unread (rw p at t)

  of-bytes : gave_none r ≡ false → (c : Checked) → update_of.refusal ≡ c → Outcome_of (taken_by c false (is_ok c) update_of.hasher)
  of-bytes k (Ok u) p = went_on k p
  of-bytes k (Err q) p = let t = stopped (intake_by update_of) (with-bytes h table r k) (ap is_ok p) in failed (Refused q) (rw p at t)

  outcome : Outcome_of (read_taken (intake_with h table r))
  outcome = by (gave_none r) refl
    where
      by : (b : Bool) → gave_none r ≡ b → Outcome_of (read_taken (intake_with h table r))
      by true k = rw (with-end h table r k) (of-end k (below0 r.got) refl)
      by false k = rw (with-bytes h table r k) (of-bytes k update_of.refusal refl)

  of-none : Outcome_of (Ok None) → TookIn start table (Ok h)
  of-none (ended t) = t

  of-err : {e : Failure} → Outcome_of (Err e) → TookIn start table (Err e)
  of-err (failed e t) = t

  of-some : {g : Hasher} → Outcome_of (Ok (Some g)) → (gave_none r ≡ false) × (update_of.refusal ≡ Ok tt) × (update_of.hasher ≡ g)
  of-some (went_on k p) = (k, p, refl)

  pub took-end : read_taken (intake_with h table r) ≡ Ok None → TookIn start table (Ok h)
  took-end e = of-none (rw e at outcome)

  pub took-failed : {e : Failure} → read_taken (intake_with h table r) ≡ Err e → TookIn start table (Err e)
  took-failed e = of-err (rw e at outcome)

  pub took-more : {g : Hasher} → length h.pending ≡ 64 → read_taken (intake_with h table r) ≡ Ok (Some g)
      → TakenSoFar start table (no_intake g) × (turns_left g < turns_left h) × (length g.pending ≡ 64)
  took-more {g} long e =
      let k = of-some (rw e at outcome) in
      let l = loan_of table [] [] in
      let bytes = bytes_read r in
      let a = update-taken h bytes l k.1 in
      let after : g ≡ absorbed h bytes l = sym k.2 ∙ ap (λ (u : UpdateAccount). u.hasher) (taken-update h bytes l a) in
      let p : intake_with h table r ≡ no_intake g = with-bytes h table r k.0 ∙ rw (k.1, k.2) in
      let n = eqb-false (size_read r) 0 k.0 in (
        subst (TakenSoFar start table) p (taken_more s refl r may),
        rw after (omega (arith, a.fits, taken-after h bytes l long a, length-take-le (size_read r) r.buffer (clamped-fits r.got (length r.buffer)))),
        rw after (pending-after h bytes l),
      )
