-- The place of the table's argument, taken one argument after the other. Assumes nothing.
use mathlib.Core.Path.{◌≡◌, refl, sym, ap, ◌∙◌}
use mathlib.Core.Bool.{Bool, true, false}
use mathlib.Core.List.{List, [], ◌∷◌, ◌++◌}
use Prim.Native.Nat.{ℕ, suc}
use native.Mathlib.Omega.{arith}
use borrow.Author.Tests.{lt-ltb}
use lib.Dec.{ltb}
use lib.ListN.{length, length-append}
use Rattle.word.specs.Choice.{pick}
use Rattle.arguments.specs.Arguments.{is_table, kind_of}
use Rattle.arguments.specs.declared.ArgumentKind.{ArgumentKind}
use Rattle.arguments.specs.declared.ArgumentKind.TheVariants.{Table, Raw, Unknown}
use Rattle.std.specs.declared.env.FillError.{FillError}
use Rattle.std.specs.declared.env.FillError.TheVariants.{NotPresent, TooLong}
use Rattle.std.specs.Prelude.{pos, Some, None, Ok, Err, IfSome}
use Rattle.arguments.proofs.Settings.{setting-none, setting-more}
use Rattle.plan.specs.Given.{Argument, argument_of, error_number, kind_read, kind_given, kinds_read, placed_at, table_place, asked_with, asked_of, plan_of, nothing_planned, plan_with, Given, Asks}
use Rattle.plan.specs.declared.Plan.{Plan}

placed_by : (b : Bool) (t m x : ℕ)
    → pick (ltb 0 (pick b (suc m) t)) (suc (pick b (suc m) t)) x ≡ pick b (suc (suc m)) (pick (ltb 0 t) (suc t) x)
placed_by true t m x = rw (lt-ltb 0 (suc m) (omega arith))
placed_by false t m x = refl

place-more : (ks : List ArgumentKind) (k : ArgumentKind) → table_place (ks ++ (k ∷ [])) ≡ placed_at (table_place ks) k (suc (length ks))
unfolding table_place
place-more [] k = refl
place-more (j ∷ ks) k = rw (place-more ks k) (placed_by (is_table k) (table_place ks) (length ks) (pick (is_table j) 1 0))

kinds-more : (bs : List Argument) (a : Argument) → kinds_read (bs ++ (a ∷ [])) ≡ kinds_read bs ++ (kind_read a ∷ [])
kinds-more [] a = refl
kinds-more (b ∷ bs) a = ap (λ (ks : List ArgumentKind). kind_read b ∷ ks) (kinds-more bs a)

-- what is asked, with one argument more
pub asked-more : (args : List Argument) (a : Argument) → asked_of (args ++ (a ∷ [])) ≡ asked_with (asked_of args) (kind_read a) (suc (length (kinds_read args)))
asked-more args a = rw (kinds-more args a, setting-more (kinds_read args) (kind_read a), place-more (kinds_read args) (kind_read a))

-- where nothing was bad so far, what is done with one more
by-kind : (t r : Bool) (place : ℕ) (k : ArgumentKind) (i : ℕ)
    → plan_of (asked_with (record { setting = record { table = t; raw = r; bad = false }; place = place }) k i)
    ≡ plan_with (record { table = pick t (Some place) None; raw = r }) k i
by-kind true r place Table i = refl
by-kind false r place Table i = refl
by-kind t true place Raw i = refl
by-kind t false place Raw i = refl
by-kind t r place Unknown i = refl

planned-more : (b t r : Bool) (place : ℕ) (p : Plan) (k : ArgumentKind) (i : ℕ)
    → Ok p ≡ plan_of (record { setting = record { table = t; raw = r; bad = b }; place = place })
    → plan_of (asked_with (record { setting = record { table = t; raw = r; bad = b }; place = place }) k i) ≡ plan_with p k i
planned-more true t r place p k i e = absurd cc
planned-more false t r place p k i e =
    let q : p ≡ record { table = pick t (Some place) None; raw = r } = cc in
    rw q (by-kind t r place k i)

-- what the arguments before place i ask, none of which was bad
pub record AskedSoFar (p : Plan) (i : ℕ) : Type 0 where
  pub arguments : List Argument
  pub asked : Ok p ≡ plan_of (asked_of arguments)
  pub next : i ≡ suc (length (kinds_read arguments))

pub none_asked : AskedSoFar nothing_planned 1
unfolding table_place
none_asked = record { arguments = []; asked = rw setting-none; next = refl }

module _ {p : Plan} {i : ℕ} (f : AskedSoFar p i) {k : ArgumentKind} (g : Given k) where
  abbrev more : List Argument
  more = f.arguments ++ (g.argument ∷ [])

  -- what is done with the argument at place i as well
  told : plan_with p k i ≡ plan_of (asked_of more)
  told =
      sym (planned-more _ _ _ _ p k i f.asked)
      ∙ ap (λ (n : ℕ). plan_of (asked_with (asked_of f.arguments) k n)) f.next
      ∙ ap (λ (j : ArgumentKind). plan_of (asked_with (asked_of f.arguments) j (suc (length (kinds_read f.arguments))))) g.read
      ∙ ap plan_of (sym (asked-more f.arguments g.argument))

  pub asks_more : Asks (plan_with p k i)
  asks_more = record { arguments = more; asked = told }

  pub asked_further : {q : Plan} → plan_with p k i ≡ Ok q → AskedSoFar q (suc i)
  asked_further e =
      record {
        arguments = more;
        asked = sym e ∙ told;
        next = rw (kinds-more f.arguments g.argument, f.next) (omega (arith, length-append (kinds_read f.arguments) (kind_read g.argument ∷ [])));
      }

-- what fetching an argument answered gives the kind of an argument, if any
pub given-bytes : (bytes : List ℕ) → Given (kind_of bytes)
given-bytes bytes = record { argument = argument_of (pos 0) bytes; read = refl }

pub given-error : (e : FillError) → IfSome (kind_given (Err e)) Given
given-error NotPresent = tt
given-error TooLong = record { argument = argument_of (error_number TooLong) []; read = refl }
