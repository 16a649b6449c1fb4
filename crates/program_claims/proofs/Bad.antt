-- The arguments are bad exactly when one is unknown, repeated or could not be fetched. Assumes nothing.
use mathlib.Core.Path.{◌≡◌, refl}
use mathlib.Core.Logic.{◌⊎◌, inl, inr, ⊎_map, ◌↔◌}
use mathlib.Core.Bool.{Bool, true, false, ◌||◌, or-true, false≢true}
use mathlib.Core.List.{List, [], ◌∷◌}
use Prim.Native.Nat.{ℕ, suc, ◌<◌}
use native.Mathlib.Omega.{arith}
use borrow.Author.Tests.{ltb-true, lt-ltb}
use lib.Dec.{ltb}
use Rattle.word.specs.Choice.{pick}
use Rattle.word.proofs.Tests.{one-true}
use Rattle.refusal.proofs.Chains.{decided}
use Rattle.arguments.specs.Arguments.{is_table, is_raw, is_unknown, kind_of, count, setting_of}
use Rattle.arguments.specs.declared.ArgumentKind.{ArgumentKind}
use Rattle.arguments.specs.declared.ArgumentKind.TheVariants.{Table, Raw, Unknown}
use Rattle.plan.specs.Given.{Argument, is_zero, kind_read, kinds_read, setting_read}
use Rattle.program_claims.specs.Sixteen.{SomeUnknown, unfetched, unknown, further, BadArguments, one-unknown, two-tables, two-raws}

-- an argument that counts as unknown
wrong-by : (b : Bool) (a : Argument) (k : ArgumentKind) (args : List Argument) → is_zero a.error ≡ b → kind_of a.bytes ≡ k → is_unknown (pick b k Unknown) ≡ true
    → SomeUnknown (a ∷ args)
wrong-by false a k args z e u = unfetched z
wrong-by true a Table args z e u = absurd (false≢true u)
wrong-by true a Raw args z e u = absurd (false≢true u)
wrong-by true a Unknown args z e u = unknown z e

-- it, or one after it
first-or-further : (b : Bool) (a : Argument) (args : List Argument) → is_unknown (kind_read a) ≡ b → (0 < count is_unknown (kinds_read args) → SomeUnknown args)
    → 0 < pick b (suc (count is_unknown (kinds_read args))) (count is_unknown (kinds_read args)) → SomeUnknown (a ∷ args)
first-or-further true a args u next h = wrong-by _ a _ args refl refl u
first-or-further false a args u next h = further (next h)

some-unknown : (args : List Argument) → 0 < count is_unknown (kinds_read args) → SomeUnknown args
unfolding count
some-unknown [] h = absurd (omega arith)
some-unknown (a ∷ args) h = first-or-further _ a args refl (some-unknown args) h

still : (b : Bool) (n : ℕ) → 0 < n → 0 < pick b (suc n) n
still true n h = omega arith
still false n h = h

counted : {args : List Argument} → SomeUnknown args → 0 < count is_unknown (kinds_read args)
unfolding count
counted (unfetched z) = rw z (omega arith)
counted (unknown z e) = rw (z, e) (omega arith)
counted (further {a} s) = still (is_unknown (kind_read a)) _ (counted s)

module _ (args : List Argument) where
  bad-by : (ltb 1 (count is_table (kinds_read args)) ≡ true) ⊎ ((ltb 1 (count is_raw (kinds_read args)) ≡ true) ⊎ (ltb 0 (count is_unknown (kinds_read args)) ≡ true))
      → BadArguments args
  bad-by (inl e) = two-tables (ltb-true 1 (count is_table (kinds_read args)) e)
  bad-by (inr (inl e)) = two-raws (ltb-true 1 (count is_raw (kinds_read args)) e)
  bad-by (inr (inr e)) = one-unknown (some-unknown args (ltb-true 0 (count is_unknown (kinds_read args)) e))

  bad-only : (setting_read args).bad ≡ true → BadArguments args
  unfolding setting_of
  bad-only e =
      bad-by (⊎_map (λ x. x) (one-true (ltb 1 (count is_raw (kinds_read args))) (ltb 0 (count is_unknown (kinds_read args))))
      (one-true (ltb 1 (count is_table (kinds_read args))) (ltb 1 (count is_raw (kinds_read args)) || ltb 0 (count is_unknown (kinds_read args))) e))

  bad-always : BadArguments args → (setting_read args).bad ≡ true
  unfolding setting_of
  bad-always (two-tables h) = rw (lt-ltb 1 (count is_table (kinds_read args)) h)
  bad-always (two-raws h) = rw (lt-ltb 1 (count is_raw (kinds_read args)) h) (or-true (ltb 1 (count is_table (kinds_read args))))
  bad-always (one-unknown s) =
      rw (lt-ltb 0 (count is_unknown (kinds_read args)) (counted s), or-true (ltb 1 (count is_raw (kinds_read args))))
      (or-true (ltb 1 (count is_table (kinds_read args))))

  -- The arguments are bad exactly when one is unknown, repeated or could not be fetched.
  pub bad-exactly : ((setting_read args).bad ≡ true) ↔ BadArguments args
  bad-exactly = (bad-only, bad-always)

  pub good-exactly : ((setting_read args).bad ≡ false) ↔ (BadArguments args → ⊥)
  good-exactly = (decided (setting_read args).bad (BadArguments args) bad-exactly).off
