-- What a call that is refused leaves as it was. Assumes nothing.
use mathlib.Core.Path.{◌≡◌, refl}
use mathlib.Core.Bool.{Bool, true, false}
use mathlib.Core.List.{List, [], ◌∷◌, ◌++◌}
use Prim.Native.Nat.{ℕ, ◌<◌}
use native.Mathlib.Nat.{lt_irrefl}
use Rattle.std.specs.Prelude.{Ok, Err, is_ok}
use Rattle.refusal.specs.Refusal.{number_of, place_of, Checked}
use Rattle.search.specs.Search.{is_marked, marking_place}
use Rattle.detect.specs.Detect.{BlockAccount}
use Rattle.stream.specs.declared.FirstMark.{FirstMark}
use Rattle.finish.specs.Finish.{outcome_refusal, Outcome}
use Rattle.layout.specs.Layout.{bit_of}
use Rattle.answers.specs.Answers.{Left, guarded, outcome_answer, block_left, digest_left}

-- what is left has the slices xs first
abbrev pub Keeps : List (List ℕ) → Left → Type 0
Keeps xs l = (ys : List (List ℕ)) × (l.slices ≡ xs ++ ys)

-- a call whose work, where the agreement is kept and the number is not 0, keeps the slices xs keeps them in any case
pub guarded-keeps : (fits : Bool) (done : Left) (xs ys : List (List ℕ)) → (fits ≡ true → 0 < done.number → Keeps xs done)
    → 0 < (guarded fits done (xs ++ ys)).number → Keeps xs (guarded fits done (xs ++ ys))
guarded-keeps true done xs ys k n = k refl n
guarded-keeps false done xs ys k n = (ys, refl)

pub some-refusal : (r : Checked) → 0 < number_of r → is_ok r ≡ false
some-refusal (Ok tt) n = absurd (lt_irrefl 0 n)
some-refusal (Err r) n = refl

-- what one block leaves on a refusal has the words that were there
pub block-keeps : (o : BlockAccount) (before : List ℕ) → 0 < (block_left o before).number → Keeps (before ∷ []) (block_left o before)
block-keeps o before n =
    ((bit_of (is_marked o.found) ∷ marking_place o.found ∷ o.found.tried ∷ place_of o.refusal ∷ []) ∷ [], rw (some-refusal o.refusal n))

-- what a digest's call leaves on a refusal has the bytes that were there
pub digest-keeps : (o : Outcome) (f : FirstMark) (digest before : List ℕ) → 0 < (digest_left o f digest before).number
    → Keeps (before ∷ []) (digest_left o f digest before)
digest-keeps o f digest before n = (outcome_answer o f ∷ [], rw (some-refusal (outcome_refusal o) n))
