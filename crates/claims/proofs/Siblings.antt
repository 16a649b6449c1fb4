-- Demand 3 along a message with reduced-round mode off: a block is marked exactly when a selected sibling meets it, and the verdict is ok exactly when that is so for no block. Assumes nothing.
use mathlib.Core.Path.{◌≡◌}
use mathlib.Core.Logic.Iff
use mathlib.Core.Logic.{◌↔◌}
use mathlib.Core.Bool.{true, false}
use mathlib.Core.List.{List}
use Prim.Native.Nat.{ℕ}
use Rattle.search.specs.Search.{is_marked}
use Rattle.std.specs.Prelude.{Ok as Done}
use Rattle.word.specs.Lists.{AllBytes}
use Rattle.verdict.specs.declared.Verdict.TheVariants.{Ok, Mitigated, Collision}
use Rattle.detect.specs.Detect.{answer_of}
use Rattle.fips.specs.Fips.{padded, initial}
use Rattle.flags.specs.declared.Flags.{Flags}
use Rattle.loan.specs.Loan.{Tables, Loan, looked_at}
use Rattle.loan.proofs.Loans.{tables-good}
use Rattle.stream.specs.Fold.{mode_of}
use Rattle.claims.specs.Sound.{TypedVectors, VectorsGood}
use Rattle.claims.specs.Pieces.{Piece, bytes_of, hashed, loan_of_all, NoneRefused}
use Rattle.claims.specs.Marked.{again_by, block_at, selected_at, words_before, marked_at}
use Rattle.claims.specs.Message.{MetInAt, OneMetIn, MetAt, NoneMet, OneMet}
use Rattle.claims.specs.EveryCall.{VerdictBy}
use Rattle.claims.proofs.Along.{hash-words, initial-words, padded-bytes, block-bytes}
use Rattle.claims.proofs.Demand3.{marked-exactly}
use Rattle.claims.proofs.Whole.{tables-pass}
use Rattle.claims.proofs.MetAlong.{with-detection, marked-in-at}
use Rattle.claims.proofs.EveryCall.{decided-by, message-met}

module _ (f : Flags) (on : f.detect ≡ true) (off : f.reduced ≡ false) where
  module _ (l : Loan) (words : TypedVectors l.tables) (msg : List ℕ) (bytes : AllBytes msg) (good : VectorsGood l.tables) where
    -- Block i is marked exactly when a sibling that is selected for it meets it.
    pub marked-at-exactly : (i : ℕ) → (marked_at f l msg i ≡ true) ↔ MetAt f l msg i
    marked-at-exactly i =
        let h = words_before f l msg i in
        let block = block_at (padded msg) i in
        let mask = selected_at f l (padded msg) i in
        with-detection f.detect (is_marked (answer_of (mode_of f) l.tables.vectors h block mask).found) (MetAt f l msg i) on
        (marked-exactly h block l.tables.vectors (hash-words (again_by f l.tables) i initial (padded msg) (looked_at f l.masks) initial-words)
        (block-bytes (padded msg) i (padded-bytes msg bytes)) words (mode_of f) mask good off)

    -- with the mode off what is said of any mode says this
    met-alike : (i : ℕ) → MetInAt f l initial (padded msg) i ↔ MetAt f l msg i
    met-alike i = Iff.trans (Iff.symm (marked-in-at f l initial (padded msg) initial-words (padded-bytes msg bytes) words on good i)) (marked-at-exactly i)

    one_alike : ((f.detect ≡ true) × OneMetIn f l initial (padded msg)) ↔ OneMet f l msg
    one_alike = (
      λ k. let w = k.1 in (w.0, w.1, (met-alike w.0).0 w.2),
      λ w. (on, (w.0, w.1, (met-alike w.0).1 w.2)),
    )

  module _ (t : Tables) (words : TypedVectors t) (ps : List Piece) (last : List ℕ) (bytes : AllBytes (bytes_of ps)) (ok : NoneRefused f t ps last) where
    verdict-met : VerdictBy (hashed f t ps last).outcome f.mitigate (OneMet f (loan_of_all t ps last) (bytes_of ps))
    verdict-met =
        let good = (tables-good f t (tables-pass f t ps last ok)).1 on in
        decided-by (one_alike (loan_of_all t ps last) words (bytes_of ps) bytes good) (message-met f t ps last bytes words ok)

    -- The verdict is ok exactly when for no block a selected sibling meets it, padding included.
    pub ok-met : ((hashed f t ps last).outcome ≡ Done Ok) ↔ NoneMet f (loan_of_all t ps last) (bytes_of ps)
    ok-met = Iff.trans verdict-met.ok (λ n i l k. n (i, l, k), λ n w. n w.0 w.1 w.2)

    -- It is mitigated exactly when for one block a selected sibling meets it, and mitigation is on.
    pub mitigated-met : ((hashed f t ps last).outcome ≡ Done Mitigated) ↔ (OneMet f (loan_of_all t ps last) (bytes_of ps) × (f.mitigate ≡ true))
    mitigated-met = verdict-met.mitigated

    -- It is collision exactly when for one block a selected sibling meets it, and mitigation is off.
    pub collision-met : ((hashed f t ps last).outcome ≡ Done Collision) ↔ (OneMet f (loan_of_all t ps last) (bytes_of ps) × (f.mitigate ≡ false))
    collision-met = verdict-met.collision
