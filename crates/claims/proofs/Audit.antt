-- Request c over hashing: a message of which a block was marked is never said to match, nor to differ. Assumes nothing.
use mathlib.Core.Path.{◌≡◌, sym, ap, ◌∙◌}
use mathlib.Core.Bool.{true≢false}
use mathlib.Core.List.{List}
use Prim.Native.Nat.{ℕ}
use Rattle.std.specs.Prelude.{Ok as Done, Ok as Said}
use Rattle.verdict.specs.declared.Verdict.{Verdict}
use Rattle.verdict.specs.declared.Verdict.TheVariants.{Ok}
use Rattle.flags.specs.declared.Flags.{Flags}
use Rattle.loan.specs.Loan.{Tables}
use Rattle.sheet.specs.Exactly.{Accepted, FirstRecord}
use Rattle.comparison.specs.Compare.{compared_of}
use Rattle.comparison.specs.declared.Comparison.TheVariants.{Match, Differs, Marked}
use Rattle.comparison.proofs.Exactly.{match-exactly, differs-exactly, answer-marked-exactly}
use Rattle.claims.specs.Pieces.{Piece, bytes_of, hashed, loan_of_all, NoneRefused}
use Rattle.claims.specs.Marked.{NoneMarked, OneMarked}
use Rattle.claims.proofs.Verdicts.{ok-exactly}

-- a message under any cut, none of its calls refused, and the verdict v that its finish gave
module _ (f : Flags) (t : Tables) (ps : List Piece) (last : List ℕ) (ok : NoneRefused f t ps last) (v : Verdict) (given : (hashed f t ps last).outcome ≡ Done v) where
  none-marked : v ≡ Ok → NoneMarked f (loan_of_all t ps last) (bytes_of ps)
  none-marked e = (ok-exactly f t ps last ok).0 (given ∙ ap Done e)

  -- Where a comparison of that verdict says match, no block was marked;
  pub match-none-marked : (s c d : List ℕ) → compared_of s c v d ≡ Said Match → NoneMarked f (loan_of_all t ps last) (bytes_of ps)
  match-none-marked s c d e = none-marked ((match-exactly s c v d).0 e).3

  -- so where it says differs;
  pub differs-none-marked : (s c d : List ℕ) → compared_of s c v d ≡ Said Differs → NoneMarked f (loan_of_all t ps last) (bytes_of ps)
  differs-none-marked s c d e = none-marked ((differs-exactly s c v d).0 e).3

  -- and where one was marked and the barcode is on the sheet it says marked, whatever the digest.
  pub one-marked-answer : (s c d : List ℕ) → Accepted s c → (k : ℕ) → FirstRecord s c k → OneMarked f (loan_of_all t ps last) (bytes_of ps) → compared_of s c v d ≡ Said Marked
  one-marked-answer s c d a k r m =
      (answer-marked-exactly s c v d).1 (a, k, r, λ e. true≢false (sym m.2 ∙ none-marked e m.0 m.1))
