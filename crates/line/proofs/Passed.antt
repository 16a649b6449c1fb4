-- What a `?` hands on is the error that it met, or what its conversion makes of that. Assumes nothing.
use mathlib.Core.Path.{◌≡◌, ap}
use Rattle.std.specs.Prelude.{Result, Ok, Err, IsErrAnd}

pub passed_on : {A E : Type 0} (r : Result A E) (e : E) → IsErrAnd r (λ (x : E). x ≡ e) → r ≡ Err e
passed_on (Ok x) e h = absurd h
passed_on (Err x) e h = ap Err h
