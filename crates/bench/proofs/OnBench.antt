-- What the bench's calls share: a lane that is read and written.
use Rattle.std.proofs.Common.{◌≡◌, ℕ, List, get_or, set}
use Rattle.std.proofs.lemmas.List.{get_or_default, set-get_or}
use Rattle.hasher.specs.declared.Hasher.{Hasher}

-- what is written back where it was read is no change
pub put_back : (ys : List Hasher) (lane : ℕ) (d : Hasher) → set ys lane (get_or ys lane d) ≡ ys
put_back ys lane d = set-get_or ys lane d

-- and what is read within the bench is the same, whatever stands for one past the end
pub ruleset on_bench = (get_or_default, put_back)
