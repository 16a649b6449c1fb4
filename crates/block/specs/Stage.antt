-- How far a compression has come: what its inner functions promise each other.
use Rattle.std.specs.Prelude.{◌≡◌, List, ℕ, length, take}
use Rattle.step.specs.Step.{steps_of}
use Rattle.step.specs.declared.Regs.{Regs}
use Rattle.block.specs.Schedule.{scheduled, schedule_of}

-- t words of the schedule of m are in the array w, and t steps from h have led to s
pub record Stage (m : List ℕ) (h : Regs) (t : ℕ) (w : List ℕ) (s : Regs) : Type 0 where
  pub size : length w ≡ 80
  pub words : take t w ≡ scheduled m t
  pub regs : s ≡ steps_of (schedule_of m) 0 t h

-- from any start, a compression of m that was at step `from` with w and s is at step `to` with v and r
abbrev pub Onward : List ℕ → ℕ → ℕ → List ℕ → Regs → List ℕ → Regs → Type 0
Onward m from to w s v r = (h : Regs) → Stage m h from w s → Stage m h to v r
