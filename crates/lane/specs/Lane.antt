-- The lanes of a bench. 02, request a.
use Rattle.std.specs.Prelude.{Bool, ◌&&◌, ℕ, leb, ltb}

-- the most hashers on a bench
abbrev pub most_lanes : ℕ
most_lanes = 16

-- a bench of so many hashers can be used, 1 to 16, and the lane is not past its end
unfoldable pub has_lane : ℕ → ℕ → Bool
has_lane count lane = leb 1 count && (leb count most_lanes && ltb lane count)
