-- Which places a hint may have (RULES 4.7, 10.42).
-- Assumes nothing.
use Rattle.std.specs.Prelude.{Bool, ◌&&◌, pos, Float}
use Rattle.std.specs.Float.Ieee
use Rattle.std.specs.Float.{binary64}
use Rattle.floats.specs.Compare.{is_between}
use Rattle.shapes.specs.declared.vector.Vector.{Vector}

-- A coordinate of a hint is at most 1,000,000 in size, and no NaN.
unfoldable pub is_within_million : Float → Bool
is_within_million = is_between (Ieee.neg (Ieee.of_int binary64 (pos 1000000))) (Ieee.of_int binary64 (pos 1000000))

unfoldable pub is_placed : Vector → Bool
is_placed p = is_within_million p.x && is_within_million p.y
