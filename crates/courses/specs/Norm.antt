-- The length of a vector, and its direction (RULES 2.13, 2.14).
-- Assumes nothing.
use Rattle.std.specs.Prelude.{cond, Result, Ok, Err, Option, Some, None, Float}
use Rattle.std.specs.Float.Ieee
use Rattle.floats.specs.Constants.{hundred_millionth}
use Rattle.root.specs.Root.{root_of, no_root}
use Rattle.shapes.specs.Vector.{divided, dot_of}
use Rattle.shapes.specs.declared.vector.Vector.{Vector}
use Rattle.root.specs.declared.nearest.NoRoot.{NoRoot}

-- The root of a vector's dot product with itself (RULES 2.13).
unfoldable pub norm_of : Vector → Result Float NoRoot
norm_of v = root_of (dot_of v v)

-- Each coordinate divided by the norm, where the norm is above 1e-8, and not at it (RULES 2.14).
unfoldable pub direction_of : Vector → Result (Option Vector) NoRoot
direction_of v = by (norm_of v)
  where
    by : Result Float NoRoot → Result (Option Vector) NoRoot
    by (Ok n) = cond (Ieee.lt hundred_millionth n) (Ok (Some (divided v n))) (Ok None)
    by (Err _) = no_root
