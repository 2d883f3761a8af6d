-- How far a float is from zero, for the laws about sizes.
-- Assumes nothing.
use Rattle.std.proofs.Common.{false}
use lib.Ieee.{Float, nan, inf, fin}
use Rattle.floats.proofs.Relations.{◌≼◌}

-- A float with its sign cleared.
abbrev pub abs : Float → Float
abs nan = nan
abs (inf s) = inf false
abs (fin s m e) = fin false m e

-- x lies between -c and c, and neither is a NaN. At closed c and x it is `record { at_most = unfold le in tt }`.
pub record Within (c x : Float) : Type 0 where
  pub at_most : abs x ≼ c
