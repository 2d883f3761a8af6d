-- `line_proximity::stationary::stationary_quadratic` meets its contract: each coefficient is the definition's, with 2 by its bits.
-- Assumes nothing.
use mathlib.Core.Path.{refl}
use lib.Ieee.{of_bits}
use Rattle.line_proximity.proofs.stationary.stationary_quadratic.Goals as goal

pub returns : goal.returns
unfolding of_bits
returns c = refl
