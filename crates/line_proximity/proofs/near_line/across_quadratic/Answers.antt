-- `line_proximity::near_line::across_quadratic` meets its contract: each coefficient is the definition's, with 2 by its bits.
-- Assumes nothing.
use Rattle.std.proofs.Common.{rules}
use lib.Ieee.{of_bits}
use Rattle.line_proximity.specs.NearLine.{across_quadratic}
use Rattle.line_proximity.proofs.near_line.across_quadratic.Goals as goal

pub returns : goal.returns
unfolding across_quadratic of_bits
returns c = search rules
