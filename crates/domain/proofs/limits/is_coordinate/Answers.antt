-- `domain::limits::is_coordinate` meets its contract: it is the range's test, with the definition's ends.
-- Assumes nothing.
use lib.Ieee
use Rattle.domain.specs.Domain.{is_coordinate}
use Rattle.domain.proofs.limits.is_coordinate.Goals as goal

pub returns : goal.returns
unfolding is_coordinate Ieee.of_bits Ieee.of_int
returns c = c.is_between.ensures
