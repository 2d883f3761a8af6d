-- `domain::limits::is_radius` meets its contract: it is the range's test, with the definition's ends.
-- Assumes nothing.
use lib.Ieee
use Rattle.domain.specs.Domain.{is_radius}
use Rattle.domain.proofs.limits.is_radius.Goals as goal

pub returns : goal.returns
unfolding is_radius Ieee.of_bits Ieee.of_int
returns c = c.is_between.ensures
