-- `domain::limits::is_bound` meets its contract: it is the range's test, with the definition's ends.
-- Assumes nothing.
use lib.Ieee
use Rattle.domain.specs.Domain.{is_bound}
use Rattle.domain.proofs.limits.is_bound.Goals as goal

pub returns : goal.returns
unfolding is_bound Ieee.of_bits Ieee.of_int
returns c = c.is_between.ensures
