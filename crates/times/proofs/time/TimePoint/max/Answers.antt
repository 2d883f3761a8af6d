-- `times::time::TimePoint::max` meets its contract: what the order of the two tells.
-- Assumes nothing.
use Rattle.std.proofs.Common.{rules}
use Rattle.times.specs.Time.{later_of}
use Rattle.times.proofs.time.TimePoint.max.Goals as goal

pub returns-then-lt : goal.returns-then-lt
unfolding later_of
returns-then-lt c = search rules

pub returns-else-lt : goal.returns-else-lt
unfolding later_of
returns-else-lt c = search rules
