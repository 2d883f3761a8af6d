-- `floats::comparison::is_between` meets its contract: its two tests are the definition's.
-- Assumes nothing.
use Rattle.floats.specs.Compare.{is_between}
use Rattle.floats.proofs.comparison.is_between.Goals as goal

pub returns-then-lo-x : goal.returns-then-lo-x
unfolding is_between
returns-then-lo-x c = rw c.if-lo-x.true

pub returns : goal.returns
unfolding is_between
returns c = rw c.if-lo-x.false
