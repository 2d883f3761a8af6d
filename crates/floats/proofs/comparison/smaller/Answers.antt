-- `floats::comparison::smaller` meets its contract: its one test is the definition's.
-- Assumes nothing.
use Rattle.std.proofs.Common.{sym}
use Rattle.floats.proofs.Larger.{smaller_first, smaller_second}
use Rattle.floats.proofs.comparison.smaller.Goals as goal

pub returns-then-y-x : goal.returns-then-y-x
returns-then-y-x c = sym (smaller_second _ _ c.if-y-x.true)

pub returns-else-y-x : goal.returns-else-y-x
returns-else-y-x c = sym (smaller_first _ _ c.if-y-x.false)
