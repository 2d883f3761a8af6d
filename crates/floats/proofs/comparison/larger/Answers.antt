-- `floats::comparison::larger` meets its contract: its one test is the definition's.
-- Assumes nothing.
use Rattle.std.proofs.Common.{sym}
use Rattle.floats.proofs.Larger.{larger_first, larger_second}
use Rattle.floats.proofs.comparison.larger.Goals as goal

pub returns-then-x-y : goal.returns-then-x-y
returns-then-x-y c = sym (larger_second _ _ c.if-x-y.true)

pub returns-else-x-y : goal.returns-else-x-y
returns-else-x-y c = sym (larger_first _ _ c.if-x-y.false)
