-- `floats::comparison::size` meets its contract: its one test is the definition's.
-- Assumes nothing.
use lib.Ieee
use Rattle.floats.specs.Compare.{size_of}
use Rattle.floats.proofs.comparison.size.Goals as goal

pub returns-then-x : goal.returns-then-x
unfolding size_of Ieee.of_bits
returns-then-x c = rw c.if-x.true

pub returns-else-x : goal.returns-else-x
unfolding size_of Ieee.of_bits
returns-else-x c = rw c.if-x.false
