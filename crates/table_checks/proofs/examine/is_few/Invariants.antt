-- `table_checks::examine::is_few` meets its contract: at each turn, the legs so far and those of the obstacles from
-- o on are all legs; there is no room for more obstacles than there may be.
-- Assumes nothing.
use Rattle.std.proofs.Common.{◌≡◌, List, ◌+◌, ◌*◌, ◌≤◌}
use lib.Ieee.{Float}
use Rattle.lent.specs.Listed.{listed_to}
use Rattle.table.specs.Examined.{legs_in_all}
use Rattle.table.specs.Table.{obstacle_in, obstacles_in, obstacle_count}
use Rattle.table_checks.proofs.examine.is_few.Given as goal

abbrev pub invariant-loop-o : goal.invariant-loop-o
invariant-loop-o l =
    (l.legs ≤ 288 * l.o) ×
    ((places : List Float) →
    l.legs + legs_in_all (listed_to (obstacle_in l.marks places) (obstacle_count l.marks) l.o) ≡ legs_in_all (obstacles_in l.marks places))
