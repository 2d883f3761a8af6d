-- `table_checks::examine::are_waypoints` meets its contract: what `all` answers is the test of every waypoint.
-- Assumes nothing.
use Rattle.std.proofs.Common.{rules, tests}
use Rattle.lent.proofs.Ranges.{every_from_all}
use Rattle.domain.specs.Domain.{is_waypoint}
use Rattle.table.specs.Table.{waypoint_in}
use Rattle.table_checks.proofs.examine.are_waypoints.Goals as goal

pub returns : goal.returns
returns c =
    let a = c.args in
    every_from_all is_waypoint (waypoint_in a.marks.now a.places.now) a.to a.from c.all.ensures.ran (cc)
    (λ x t q k. search (rules, tests))
