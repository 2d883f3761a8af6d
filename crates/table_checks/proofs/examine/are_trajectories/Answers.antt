-- `table_checks::examine::are_trajectories` meets its contract: what `all` answers is the test of every obstacle.
-- Assumes nothing.
use Rattle.std.proofs.Common.{rules, tests}
use Rattle.lent.proofs.Ranges.{every_from_all}
use Rattle.table.specs.Examined.{is_trajectory, are_trajectories}
use Rattle.table.specs.Table.{obstacle_count, waypoints_in, obstacle_in, obstacles_in}
use Rattle.table_checks.proofs.examine.are_trajectories.Goals as goal

pub returns : goal.returns
unfolding are_trajectories waypoints_in obstacles_in
returns c =
    let a = c.args in
    every_from_all (λ o. is_trajectory o.waypoints) (obstacle_in a.marks.now a.places.now) (obstacle_count a.marks.now) 0 c.all.ensures.ran (cc)
    (λ x t q k. search (rules, tests))
