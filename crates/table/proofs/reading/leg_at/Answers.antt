-- `table::reading::leg_at` meets its contract.
-- Assumes nothing.
use Rattle.table.proofs.Walking.{waypoint_capped, next_capped}
use Rattle.table.proofs.reading.leg_at.Goals as goal

pub returns : goal.returns
returns c =
    let a = c.args in
    let at = c.place_of-at.ensures in
    rw (
      c.waypoint_at.ensures,
      c.waypoint_at-2.ensures,
      at,
      waypoint_capped a.marks.now a.places.now a.i,
      next_capped a.marks.now a.places.now a.i,
    )
