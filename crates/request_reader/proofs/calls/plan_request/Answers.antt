-- `request_reader::calls::plan_request` meets its contract: the table that was filled holds the obstacles of the request.
-- Assumes nothing.
use native.Mathlib.Omega.{arith}
use Rattle.request_reader.proofs.Planned.{request_counted, same_plan, handed_same}
use Rattle.request_reader.proofs.calls.plan_request.Goals as goal

pub put_obstacles-requires : goal.put_obstacles-requires
put_obstacles-requires c =
    let count = c.number_at-o.ensures in
    record { counted = request_counted c.args.s.now _ c.requires count; shaped = (omega arith, omega arith) }

pub returns : goal.returns
returns c =
    let s = c.args.s.now in
    handed_same
    (same_plan s _ _ _ _ _ _ _ c.profile_of.ensures c.leg_of.ensures c.number_at.ensures
    c.number_at-o.ensures c.put_obstacles.ensures c.put_boxes.ensures)
    c.plan_table.ensures
