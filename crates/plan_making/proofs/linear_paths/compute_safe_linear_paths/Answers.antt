-- `plan_making::linear_paths::compute_safe_linear_paths` meets its contract: the refusal of the hints, or the plan by way of them.
-- Assumes nothing.
use Rattle.plan_model.specs.Plan.{hints_planned}
use Rattle.plan_model.proofs.Handing.{refused_both}
use Rattle.plan_making.proofs.Hinted.{hints_refused, hints_given}
use Rattle.plan_making.proofs.linear_paths.compute_safe_linear_paths.Goals as goal

pub returns-in-Err : goal.returns-in-Err
unfolding hints_planned
returns-in-Err c =
    let ranks = rw c.for_line-bounds.ensures at c.compute_safe_linear_path_wait_hints-filled.ensures in
    rw (hints_refused ranks _ c.in-Err.is) (refused_both c.in-Err.why c.from.ensures c.refuse.ensures)

pub returns-in-Ok : goal.returns-in-Ok
unfolding hints_planned
returns-in-Ok c =
    let ranks = rw c.for_line-bounds.ensures at c.compute_safe_linear_path_wait_hints-filled.ensures in
    rw (hints_given ranks _ c.in-Ok.is) c.plan_times.ensures
