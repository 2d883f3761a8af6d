-- `plan_making::linear_paths::finish` meets its contract: the refusal of a path, or all paths behind the row that counts them.
-- Assumes nothing.
use native.Mathlib.Omega.{arith}
use Rattle.plan_model.proofs.Handing.{paths_refused, paths_put, refused_both}
use Rattle.plan_making.proofs.linear_paths.finish.Goals as goal

pub overflow_add-many : goal.overflow_add-many
overflow_add-many c =
    let few = c.requires _ _ c.in-Ok.is in
    omega arith

pub returns-in-Err : goal.returns-in-Err
returns-in-Err c answer room rows p =
    let a = c.args in
    paths_refused a.hints a.times a.sweeps p c.in-Err.is (refused_both c.in-Err.why c.from.ensures c.refuse.ensures)

pub returns-in-Ok : goal.returns-in-Ok
returns-in-Ok c answer room rows p =
    let a = c.args in
    paths_put a.hints a.times a.sweeps p c.in-Ok.is c.put_row.ensures
    c.settle.ensures
