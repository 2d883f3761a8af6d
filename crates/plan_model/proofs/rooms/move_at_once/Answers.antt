-- `plan_model::rooms::move_at_once` meets its contract: one path, whose one action is the move to the end.
-- Assumes nothing.
use Rattle.plan_model.proofs.Handing.{handed_short}
use Rattle.plan_model.proofs.rooms.move_at_once.Goals as goal

pub returns : goal.returns
returns c =
    let a = c.args in
    let put = rw c.put_row.ensures at c.put_path.ensures in
    handed_short a.agent put c.put_action.ensures c.settle.ensures
