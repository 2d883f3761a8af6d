-- `path_actions::building::refuse` meets its contract: the room is wiped throughout.
-- Assumes nothing.
use Rattle.path_actions.proofs.Left.{put_wiped}
use Rattle.path_actions.proofs.building.refuse.Goals as goal

pub returns : goal.returns
returns c = put_wiped _ c.wipe_from.ensures
