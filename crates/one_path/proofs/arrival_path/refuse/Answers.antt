-- `one_path::arrival_path::refuse` meets its contract: the room is wiped throughout.
-- Assumes nothing.
use Rattle.one_path.proofs.Left.{put_wiped}
use Rattle.one_path.proofs.arrival_path.refuse.Goals as goal

pub returns : goal.returns
returns c = put_wiped _ c.wipe_from.ensures
