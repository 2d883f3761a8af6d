-- `plan_exports::text_calls::igelbert_plan` meets its contract: what `reply` tells, by its number.
-- Assumes nothing.
use Rattle.texts.proofs.Telling.{tells_handed}
use Rattle.plan_exports.proofs.text_calls.igelbert_plan.Goals as goal

pub returns : goal.returns
returns c = rw c.told_number.ensures (tells_handed c.reply.ensures.tells)
