-- `plan_making::calls::plan_among` meets its contract: the refusal of the agent's line, which leaves nothing of either room.
-- Assumes nothing.
use mathlib.Core.Path.{sym, ◌∙◌}
use Rattle.plan_model.specs.Plan.{long_plan}
use Rattle.plan_model.proofs.Handing.{refused_both}
use Rattle.plan_making.proofs.calls.plan_among.Goals as goal

pub returns-in-Err : goal.returns-in-Err
unfolding long_plan
returns-in-Err c =
    rw (sym c.scale_of.ensures ∙ c.in-Err.is) (refused_both c.in-Err.why c.from.ensures c.refuse.ensures)
