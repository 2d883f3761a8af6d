-- `hint_walk::leg_hints::with_part` meets its contract: one that outpaces the agent adds nothing.
-- Assumes nothing.
use native.Mathlib.Omega.{arith}
use Rattle.std.proofs.lemmas.Grind.{common_steps}
use Rattle.hint_walk.specs.LegHints.{part_hints}
use Rattle.hint_walk.proofs.Walking.{nothing_added}
use Rattle.hint_walk.proofs.leg_hints.with_part.Goals as goal

pub returns-in-Outpacing : goal.returns-in-Outpacing
unfolding part_hints
returns-in-Outpacing c = nothing_added _ _ _ (grind (arith, common_steps))
