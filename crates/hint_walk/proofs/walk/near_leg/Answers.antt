-- `hint_walk::walk::near_leg` meets its contract: a leg whose box is apart adds nothing.
-- Assumes nothing.
use native.Mathlib.Omega.{arith}
use Rattle.std.proofs.lemmas.Grind.{common_steps}
use Rattle.hint_walk.specs.Walk.{near_leg}
use Rattle.hint_walk.proofs.Walking.{nothing_added}
use Rattle.hint_walk.proofs.walk.near_leg.Goals as goal

pub returns-then-not-overlaps : goal.returns-then-not-overlaps
unfolding near_leg
returns-then-not-overlaps c = nothing_added _ _ _ (grind (arith, common_steps))
