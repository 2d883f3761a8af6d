-- `hint_walk::walk::compute_wait_hints` meets its contract: an agent that hardly moves has no hints.
-- Assumes nothing.
use native.Mathlib.Omega.{arith}
use Rattle.std.proofs.lemmas.Grind.{common_steps}
use Rattle.hint_walk.specs.Walk.{hints_of}
use Rattle.hint_walk.proofs.Walking.{nothing_added}
use Rattle.hint_walk.proofs.walk.compute_wait_hints.Goals as goal

pub returns-in-Ok-None : goal.returns-in-Ok-None
unfolding hints_of
returns-in-Ok-None c = nothing_added _ _ _ (grind (arith, common_steps))
