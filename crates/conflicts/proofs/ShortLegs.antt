-- No leg that lasts less than 10 ns is ever in conflict, a backward one included (RULES 9.11).
-- Assumes nothing.
use mathlib.Core.Path.{◌≡◌}
use mathlib.Core.Logic.{◌≢◌}
use mathlib.Core.Bool.{true}
use lib.IntN.{ℤ, pos, ◌-ℤ◌}
use lib.Signed.{lt_z, ◌≤ℤ◌}
use lib.Ieee.{Float}
use Rattle.floats.proofs.Tests.{passed}
use Rattle.times.proofs.Integers.{below→at-most, at_most_trans}
use Rattle.shapes.specs.declared.bounding_box.BoundingBox.{BoundingBox}
use Rattle.shapes.specs.declared.waypoint.Leg.{Leg}
use Rattle.proximity.specs.Range.{range_start, range_end}
use Rattle.proximity.proofs.Holding.{starts, ends}
use Rattle.proximity.proofs.Short.{long_around}
use Rattle.proximity.proofs.Moving.{meets, range_in_order}
use Rattle.conflicts.specs.Conflict.{conflict_of}
use Rattle.conflicts.specs.declared.conflict.Verdict.TheVariants.{Conflict}
use Rattle.conflicts.proofs.Conflicts.{conflict_enters}
use Rattle.std.specs.Prelude.{Ok}

module _ (agent : Leg) (bounds : BoundingBox) (obstacle : Leg) (other : BoundingBox) (limit : Float) where
  -- With a conflict the range is in order and not short, so that nothing around it is under 10 ns.
  in_ten : (s e : ℤ) → s ≤ℤ (range_start agent obstacle).0 → (range_end agent obstacle).0 ≤ℤ e → lt_z (e -ℤ s) (pos 10) ≡ true →
      conflict_of agent bounds obstacle other limit ≢ Ok Conflict
  in_ten s e h k few c =
      let reached = (conflict_enters agent bounds obstacle other limit c).reached in
      let wide = long_around reached.long s e (range_in_order (meets reached.meets)) h k in
      absurd (at_most_trans (pos 100000) (e -ℤ s) (pos 10) wide (below→at-most (e -ℤ s) (pos 10) (passed few))).le

  pub short_agent : lt_z (agent.end.time.0 -ℤ agent.start.time.0) (pos 10) ≡ true →
      conflict_of agent bounds obstacle other limit ≢ Ok Conflict
  short_agent =
      in_ten agent.start.time.0 agent.end.time.0 (starts agent obstacle).first (ends agent obstacle).first

  pub short_obstacle : lt_z (obstacle.end.time.0 -ℤ obstacle.start.time.0) (pos 10) ≡ true →
      conflict_of agent bounds obstacle other limit ≢ Ok Conflict
  short_obstacle =
      in_ten obstacle.start.time.0 obstacle.end.time.0 (starts agent obstacle).second (ends agent obstacle).second
