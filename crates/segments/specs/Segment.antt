-- Whether a segment is safe among obstacles (RULES 9.7 to 9.11).
-- Assumes nothing.
use Rattle.std.specs.Prelude.{Bool, cond, not, ◌&&◌, List, [], ◌∷◌, Float}
use Rattle.std.specs.Int.Signed.{lt_z}
use Rattle.shapes.specs.Box.{box_of_leg, overlap}
use Rattle.shapes.specs.declared.bounding_box.BoundingBox.{BoundingBox}
use Rattle.shapes.specs.declared.waypoint.Leg.{Leg}
use Rattle.conflicts.specs.Conflict.{conflict_of}
use Rattle.conflicts.specs.declared.conflict.Verdict.{Verdict}
use Rattle.conflicts.specs.declared.conflict.Verdict.TheVariants.{Clear, Conflict}
use Rattle.table.specs.Obstacle.{Obstacle, legs_of}
use Rattle.std.specs.Prelude.{Result, Ok, Err}
use Rattle.refusals.specs.declared.Refusal.{Refusal}

-- The legs that `iter_range` gives: those that end at or after the agent's start and start at or before its end (RULES 2.7).
unfoldable pub is_during : Leg → Leg → Bool
is_during agent leg =
    not (lt_z leg.end.time.0 agent.start.time.0) && not (lt_z agent.end.time.0 leg.start.time.0)

-- One leg, in the box of its obstacle's footprint (RULES 9.8).
unfoldable pub leg_verdict : Leg → BoundingBox → Float → Float → Leg → Result Verdict Refusal
leg_verdict agent bounds footprint limit leg =
    cond (is_during agent leg) (conflict_of agent bounds leg (box_of_leg footprint leg) limit) (Ok Clear)

-- A clear answer goes on to the rest; a conflict and a refusal end the walk (RULES 9.9).
abbrev pub or_else : Result Verdict Refusal → Result Verdict Refusal → Result Verdict Refusal
or_else (Ok Clear) rest = rest
or_else (Ok Conflict) rest = Ok Conflict
or_else (Err why) rest = Err why

-- The first answer of a walk that ends it.
unfoldable pub first_of : {A : Type 0} → (A → Result Verdict Refusal) → List A → Result Verdict Refusal
first_of says [] = Ok Clear
first_of says (x ∷ xs) = or_else (says x) (first_of says xs)

-- One obstacle: passed over where its box does not overlap the agent's, else its legs in order (RULES 9.8).
unfoldable pub obstacle_verdict : Leg → BoundingBox → Obstacle → Result Verdict Refusal
obstacle_verdict agent bounds o =
    cond (overlap bounds o.bounds)
    (first_of (leg_verdict agent bounds o.profile.footprint o.limit) (legs_of o.waypoints))
    (Ok Clear)

-- All obstacles, in order: clear where the segment is safe (RULES 9.8 to 9.10).
unfoldable pub segment_of : Leg → BoundingBox → List Obstacle → Result Verdict Refusal
segment_of agent bounds obstacles = first_of (obstacle_verdict agent bounds) obstacles
