-- The walk over all obstacles and their legs (RULES 10.1 to 10.7).
-- Assumes nothing.
use Rattle.std.specs.Prelude.{ℕ, suc, cond, List, [], ◌∷◌, Float, Result, Ok, Err, Option, Some, None}
use Rattle.floats.specs.Constants.{thousandth}
use Rattle.refusals.specs.declared.Refusal.{Refusal}
use Rattle.refusals.specs.declared.Refusal.TheVariants as Refusals
use Rattle.times.specs.declared.time.Strayed.{Strayed}
use Rattle.shapes.specs.Box.{box_of_leg, inflated, overlap}
use Rattle.shapes.specs.Distance.{critical_distance, critical_distance_squared, follow_distance}
use Rattle.shapes.specs.declared.bounding_box.BoundingBox.{BoundingBox}
use Rattle.shapes.specs.declared.profile.CircularProfile.{CircularProfile}
use Rattle.shapes.specs.declared.waypoint.Leg.{Leg}
use Rattle.courses.specs.Course.{run_of, course_of}
use Rattle.courses.specs.declared.course.Course.{Course}
use Rattle.courses.specs.declared.course.Run.{Run}
use Rattle.table.specs.Obstacle.{Obstacle, legs_of}
use Rattle.hint_list.specs.Hints.{Hints, Of, Refused, found_then}
use Rattle.hint_chasing.specs.declared.chase.Gaps.{Gaps}
use Rattle.hint_walk.specs.LegHints.{leg_hints}
use Rattle.hint_walk.specs.declared.walk.Other.{Other}

-- The distances that the agent keeps from an obstacle: D, D * D and F (RULES 10.6, 10.18).
unfoldable pub gaps_of : CircularProfile → CircularProfile → Gaps
gaps_of p q = record { critical = critical_distance p q; squared = critical_distance_squared p q; follow = follow_distance p q }

-- What the search needs of an obstacle of that number and profile.
unfoldable pub other_of : CircularProfile → ℕ → CircularProfile → Other
other_of p number q = record { number = number; footprint = q.footprint; gaps = gaps_of p q }

-- The box of a leg: its footprint's, then grown by 1e-3 in a step of its own (RULES 10.4).
abbrev pub hint_box : Float → Leg → BoundingBox
hint_box footprint leg = inflated (box_of_leg footprint leg) thousandth

-- The hints for one leg, behind n others; none where its box does not overlap the agent's (RULES 10.3, 10.7).
unfoldable pub near_leg : Course → BoundingBox → Other → Leg → ℕ → Hints
near_leg agent bounds other leg n = cond (overlap bounds (hint_box other.footprint leg)) (by (run_of leg)) (Of [])
  where
    by : Result Run Strayed → Hints
    by (Ok run) = leg_hints agent run other.gaps other.number n
    by (Err _) = Refused Refusals.Strayed

-- Those for legs in order.
unfoldable pub near_legs : Course → BoundingBox → Other → List Leg → ℕ → Hints
near_legs agent bounds other [] n = Of []
near_legs agent bounds other (leg ∷ legs) n = found_then n (near_leg agent bounds other leg n) (near_legs agent bounds other legs)

-- Those for one obstacle, of that number; none where its whole box does not overlap the agent's (RULES 10.3, 10.4).
unfoldable pub near_obstacle : Course → CircularProfile → BoundingBox → ℕ → Obstacle → ℕ → Hints
near_obstacle agent p bounds number o n =
    cond (overlap bounds o.bounds) (near_legs agent bounds (other_of p number o.profile) (legs_of o.waypoints) n) (Of [])

-- Those for obstacles in order, numbered from `number` on, those without a trajectory too (RULES 10.3, 10.5).
unfoldable pub near_obstacles : Course → CircularProfile → BoundingBox → ℕ → List Obstacle → ℕ → Hints
near_obstacles agent p bounds number [] n = Of []
near_obstacles agent p bounds number (o ∷ os) n =
    found_then n (near_obstacle agent p bounds number o n) (near_obstacles agent p bounds (suc number) os)

-- All of them, for the agent's leg in its box; none where the agent hardly moves (RULES 10.1).
unfoldable pub hints_of : CircularProfile → Leg → BoundingBox → List Obstacle → Hints
hints_of p leg bounds obstacles = by (course_of leg)
  where
    by : Result (Option Course) Refusal → Hints
    by (Ok (Some agent)) = near_obstacles agent p bounds 0 obstacles 0
    by (Ok None) = Of []
    by (Err why) = Refused why
