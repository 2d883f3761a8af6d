-- What is wrong with a table (RULES 3.1 to 3.6, 5.1): 2 for its lists, its counts and the order of its times, 1 for its numbers.
-- Assumes nothing.
use Rattle.std.specs.Prelude.{ℕ, ◌+◌, ◌*◌, Bool, not, ◌&&◌, cond, List, [], ◌∷◌, leb, eqb, length}
use Rattle.refusals.specs.Names.{NUMBER, SHAPE, BACKWARD}
use Rattle.lent.specs.Listed.{listed_to, every}
use Rattle.shapes.specs.Leg.{is_backward, is_rising}
use Rattle.domain.specs.Domain.{is_limit, is_waypoint, is_leg, is_profile}
use Rattle.shapes.specs.declared.profile.CircularProfile.{CircularProfile}
use Rattle.shapes.specs.declared.waypoint.Leg.{Leg}
use Rattle.shapes.specs.declared.waypoint.Waypoint.{Waypoint}
use Rattle.table.specs.Obstacle.{Obstacle, legs_of}
use Rattle.table.specs.Lent.{Lent, start_in, obstacles_of}
use Rattle.std.specs.Prelude.{Result, Ok, Err}
use Rattle.refusals.specs.declared.Refusal.{Refusal}
use Rattle.refusals.specs.declared.Refusal.TheVariants as Refusals

-- The starts begin at 0 and never fall, up to the count of waypoints: each waypoint belongs to one obstacle.
unfoldable pub tiles : List ℕ → ℕ → Bool
tiles starts count =
    eqb (start_in starts count 0) 0 &&
    every (λ o. leb (start_in starts count o) (start_in starts count (o + 1))) (listed_to (λ o. o) (length starts) 0)

-- The lists fit one another: a time, an x and a y for each waypoint, three numbers for each obstacle.
unfoldable pub is_laid : Lent → Bool
is_laid lent =
    eqb (length lent.xs) (length lent.times) &&
    (eqb (length lent.ys) (length lent.times) &&
    (eqb (length lent.numbers) (3 * length lent.starts) && tiles lent.starts (length lent.times)))

-- No waypoint or two and more, their times strictly rising (RULES 3.6).
unfoldable pub is_trajectory : List Waypoint → Bool
is_trajectory ws = not (eqb (length ws) 1) && every is_rising (legs_of ws)

-- How many legs there are in all.
unfoldable pub legs_in_all : List Obstacle → ℕ
legs_in_all [] = 0
legs_in_all (o ∷ os) = length (legs_of o.waypoints) + legs_in_all os

-- At most 32 obstacles and 256 legs (RULES 3.5).
unfoldable pub is_few : List Obstacle → Bool
is_few os = leb (length os) 32 && leb (legs_in_all os) 256

-- Every obstacle's waypoints are a trajectory.
unfoldable pub are_trajectories : List Obstacle → Bool
are_trajectories os = every (λ o. is_trajectory o.waypoints) os

-- The counts and the order of times are those of the table; else the refusal is 2 (RULES 4.2).
unfoldable pub is_shaped : List Obstacle → Bool
is_shaped os = is_few os && are_trajectories os

-- An obstacle's numbers are in the table (RULES 3.1 to 3.4).
unfoldable pub is_allowed : Obstacle → Bool
is_allowed o = is_profile o.profile && (is_limit o.limit && every is_waypoint o.waypoints)

-- All of them are; else the refusal is 1 (RULES 4.1).
unfoldable pub are_allowed : List Obstacle → Bool
are_allowed os = every is_allowed os

-- What is wrong with the agent's profile and leg and the obstacles, whose lists fit one another or do not: every ground for 2 before
-- any for 1, and 3 last (RULES 5.1).
unfoldable pub table_examined : Bool → CircularProfile → Leg → List Obstacle → Result Unit Refusal
table_examined laid p leg os =
    cond (laid && is_shaped os)
    (cond (is_profile p && (is_leg leg && are_allowed os)) (cond (is_backward leg) (Err Refusals.Backward) (Ok tt)) (Err Refusals.Number))
    (Err Refusals.Shape)

-- The same for lent lists.
unfoldable pub agent_examined : CircularProfile → Leg → Lent → Result Unit Refusal
agent_examined p leg lent = table_examined (is_laid lent) p leg (obstacles_of lent)
