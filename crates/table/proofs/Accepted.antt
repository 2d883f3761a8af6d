-- An input that is accepted has the numbers of the table, and each leg of an obstacle ends after it starts (RULES 3.1 to 3.6).
-- Assumes nothing.
use mathlib.Core.Path.{◌≡◌, refl}
use mathlib.Core.Bool.{Bool, true, false, not, ◌&&◌}
use mathlib.Core.List.{List, [], ◌∷◌}
use lib.Dec.{eqb}
use lib.ListN.{length}
use Rattle.lent.specs.Listed.{every}
use Rattle.times.proofs.Exact.{both}
use Rattle.shapes.specs.Leg.{is_backward, is_rising}
use Rattle.domain.specs.Domain.{is_limit, is_waypoint, is_leg, is_profile}
use Rattle.shapes.specs.declared.profile.CircularProfile.{CircularProfile}
use Rattle.shapes.specs.declared.waypoint.Leg.{Leg}
use Rattle.shapes.specs.declared.waypoint.Waypoint.{Waypoint}
use Rattle.table.specs.Obstacle.{Obstacle, legs_from, legs_of}
use Rattle.table.specs.Lent.{Lent, obstacles_of}
use Rattle.table.specs.Examined.{is_laid, is_trajectory, is_few, are_trajectories, is_shaped, is_allowed, are_allowed, table_examined, agent_examined}
use Rattle.table.proofs.Shaped.{fine_fits}
use Rattle.std.specs.Prelude.{Result, Ok, Err}
use Rattle.refusals.specs.declared.Refusal.{Refusal}

-- A leg of the table that ends after it starts.
abbrev pub is_driven : Leg → Bool
is_driven leg = is_leg leg && is_rising leg

-- An obstacle with a profile of the table and such legs.
abbrev pub is_fit : Obstacle → Bool
is_fit o = is_profile o.profile && every is_driven (legs_of o.waypoints)

-- The agent's profile and leg, and each obstacle.
pub record Accepted (p : CircularProfile) (leg : Leg) (obstacles : List Obstacle) : Type 0 where
  pub profile : is_profile p ≡ true
  pub own : is_leg leg ≡ true
  pub forward : is_backward leg ≡ false
  pub others : every is_fit obstacles ≡ true

legs_driven : (w : Waypoint) (ws : List Waypoint) →
    is_waypoint w ≡ true → every is_waypoint ws ≡ true → every is_rising (legs_from w ws) ≡ true →
    every is_driven (legs_from w ws) ≡ true
unfolding every is_leg
legs_driven w [] e es rising = refl
legs_driven w (v ∷ vs) e es rising =
    let next = both (is_waypoint v) (every is_waypoint vs) es in
    let rises = both (is_rising (record { start = w; end = v })) (every is_rising (legs_from v vs)) rising in
    rw (e, next.0, rises.0) (legs_driven v vs next.0 next.1 rises.1)

trajectory_driven : (ws : List Waypoint) →
    every is_waypoint ws ≡ true → is_trajectory ws ≡ true → every is_driven (legs_of ws) ≡ true
unfolding is_trajectory legs_of every
trajectory_driven [] es moves = refl
trajectory_driven (w ∷ ws) es moves =
    let here = both (is_waypoint w) (every is_waypoint ws) es in
    let rising = (both (not (eqb (length (w ∷ ws)) 1)) (every is_rising (legs_from w ws)) moves).1 in
    legs_driven w ws here.0 here.1 rising

obstacle_fit : (o : Obstacle) → is_allowed o ≡ true → is_trajectory o.waypoints ≡ true → is_fit o ≡ true
unfolding is_allowed
obstacle_fit o allowed moves =
    let numbers = both (is_profile o.profile) (is_limit o.limit && every is_waypoint o.waypoints) allowed in
    let places = (both (is_limit o.limit) (every is_waypoint o.waypoints) numbers.1).1 in
    rw numbers.0 (trajectory_driven o.waypoints places moves)

obstacles_fit : (os : List Obstacle) →
    every is_allowed os ≡ true → every (λ o. is_trajectory o.waypoints) os ≡ true → every is_fit os ≡ true
unfolding every
obstacles_fit [] allowed moves = refl
obstacles_fit (o ∷ os) allowed moves =
    let numbers = both (is_allowed o) (every is_allowed os) allowed in
    let times = both (is_trajectory o.waypoints) (every (λ x. is_trajectory x.waypoints) os) moves in
    let here = both (is_profile o.profile) (every is_driven (legs_of o.waypoints)) (obstacle_fit o numbers.0 times.0) in
    rw (here.0, here.1) (obstacles_fit os numbers.1 times.1)

-- An input that is fine.
pub table_accepted : (laid : Bool) (p : CircularProfile) (leg : Leg) (os : List Obstacle) →
    table_examined laid p leg os ≡ (Ok tt) → Accepted p leg os
unfolding is_shaped are_trajectories are_allowed
table_accepted laid p leg os e =
    let f = fine_fits laid p leg os e in
    record {
      profile = f.profile;
      own = f.own;
      forward = f.forward;
      others = obstacles_fit os f.allowed (both (is_few os) (are_trajectories os) f.shaped).1;
    }

-- The same for lent lists.
pub accepted : (p : CircularProfile) (leg : Leg) (lent : Lent) →
    agent_examined p leg lent ≡ (Ok tt) → Accepted p leg (obstacles_of lent)
unfolding agent_examined
accepted p leg lent = table_accepted (is_laid lent) p leg (obstacles_of lent)
