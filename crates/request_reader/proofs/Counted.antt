-- The counts of a request are those of its table: what is refused for them is refused by the table's examination too
-- (RULES 3.5, 3.6, 4.2).
-- Assumes nothing.
use Prim.Native.Nat.{◌+◌, ◌-◌}
use mathlib.Core.Path.{◌≡◌, refl, sym, ap, ◌∙◌}
use mathlib.Core.Bool.{Bool, true, false, not, ◌&&◌}
use mathlib.Core.List.{List, [], ◌∷◌, map}
use lib.Dec.{leb, eqb}
use lib.ListN.{length, length-map}
use Rattle.lent.specs.Listed.{every}
use Rattle.shapes.specs.Leg.{is_rising}
use Rattle.shapes.specs.declared.profile.CircularProfile.{CircularProfile}
use Rattle.shapes.specs.declared.waypoint.Leg.{Leg}
use Rattle.shapes.specs.declared.waypoint.Waypoint.{Waypoint}
use Rattle.table.specs.Obstacle as O
use Rattle.table.specs.Obstacle.{legs_of}
use Rattle.table.specs.Lent.{obstacles_of}
use Rattle.table.specs.Examined as X
use Rattle.table.specs.Examined.{is_few, is_trajectory, are_trajectories, is_shaped, table_examined, agent_examined}
use Rattle.table.proofs.Legs.{length_legs}
use Rattle.request_format.specs.Request.{StreamObstacle}
use Rattle.request_format.specs.Format.{legs_counted, are_counted}
use Rattle.request_reader.specs.Table.{request_waypoint, obstacle_of, table_of}
use Rattle.request_reader.proofs.Laid.{table_laid}
use Rattle.request_reader.proofs.TableOf.{table_obstacles}
use Rattle.std.specs.Prelude.{Result, Ok, Err}
use Rattle.refusals.specs.declared.Refusal.{Refusal}
use Rattle.refusals.specs.declared.Refusal.TheVariants as Refusals

-- An obstacle with no waypoint or two and more.
abbrev pub is_not_single : O.Obstacle → Bool
is_not_single o = not (eqb (length o.waypoints) 1)

legs_of_all : (os : List StreamObstacle) → X.legs_in_all (map obstacle_of os) ≡ legs_counted os
unfolding X.legs_in_all legs_counted obstacle_of
legs_of_all [] = refl
legs_of_all (o ∷ os) =
    let ws : List Waypoint = map request_waypoint o.points in
    let one = length_legs ws ∙ ap (λ n. n - 1) (length-map o.points request_waypoint) in
    ap (λ n. n + X.legs_in_all (map obstacle_of os)) one ∙ ap (λ n. (length o.points - 1) + n) (legs_of_all os)

none_single : (os : List StreamObstacle) →
    every is_not_single (map obstacle_of os) ≡ every (λ (o : StreamObstacle). not (eqb (length o.points) 1)) os
unfolding every obstacle_of
none_single [] = refl
none_single (o ∷ os) = rw (length-map o.points request_waypoint, none_single os)

and_assoc : (a b c : Bool) → ((a && b) && c) ≡ (a && (b && c))
and_assoc true b c = refl
and_assoc false b c = refl

-- The table has few obstacles and legs and no single waypoint exactly where the request is counted so.
pub table_counted : (os : List StreamObstacle) →
    (is_few (obstacles_of (table_of os)) && every is_not_single (obstacles_of (table_of os))) ≡ are_counted os
unfolding is_few are_counted
table_counted os =
    let points = every (λ (o : StreamObstacle). not (eqb (length o.points) 1)) os in
    rw (table_obstacles os, none_single os, legs_of_all os, length-map os obstacle_of)
    (and_assoc (leb (length os) 32) (leb (legs_counted os) 256) points)

-- ---- What is left of the table's shape: that the times of each obstacle rise.

every_both : {A : Type 0} (f g : A → Bool) (l : List A) → every (λ x. f x && g x) l ≡ (every f l && every g l)
unfolding every
every_both f g [] = refl
every_both f g (x ∷ l) = rw (every_both f g l) (swapped (f x) (g x) (every f l) (every g l))
  where
    swapped : (a b c d : Bool) → ((a && b) && (c && d)) ≡ ((a && c) && (b && d))
    swapped true true c d = refl
    swapped true false true d = refl
    swapped true false false d = refl
    swapped false b c d = refl

-- The times of an obstacle's waypoints strictly rise.
abbrev pub rises : O.Obstacle → Bool
rises o = every is_rising (legs_of o.waypoints)

-- A table has the right shape exactly where the request is counted and the times of each obstacle rise.
pub table_shaped : (os : List StreamObstacle) →
    is_shaped (obstacles_of (table_of os)) ≡ (are_counted os && every rises (map obstacle_of os))
unfolding is_shaped are_trajectories is_trajectory
table_shaped os =
    let all = obstacles_of (table_of os) in
    rw (every_both is_not_single rises all)
    (sym (and_assoc (is_few all) (every is_not_single all) (every rises all)) ∙
    ap (λ t. t && every rises all) (table_counted os) ∙
    ap (λ l. are_counted os && every rises l) (table_obstacles os))

-- So a request that is refused for its counts is refused 2 by the table's examination too, whatever the agent.
pub uncounted_refused : (p : CircularProfile) (agent : Leg) (os : List StreamObstacle) →
    are_counted os ≡ false → agent_examined p agent (table_of os) ≡ Err Refusals.Shape
unfolding agent_examined table_examined
uncounted_refused p agent os e = rw (table_laid os, table_shaped os, e)
