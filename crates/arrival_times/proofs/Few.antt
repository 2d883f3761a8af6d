-- An input that is accepted has few legs and obstacles, so that a search makes few sweeps and lists few times
-- (RULES 3.5, 12.19).
-- Assumes nothing.
use Prim.Native.Nat.{ℕ, suc, ◌+◌, ◌≤◌}
use mathlib.Core.Path.{◌≡◌, refl, ap}
use mathlib.Core.Bool.{true, true≢false}
use mathlib.Core.List.{List, [], ◌∷◌}
use native.Mathlib.Omega.{arith}
use lib.Ieee.{Float}
use lib.ListN.{length}
use Rattle.times.specs.declared.time.TimePoint.{TimePoint}
use Rattle.shapes.specs.Distance.{critical_distance_squared}
use Rattle.shapes.specs.declared.profile.CircularProfile.{CircularProfile}
use Rattle.shapes.specs.declared.waypoint.Leg.{Leg}
use Rattle.shapes.specs.declared.waypoint.Waypoint.{Waypoint}
use Rattle.table.specs.Obstacle.{Obstacle, legs_of}
use Rattle.table.specs.Lent.{Lent, obstacles_of}
use Rattle.table.specs.Examined.{legs_in_all, is_few, agent_examined}
use Rattle.table.proofs.Shaped.{shaped_few, few_obstacles, few_legs, fine_shaped}
use Rattle.arrival_search.specs.Search.{Answered, legs_in, watched_obstacles}
use Rattle.arrival_search.proofs.Theorems.{at_most, fewer}
use Rattle.arrival_legs.specs.Watched.{view_at, watched_legs, watched_all, arrivals_at}
use Rattle.arrival_times.specs.Asked.{asked_arrivals}
use Rattle.std.specs.Prelude.{Result, Ok, Err}
use Rattle.refusals.specs.declared.Refusal.{Refusal}

-- Every leg is watched,
length_watched : (limit : Float) (legs : List Leg) → length (watched_legs limit legs) ≡ length legs
unfolding watched_legs
length_watched limit [] = refl
length_watched limit (leg ∷ legs) = ap suc (length_watched limit legs)

pub legs_watched : (p : CircularProfile) (os : List Obstacle) → legs_in (watched_all p os) ≡ legs_in_all os
unfolding legs_in watched_all legs_in_all
legs_watched p [] = refl
legs_watched p (o ∷ os) =
    let here = length_watched (critical_distance_squared p o.profile) (legs_of o.waypoints) in
    let rest = legs_watched p os in
    omega arith

-- and every obstacle, of which those with a trajectory are some.
pub moving_few : {A : Type 0} (os : List (List A)) → watched_obstacles os ≤ length os
unfolding watched_obstacles
moving_few [] = omega arith
moving_few ([] ∷ os) = let rest = moving_few os in omega arith
moving_few ((l ∷ ls) ∷ os) = let rest = moving_few os in omega arith

pub watched_count : (p : CircularProfile) (os : List Obstacle) → length (watched_all p os) ≡ length os
unfolding watched_all
watched_count p [] = refl
watched_count p (o ∷ os) = ap suc (watched_count p os)

-- At most 256 legs and 32 obstacles.
few_watched : (p : CircularProfile) (os : List Obstacle) → is_few os ≡ true →
    legs_in (watched_all p os) + watched_obstacles (watched_all p os) ≤ 288
few_watched p os e =
    let legs = legs_watched p os in
    let all = watched_count p os in
    let obstacles = moving_few (watched_all p os) in
    omega (arith, few_legs os e, few_obstacles os e)

-- An input that is accepted has few.
fine_is_few : (p : CircularProfile) (agent : Leg) (lent : Lent) →
    agent_examined p agent lent ≡ (Ok tt) → is_few (obstacles_of lent) ≡ true
fine_is_few p agent lent e = shaped_few (obstacles_of lent) (fine_shaped p agent lent e)

-- So a search that is answered makes at most 289 sweeps, and lists no more times than that (RULES 12.14, 12.19).
pub few_listed : (p : CircularProfile) (g : Waypoint) (os : List Obstacle) (l : List TimePoint) (n : ℕ) →
    is_few os ≡ true → arrivals_at p g os ≡ Answered l n → length l ≤ 289
unfolding arrivals_at
few_listed p g os l n few e =
    let times = fewer (view_at g) (watched_all p os) g.time e in
    let sweeps = at_most (view_at g) (watched_all p os) g.time e in
    omega (arith, few_watched p os few)

pub asked_few : (p : CircularProfile) (g : Waypoint) (lent : Lent) (l : List TimePoint) (n : ℕ) →
    asked_arrivals p g lent ≡ Answered l n → length l ≤ 289
unfolding asked_arrivals
asked_few p g lent l n e = by (agent_examined p agent lent) refl
  where
    agent : Leg
    agent = record { start = g; end = g }

    by : (x : Result Unit Refusal) → agent_examined p agent lent ≡ x → length l ≤ 289
    by (Ok tt) fine = few_listed p g (obstacles_of lent) l n (fine_is_few p agent lent fine) (rw fine at e)
    by (Err m) refused = absurd (true≢false (cc (rw refused at e)))
