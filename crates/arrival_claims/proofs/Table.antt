-- What the search counts and finds among the legs that it sees, told of the obstacles of the table (RULES 12.19, D3c).
-- Assumes nothing.
use Prim.Native.Nat.{◌+◌, ◌≤◌}
use mathlib.Core.Path.{◌≡◌, refl, sym, ap, ◌∙◌}
use mathlib.Core.Logic.{⊎_elim}
use mathlib.Core.List.Memᴰ
use mathlib.Core.List.{List, [], ◌∷◌, Memᴰ}
use native.Mathlib.Omega.{arith}
use lib.Ieee.{Float}
use Rattle.times.specs.declared.time.TimePoint.{TimePoint}
use Rattle.shapes.specs.Distance.{critical_distance_squared}
use Rattle.shapes.specs.declared.profile.CircularProfile.{CircularProfile}
use Rattle.shapes.specs.declared.waypoint.Leg.{Leg}
use Rattle.shapes.specs.declared.waypoint.Waypoint.{Waypoint}
use Rattle.proximity.specs.declared.detect.Proximity.{Proximity}
use Rattle.proximity.specs.declared.detect.Proximity.TheVariants as P
use Rattle.table.specs.Obstacle.{Obstacle, legs_from, legs_of}
use Rattle.arrival_search.specs.Search as Search
use Rattle.arrival_search.specs.Search.{watched_obstacles}
use Rattle.arrival_search.specs.Sweeps as S
use Rattle.arrival_search.specs.Sweeps.{exit_of, exits_of, finish_of, all_exits, all_finishes}
use Rattle.arrival_legs.specs.Watched.{Watched, watched, near_of, view_at, watched_legs, watched_of, watched_all}
use Rattle.arrival_claims.specs.DemandThree.{one_in, trajectories_in, last_of, Source, at_asked, at_exit, at_finish}
use Rattle.std.specs.Prelude.{Result, Ok, Err}
use Rattle.refusals.specs.declared.Refusal.{Refusal}

-- ---- Counts.

one_moves : (limit : Float) (ws : List Waypoint) (rest : List (List Watched)) →
    watched_obstacles (watched_legs limit (legs_of ws) ∷ rest) ≤ one_in ws + watched_obstacles rest
unfolding watched_obstacles watched_legs legs_of
one_moves limit [] rest = omega arith
one_moves limit (w ∷ []) rest = omega arith
one_moves limit (w ∷ (v ∷ vs)) rest = omega arith

-- An obstacle with a leg has a trajectory.
pub moving_few : (p : CircularProfile) (os : List Obstacle) → watched_obstacles (watched_all p os) ≤ trajectories_in os
unfolding watched_all trajectories_in watched_obstacles
moving_few p [] = omega arith
moving_few p (o ∷ os) =
    let here = one_moves (critical_distance_squared p o.profile) o.waypoints (watched_all p os) in
    let rest = moving_few p os in
    omega arith

-- ---- Sources.

module _ (g : Waypoint) (limit : Float) where
  record ExitIn (legs : List Leg) (t : TimePoint) : Type 0 where
    pub leg : Leg
    pub member : Memᴰ leg legs
    pub enter : TimePoint
    pub passes : near_of g limit leg ≡ Ok (P.Passes enter t)

  exit_here : (leg : Leg) (legs : List Leg) (near : Result Proximity Refusal) (t : TimePoint) → near_of g limit leg ≡ near →
      Memᴰ t (exit_of near) → ExitIn (leg ∷ legs) t
  exit_here leg legs (Ok P.Never) t e m = absurd (Memᴰ.not-nil m)
  exit_here leg legs (Ok (P.Enters enter)) t e m = absurd (Memᴰ.not-nil m)
  exit_here leg legs (Ok (P.Passes enter exit)) t e m =
      record {
        leg = leg;
        member = Memᴰ.head refl;
        enter = enter;
        passes = e ∙ ap (λ (x : TimePoint). Ok (P.Passes enter x)) (sym (Memᴰ.eq_of_singleton m));
      }
  exit_here leg legs (Err why) t e m = absurd (Memᴰ.not-nil m)

  exit_in : (legs : List Leg) (t : TimePoint) → Memᴰ t (exits_of (view_at g) (watched_legs limit legs)) → ExitIn legs t
  unfolding watched_legs
  exit_in [] t m = absurd (Memᴰ.not-nil m)
  exit_in (leg ∷ legs) t m =
      ⊎_elim (exit_here leg legs (near_of g limit leg) t refl)
      (λ k. let x = exit_in legs t k in
      record { leg = x.leg; member = Memᴰ.tail x.member; enter = x.enter; passes = x.passes })
      (Memᴰ.append_cases (exit_of (near_of g limit leg)) m)

  ends_last : (v w : Waypoint) (ws : List Waypoint) →
      Search.finish (view_at g) (watched limit (record { start = v; end = w })) (watched_legs limit (legs_from w ws)) ≡
      (last_of w ws).time
  unfolding watched_legs
  ends_last v w [] = refl
  ends_last v w (u ∷ us) = ends_last w u us

-- What has its source among these obstacles has it with one more.
widened : {p : CircularProfile} {g : Waypoint} {os : List Obstacle} {t : TimePoint} (o : Obstacle) →
    Source p g os t → Source p g (o ∷ os) t
widened o (at_asked e) = at_asked e
widened o (at_exit m leg passes) = at_exit (Memᴰ.tail m) leg passes
widened o (at_finish m ws e) = at_finish (Memᴰ.tail m) ws e

module _ (p : CircularProfile) (g : Waypoint) where
  exit_source : (os : List Obstacle) (t : TimePoint) → Memᴰ t (all_exits (view_at g) (watched_all p os)) → Source p g os t
  unfolding watched_all
  exit_source [] t m = absurd (Memᴰ.not-nil m)
  exit_source (o ∷ os) t m =
      let limit = critical_distance_squared p o.profile in
      ⊎_elim
      (λ k. let x = exit_in g limit (legs_of o.waypoints) t k in at_exit (Memᴰ.head refl) x.member x.passes)
      (λ k. widened o (exit_source os t k))
      (Memᴰ.append_cases (exits_of (view_at g) (watched_of p o)) m)

  finish_here : (o : Obstacle) (os : List Obstacle) (ws : List Waypoint) (t : TimePoint) → o.waypoints ≡ ws →
      Memᴰ t (finish_of (view_at g) (watched_legs (critical_distance_squared p o.profile) (legs_of ws))) →
      Source p g (o ∷ os) t
  unfolding legs_of watched_legs
  finish_here o os [] t e m = absurd (Memᴰ.not-nil m)
  finish_here o os (w ∷ []) t e m = absurd (Memᴰ.not-nil m)
  finish_here o os (w ∷ (v ∷ vs)) t e m =
      at_finish (Memᴰ.head refl) e
      (Memᴰ.eq_of_singleton m ∙ ends_last g (critical_distance_squared p o.profile) w v vs)

  finish_source : (os : List Obstacle) (t : TimePoint) → Memᴰ t (all_finishes (view_at g) (watched_all p os)) → Source p g os t
  unfolding watched_all
  finish_source [] t m = absurd (Memᴰ.not-nil m)
  finish_source (o ∷ os) t m =
      ⊎_elim (finish_here o os o.waypoints t refl) (λ k. widened o (finish_source os t k))
      (Memᴰ.append_cases (finish_of (view_at g) (watched_of p o)) m)

  -- The time asked for, an exit or a finish.
  pub source : (os : List Obstacle) (t : TimePoint) → S.Source (view_at g) (watched_all p os) g.time t → Source p g os t
  source os t = ⊎_elim at_asked (⊎_elim (exit_source os t) (finish_source os t))
