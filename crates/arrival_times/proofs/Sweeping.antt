-- How a sweep, and the search for the next candidate, go over the obstacles of a table: one at a time, up to the end.
-- Assumes nothing.
use Prim.Native.Nat.{ℕ, ◌+◌, ◌≤◌, ◌<◌}
use mathlib.Core.Path.{◌≡◌, ap}
use mathlib.Core.Bool.{Bool, cond}
use mathlib.Core.List.{List, [], ◌∷◌}
use lib.Ieee.{Float}
use Rattle.lent.specs.Listed.{listed_to}
use Rattle.lent.proofs.Listed.{listed_done, listed_next}
use Rattle.times.specs.declared.time.TimePoint.{TimePoint}
use Rattle.shapes.specs.Distance.{critical_distance_squared}
use Rattle.shapes.specs.declared.profile.CircularProfile.{CircularProfile}
use Rattle.shapes.specs.declared.waypoint.Waypoint.{Waypoint}
use Rattle.table.specs.Table.{profile_in, obstacle_in}
use Rattle.table.proofs.Walking.{legs_in_law}
use Rattle.arrival_search.specs.Search.{found, swept, adjust, next, soonest, sweep}
use Rattle.arrival_search.specs.declared.turn.Swept.TheVariants as W
use Rattle.arrival_legs.specs.Watched.{Watched, view_at, watched_legs, watched_of, watched_all}
use Rattle.arrival_legs.specs.Track.{track_in, tracked_from}
use Rattle.std.specs.Prelude.{Result, Ok}
use Rattle.std.specs.Prelude.{Option}
use Rattle.refusals.specs.declared.Refusal.{Refusal}

-- The legs of the track of obstacle o of a table are the obstacle's; its box plays no part (RULES 12.1).
pub obstacle_watched : (p : CircularProfile) (marks : List ℕ) (places : List Float) (o : ℕ) →
    let track = track_in p marks places o in
    tracked_from track marks places track.first ≡ watched_of p (obstacle_in marks places o)
unfolding track_in
obstacle_watched p marks places o =
    ap (watched_legs (critical_distance_squared p (profile_in places o))) (legs_in_law marks places o)

module _ (p : CircularProfile) (place : Waypoint) (marks : List ℕ) (places : List Float) (end o : ℕ) where
  -- The obstacles from k on.
  abbrev from : ℕ → List (List Watched)
  from k = watched_all p (listed_to (obstacle_in marks places) end k)

  abbrev legs : List Watched
  legs = let track = track_in p marks places o in tracked_from track marks places track.first

  watched_next : o < end → from o ≡ legs ∷ from (o + 1)
  unfolding watched_all
  watched_next h = rw (listed_next (obstacle_in marks places) end o h, obstacle_watched p marks places o)

  watched_done : end ≤ o → from o ≡ []
  unfolding watched_all
  watched_done h = rw (listed_done (obstacle_in marks places) end o h)

  -- What obstacle o does to the candidate, then the sweep over the rest (RULES 12.4).
  pub sweep_next : (c : TimePoint) (pushed : Bool) → o < end → sweep (view_at place) c pushed (from o) ≡
      swept (adjust (view_at place) c legs) c pushed (λ t b. sweep (view_at place) t b (from (o + 1)))
  unfolding sweep
  sweep_next c pushed h = rw (watched_next h)

  -- At the end of a sweep the candidate has been pushed or not (RULES 12.11, 12.14).
  pub sweep_done : (c : TimePoint) (pushed : Bool) → end ≤ o →
      sweep (view_at place) c pushed (from o) ≡ cond pushed (Ok (W.Moved c)) (Ok W.Still)
  unfolding sweep
  sweep_done c pushed h = rw (watched_done h)

  -- What obstacle o gives, then the smallest of it and the rest (RULES 12.15 to 12.17).
  pub soonest_next : (c : TimePoint) (best : Result (Option TimePoint) Refusal) → o < end →
      soonest (view_at place) c best (from o) ≡
      found (next (view_at place) c legs) best (λ b. soonest (view_at place) c b (from (o + 1)))
  unfolding soonest
  soonest_next c best h = rw (watched_next h)

  -- At the end there is the best so far (RULES 12.17).
  pub soonest_done : (c : TimePoint) (best : Result (Option TimePoint) Refusal) → end ≤ o →
      soonest (view_at place) c best (from o) ≡ best
  unfolding soonest
  soonest_done c best h = rw (watched_done h)

pub ruleset sweeping = (sweep_next, sweep_done)

pub ruleset following = (soonest_next, soonest_done)
