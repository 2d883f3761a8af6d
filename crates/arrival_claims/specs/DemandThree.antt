-- Demand 3, of the call for arrival times: its search cannot wander (RULES D3a to D3e). It holds of every call: `demand_three` of
-- proofs/DemandThree.
-- Assumes nothing.
use Rattle.std.specs.Prelude.{ℕ, ◌+◌, ◌≤◌, ◌≡◌, ◌≢◌, ◌↔◌, ◌<ℤ◌}
use mathlib.Core.List.{List, [], ◌∷◌, Memᴰ}
use Rattle.times.specs.declared.time.TimePoint.{TimePoint}
use Rattle.shapes.specs.Distance.{critical_distance_squared}
use Rattle.shapes.specs.declared.profile.CircularProfile.{CircularProfile}
use Rattle.shapes.specs.declared.waypoint.Leg.{Leg}
use Rattle.shapes.specs.declared.waypoint.Waypoint.{Waypoint}
use Rattle.proximity.specs.declared.detect.Proximity.TheVariants as P
use Rattle.table.specs.Obstacle.{Obstacle, legs_of}
use Rattle.table.specs.Lent.{Lent, obstacles_of}
use Rattle.table.specs.Examined.{legs_in_all, agent_examined}
use Rattle.arrival_search.specs.Search.{Answered, Refused, Unfinished}
use Rattle.arrival_search.specs.Sweeps.{All, Rising, Then, Stuck, Gives}
use Rattle.arrival_legs.specs.Watched.{Watched, near_of, view_at, watched_all}
use Rattle.arrival_times.specs.Asked.{asked_arrivals}
use Rattle.std.specs.Prelude.{Ok}
use Rattle.refusals.specs.declared.Refusal as Declared
use Rattle.refusals.specs.declared.Refusal.TheVariants as Refusals

-- O: the obstacles with a trajectory, which are those with a waypoint; L is `legs_in_all` (RULES 3.6, 12.19).
abbrev pub one_in : List Waypoint → ℕ
one_in [] = 0
one_in (w ∷ ws) = 1

unfoldable pub trajectories_in : List Obstacle → ℕ
trajectories_in [] = 0
trajectories_in (o ∷ os) = one_in o.waypoints + trajectories_in os

-- The last waypoint of a trajectory.
abbrev pub last_of : Waypoint → List Waypoint → Waypoint
last_of w [] = w
last_of w (v ∷ vs) = last_of v vs

-- Where a time may come from, for an agent that stands at g: the time asked for, the exit of a leg of an obstacle, held to the
-- critical distance squared of the two, or the finish of an obstacle (RULES D3c).
pub data Source (p : CircularProfile) (g : Waypoint) (os : List Obstacle) (t : TimePoint) : Type 0 where
  at_asked : t ≡ g.time → Source p g os t
  at_exit : {o : Obstacle} {leg : Leg} {enter : TimePoint} → Memᴰ o os → Memᴰ leg (legs_of o.waypoints) →
      near_of g (critical_distance_squared p o.profile) leg ≡ Ok (P.Passes enter t) → Source p g os t
  at_finish : {o : Obstacle} {w : Waypoint} {ws : List Waypoint} → Memᴰ o os → o.waypoints ≡ w ∷ ws →
      t ≡ (last_of w ws).time → Source p g os t

-- The refusals that there are: for the numbers and for the shape of the input, for creep, and for a search that is stuck
-- (RULES 4.1, 4.2, 4.5, 4.8).
pub data Refusal : Declared.Refusal → Type 0 where
  by_numbers : Refusal Refusals.Number
  by_shape : Refusal Refusals.Shape
  by_creep : Refusal Refusals.Creep
  by_stuck : Refusal Refusals.Stuck

-- The legs of each obstacle, each with its limit, as the search sees them.
abbrev pub seen : CircularProfile → Lent → List (List Watched)
seen p lent = watched_all p (obstacles_of lent)

module _ (p : CircularProfile) (g : Waypoint) (lent : Lent) where
  -- The input is in the table of the domain, so that there is a search (RULES 5.1).
  abbrev pub Accepts : Type 0
  Accepts = agent_examined p (record { start = g; end = g }) lent ≡ Ok tt

  pub record DemandThree : Type 0 where
    -- An answered search makes at most L + O + 1 sweeps (RULES D3a),
    pub at_most : {l : List TimePoint} {n : ℕ} → asked_arrivals p g lent ≡ Answered l n →
        n ≤ legs_in_all (obstacles_of lent) + trajectories_in (obstacles_of lent) + 1
    -- and there is no search that is neither answered nor refused.
    pub finished : asked_arrivals p g lent ≢ Unfinished
    -- The times listed rise strictly, and each sweep begins later than the one before it (RULES D3b).
    pub rising : {l : List TimePoint} {n : ℕ} → asked_arrivals p g lent ≡ Answered l n → Rising l
    pub later : {a b : TimePoint} → Then (view_at g) (seen p lent) a b → a.0 <ℤ b.0
    -- Each time listed has its source in the input (RULES D3c).
    pub sources : {l : List TimePoint} {n : ℕ} → asked_arrivals p g lent ≡ Answered l n → All (Source p g (obstacles_of lent)) l
    -- List and count are answered exactly where the sequence of sweeps gives them (RULES D3d).
    pub sequence : {l : List TimePoint} {n : ℕ} →
        (asked_arrivals p g lent ≡ Answered l n) ↔ (Accepts × Gives (view_at g) (seen p lent) g.time [] l n)
    -- The call is refused 8 exactly where it is stuck (RULES D3e),
    pub stuck : (asked_arrivals p g lent ≡ Refused Refusals.Stuck) ↔ (Accepts × Stuck (view_at g) (seen p lent) g.time)
    -- never 9 (RULES 12.9),
    pub never_nine : asked_arrivals p g lent ≢ Refused Refusals.Late
    -- and else by 1, 2 or 5 only.
    pub refusals : {why : Declared.Refusal} → asked_arrivals p g lent ≡ Refused why → Refusal why
