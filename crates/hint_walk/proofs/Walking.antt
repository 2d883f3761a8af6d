-- How the walks over legs and over obstacles go: a turn at a time, up to the end or a refusal.
-- Assumes nothing.
use Prim.Native.Nat.{ℕ, ◌+◌, ◌≤◌, ◌<◌}
use mathlib.Core.Path.{◌≡◌, refl}
use mathlib.Core.Bool.{Bool, true, false, cond}
use mathlib.Core.List.{List, []}
use native.Mathlib.Numerals.{add-one}
use lib.Ieee.{Float}
use Rattle.std.specs.Prelude.{Result, Ok, Err}
use Rattle.refusals.specs.declared.Refusal.{Refusal}
use Rattle.lent.specs.Listed.{listed_to}
use Rattle.lent.proofs.Listed.{listed_done, listed_next}
use Rattle.shapes.specs.Box.{overlap}
use Rattle.shapes.specs.declared.bounding_box.BoundingBox.{BoundingBox}
use Rattle.shapes.specs.declared.profile.CircularProfile.{CircularProfile}
use Rattle.shapes.specs.declared.waypoint.Leg.{Leg}
use Rattle.courses.specs.declared.course.Course.{Course}
use Rattle.table.specs.Obstacle.{Obstacle, legs_of}
use Rattle.table.specs.Table.{first_in, profile_in, box_in, leg_in, waypoints_in, obstacle_in}
use Rattle.table.specs.Walked.{walked_in}
use Rattle.table.proofs.Walking as T
use Rattle.hint_list.specs.Hints.{Hints, Of}
use Rattle.hint_list.specs.Adding.{Added}
use Rattle.hint_list.proofs.Added.{added_none, added_then, added_ended}
use Rattle.hint_walk.specs.Walk.{other_of, near_leg, near_legs, near_obstacle, near_obstacles}
use Rattle.hint_walk.specs.declared.walk.Other.{Other}

-- An answer with no hints adds none.
pub nothing_added : (answer : Hints) (n : ℕ) (words : List ℕ) → answer ≡ Of [] → Added answer n words words (Ok n)
nothing_added answer n words e = rw e (added_none n words)

-- ---- The legs of one obstacle, from leg i on, up to the waypoint at `last` (RULES 10.3).

module _ (agent : Course) (bounds : BoundingBox) (other : Other) (f : ℕ → Leg) (last i : ℕ) where
  abbrev legs_from : ℕ → ℕ → Hints
  legs_from j = near_legs agent bounds other (listed_to f last j)

  -- At the end nothing is added.
  legs_done : (n : ℕ) → last ≤ i → legs_from i n ≡ Of []
  unfolding near_legs
  legs_done n h = rw (listed_done f last i h)

  pub legs_walked : (n : ℕ) (words : List ℕ) → last ≤ i → Added (legs_from i n) n words words (Ok n)
  legs_walked n words h = rw (legs_done n h) (added_none n words)

  -- Past a leg that refuses nothing the walk is the rest, behind what was found.
  pub leg_goes_on : (n m : ℕ) {lent mid left : List ℕ} {r : Result ℕ Refusal} → i < last →
      Added (near_leg agent bounds other (f i) n) n lent mid (Ok m) → Added (legs_from (i + 1) m) m mid left r →
      Added (legs_from i n) n lent left r
  unfolding near_legs
  leg_goes_on n m h here rest = rw (listed_next f last i h) (added_then n m _ (legs_from (i + 1)) here rest)

  -- A leg that refuses ends it.
  pub leg_ends : (n : ℕ) (why : Refusal) {lent left : List ℕ} → i < last →
      Added (near_leg agent bounds other (f i) n) n lent left (Err why) →
      Added (legs_from i n) n lent left (Err why)
  unfolding near_legs
  leg_ends n why h here = rw (listed_next f last i h) (added_ended n why _ (legs_from (i + 1)) here)

-- ---- The obstacles, from obstacle o on (RULES 10.3, 10.5).

module _ (agent : Course) (p : CircularProfile) (bounds : BoundingBox) (f : ℕ → Obstacle) (end o : ℕ) where
  abbrev obstacles_from : ℕ → ℕ → Hints
  obstacles_from k = near_obstacles agent p bounds k (listed_to f end k)

  -- At the end nothing is added.
  pub obstacles_walked : (n : ℕ) (words : List ℕ) → end ≤ o → Added (obstacles_from o n) n words words (Ok n)
  unfolding near_obstacles
  obstacles_walked n words h = rw (listed_done f end o h) (added_none n words)

  -- Past an obstacle that refuses nothing the walk is the rest, behind what was found.
  pub obstacle_goes_on : (n m : ℕ) {lent mid left : List ℕ} {r : Result ℕ Refusal} → o < end →
      Added (near_obstacle agent p bounds o (f o) n) n lent mid (Ok m) → Added (obstacles_from (o + 1) m) m mid left r →
      Added (obstacles_from o n) n lent left r
  unfolding near_obstacles
  obstacle_goes_on n m h here rest =
      rw (listed_next f end o h, ← add-one o) (added_then n m _ (obstacles_from (o + 1)) here rest)

  -- An obstacle that refuses ends it.
  pub obstacle_ends : (n : ℕ) (why : Refusal) {lent left : List ℕ} → o < end →
      Added (near_obstacle agent p bounds o (f o) n) n lent left (Err why) →
      Added (obstacles_from o n) n lent left (Err why)
  unfolding near_obstacles
  obstacle_ends n why h here = rw (listed_next f end o h) (added_ended n why _ _ here)

-- The walk over the legs of obstacle o of a table, up to where it is walked, is the obstacle's (RULES 10.3, 10.4).
pub obstacle_legs : (agent : Course) (p : CircularProfile) (bounds : BoundingBox) (marks : List ℕ) (places : List Float) (o n : ℕ) →
    near_legs agent bounds (other_of p o (profile_in places o))
    (listed_to (leg_in marks places) (walked_in bounds marks places o) (first_in marks o)) n ≡
    near_obstacle agent p bounds o (obstacle_in marks places o) n
unfolding near_obstacle near_legs
obstacle_legs agent p bounds marks places o n = rw (T.legs_walked bounds marks places o) (by (overlap bounds (box_in places o)))
  where
    walk : List Leg → Hints
    walk legs = near_legs agent bounds (other_of p o (profile_in places o)) legs n

    by : (t : Bool) → walk (cond t (legs_of (waypoints_in marks places o)) []) ≡
        cond t (walk (legs_of (waypoints_in marks places o))) (Of [])
    by true = refl
    by false = refl
