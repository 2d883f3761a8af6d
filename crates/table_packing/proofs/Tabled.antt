-- A table that holds so many obstacles, each with its ends, its profile and its conflict distance, and so many waypoints, holds those
-- obstacles, all but their boxes.
-- Assumes nothing.
use Prim.Native.Nat.{ℕ, ◌-◌, ◌≤◌, ◌<◌}
use mathlib.Core.Path.{◌≡◌, ◌∙◌}
use mathlib.Core.List.{List, map}
use native.Mathlib.Omega.{arith}
use lib.Ieee.{Float}
use Rattle.lent.specs.Listed.{listed_to}
use Rattle.lent.proofs.Listed.{listed_same}
use Rattle.shapes.specs.declared.profile.CircularProfile.{CircularProfile}
use Rattle.shapes.specs.declared.waypoint.Waypoint.{Waypoint}
use Rattle.table.specs.Obstacle.{Obstacle, box_of_trajectory, boxed}
use Rattle.table.specs.Table.{
  obstacle_count,
  first_in,
  end_in,
  profile_in,
  limit_in,
  waypoint_in,
  waypoints_in,
  obstacle_in,
  obstacles_in,
}
use Rattle.table_packing.proofs.Boxed.{map_listed}

-- What is read for obstacle o.
pub record Row (marks : List ℕ) (places : List Float) (o first end : ℕ) (profile : CircularProfile) (limit : Float) : Type 0 where
  pub begins : first_in marks o ≡ first
  pub ends : end_in marks o ≡ end
  pub profiled : profile_in places o ≡ profile
  pub limited : limit_in places o ≡ limit

-- An obstacle of these parts, with the box of its own waypoints and footprint.
abbrev pub obstacle_from : (ℕ → Waypoint) → ℕ → ℕ → CircularProfile → Float → Obstacle
obstacle_from w first end profile limit =
    record {
      profile = profile;
      limit = limit;
      waypoints = listed_to w end first;
      bounds = box_of_trajectory profile.footprint (listed_to w end first);
    }

module _ (marks : List ℕ) (places : List Float) where
  -- One obstacle,
  pub row_obstacle : (w : ℕ → Waypoint) (o first end : ℕ) (profile : CircularProfile) (limit : Float) →
      Row marks places o first end profile limit →
      ((i : ℕ) → first ≤ i → i < end → waypoint_in marks places i ≡ w i) →
      boxed (obstacle_in marks places o) ≡ obstacle_from w first end profile limit
  unfolding boxed waypoints_in
  row_obstacle w o first end profile limit row points =
      let same : listed_to (waypoint_in marks places) end first ≡ listed_to w end first =
      listed_same (waypoint_in marks places) w (end - first) first (λ i l r. points i l (omega arith)) in
      rw (row.begins, row.ends, row.profiled, row.limited, same)

  -- and all of them.
  pub rows_obstacles : (n : ℕ) (w : ℕ → Waypoint) (first end : ℕ → ℕ) (profile : ℕ → CircularProfile) (limit : ℕ → Float) →
      obstacle_count marks ≡ n →
      ((o : ℕ) → o < n → Row marks places o (first o) (end o) (profile o) (limit o)) →
      ((o i : ℕ) → o < n → first o ≤ i → i < end o → waypoint_in marks places i ≡ w i) →
      map boxed (obstacles_in marks places) ≡ listed_to (λ o. obstacle_from w (first o) (end o) (profile o) (limit o)) n 0
  unfolding obstacles_in
  rows_obstacles n w first end profile limit count row points =
      rw count
      (map_listed boxed (obstacle_in marks places) (n - 0) 0 ∙
      listed_same
      (λ o. boxed (obstacle_in marks places o))
      (λ o. obstacle_from w (first o) (end o) (profile o) (limit o))
      (n - 0)
      0
      (λ o l r.
      row_obstacle w o (first o) (end o) (profile o) (limit o) (row o (omega arith)) (λ i from to. points o i (omega arith) from to)))
