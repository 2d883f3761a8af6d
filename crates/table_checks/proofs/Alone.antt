-- An obstacle that was packed as a table of its own: what is found of the table is what is found of the obstacle, and the table's box is
-- its box.
-- Assumes nothing.
use Prim.Native.Nat.{ℕ, ◌-◌}
use mathlib.Core.Path.{◌≡◌, sym, ap, ◌∙◌}
use mathlib.Core.Bool.{Bool, true, false, ◌&&◌}
use mathlib.Core.List.{List}
use native.Mathlib.Omega.{arith}
use lib.IntN.{ℤ}
use lib.ListN.{length, get_or}
use lib.Ieee.{Float}
use Rattle.lent.specs.Listed.{listed_to}
use Rattle.lent.proofs.Listed.{listed_at}
use Rattle.shapes.specs.declared.profile.CircularProfile.{CircularProfile}
use Rattle.table.specs.Obstacle.{Obstacle, box_of_trajectory}
use Rattle.table.specs.Lent.{Lent, waypoint_listed, waypoints_listed, obstacle_listed, obstacles_of}
use Rattle.table.specs.Examined.{is_laid, is_shaped, are_allowed}
use Rattle.table.proofs.Counting.{obstacles_count}
use Rattle.table.specs.Table.{obstacle_count, box_in, obstacle_in, obstacles_in}
use Rattle.table.proofs.Walking.{obstacles_counted}
use Rattle.table_packing.specs.Packing.{Packs}
use Rattle.table_packing.proofs.Packed.{packed_obstacles, room_laid}
use Rattle.table_packing.proofs.Tiled.{unpacked_refused}
use Rattle.table_checks.specs.Asked.{alone}

module _ (p : CircularProfile) (times : List ℤ) (xs ys : List Float) (marks : List ℕ) (places : List Float) (r : Bool)
    (packs : Packs (alone p times xs ys) marks places r) where
  abbrev lent : Lent
  lent = alone p times xs ys

  pub alone_unpacked : r ≡ false → (is_laid lent && is_shaped (obstacles_of lent)) ≡ false
  alone_unpacked none = unpacked_refused lent (sym packs.room ∙ none)

  module _ (had : r ≡ true) where
    same : obstacles_in marks places ≡ obstacles_of lent
    same = packed_obstacles lent marks places r packs had

    pub alone_shaped : is_shaped (obstacles_in marks places) ≡ (is_laid lent && is_shaped (obstacles_of lent))
    alone_shaped = rw (same, room_laid lent (sym packs.room ∙ had))

    pub alone_allowed : are_allowed (obstacles_in marks places) ≡ are_allowed (obstacles_of lent)
    alone_allowed = rw same

    pub alone_box : box_in places 0 ≡ box_of_trajectory p.footprint (listed_to (waypoint_listed times xs ys) (length times) 0)
    unfolding obstacles_in obstacles_of waypoints_listed
    alone_box =
        let own : Obstacle = obstacle_listed lent 0 in
        let count : obstacle_count marks ≡ 1 = sym (obstacles_counted marks places) ∙ ap length same ∙ obstacles_count lent in
        let read : get_or (obstacles_in marks places) 0 own ≡ obstacle_in marks places 0 =
        listed_at (obstacle_in marks places) (obstacle_count marks - 0) 0 0 own (omega arith) in
        let listed : get_or (obstacles_of lent) 0 own ≡ own = listed_at (obstacle_listed lent) 1 0 0 own (omega arith) in
        ap (λ (o : Obstacle). o.bounds) (sym read ∙ ap (λ (os : List Obstacle). get_or os 0 own) same ∙ listed)
