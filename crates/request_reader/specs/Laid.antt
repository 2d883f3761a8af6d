-- What reading leaves in the packed table that stands for the obstacles.
-- Assumes nothing.
use Rattle.std.specs.Prelude.{ℕ, suc, ◌≡◌, List, [], ◌∷◌, map, Float, length}
use Rattle.table.specs.Obstacle.{boxed}
use Rattle.table.specs.Table.{obstacles_in}
use Rattle.table_packing.specs.Filling.{with_time, with_place}
use Rattle.request_format.specs.Request.{Point, StreamObstacle}
use Rattle.request_reader.specs.Table.{request_waypoint, obstacle_of}

-- Waypoints from place i on: their times among the marks, their places among the places.
unfoldable pub point_times : List Point → ℕ → List ℕ → List ℕ
point_times [] i marks = marks
point_times (p ∷ ps) i marks = point_times ps (suc i) (with_time marks i (request_waypoint p))

unfoldable pub point_places : List Point → ℕ → List Float → List Float
point_places [] i places = places
point_places (p ∷ ps) i places = point_places ps (suc i) (with_place places i (request_waypoint p))

pub record PutPoints (points : List Point) (from : ℕ) (marks marks' : List ℕ) (places places' : List Float) : Type 0 where
  pub marked : marks' ≡ point_times points from marks
  pub placed : places' ≡ point_places points from places

-- The obstacles stand in the table, all but their boxes.
pub record PutTable (os : List StreamObstacle) (marks : List ℕ) (places : List Float) : Type 0 where
  pub obstacles : map boxed (obstacles_in marks places) ≡ map obstacle_of os
  pub long : length places ≡ 800
