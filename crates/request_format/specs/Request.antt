-- What a request says, its fields as they stand in the stream: counts and times as numbers, doubles by their 64 bits
-- (RULES 14.1 to 14.15).
-- Assumes nothing.
use Rattle.std.specs.Prelude.{ℕ, List}

-- A waypoint: its time in nanoseconds and its place (RULES 14.6, 14.7, 14.12).
pub record Point : Type 0 where
  pub time : ℕ
  pub x : ℕ
  pub y : ℕ

-- An obstacle: its profile, the conflict distance squared that it carries, its waypoints (RULES 14.8 to 14.12).
pub record StreamObstacle : Type 0 where
  pub footprint : ℕ
  pub follow : ℕ
  pub limit : ℕ
  pub points : List Point

-- The budget in pops, the agent's profile, where it starts and where it is to go, the obstacles (RULES 14.3 to 14.12).
pub record Request : Type 0 where
  pub budget : ℕ
  pub footprint : ℕ
  pub follow : ℕ
  pub from : Point
  pub to : Point
  pub obstacles : List StreamObstacle

-- A stream is a request, or it is malformed.
pub data Reading : Type 0 where
  Of : Request → Reading
  Malformed : Reading
