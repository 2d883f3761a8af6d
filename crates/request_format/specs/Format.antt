-- The format: where in a stream each field of a request stands, in bits, and which streams are requests (RULES 14.1 to 14.17).
-- Assumes nothing.
use Rattle.std.specs.Prelude.{ℕ, zero, suc, ◌+◌, ◌-◌, ◌*◌, ◌/◌, Bool, not, ◌&&◌, cond, List, [], ◌∷◌, leb, eqb, length}
use Rattle.lent.specs.Listed.{every}
use Rattle.request_format.specs.Bits.{number_at}
use Rattle.request_format.specs.Request.{Point, StreamObstacle, Request, Reading, Of, Malformed}

-- ---- Where the fields stand.

-- A time of 50 bits, x and y of 64 each: 178 bits (RULES 14.12).
unfoldable pub point_at : List ℕ → ℕ → Point
point_at s at = record { time = number_at s at 50; x = number_at s (at + 50) 64; y = number_at s (at + 114) 64 }

-- n waypoints, one behind another.
unfoldable pub points_at : List ℕ → ℕ → ℕ → List Point
points_at s at zero = []
points_at s at (suc n) = point_at s at ∷ points_at s (at + 178) n

-- Three numbers of 64 bits and a count of 9, 201 bits in all; then as many waypoints (RULES 14.8 to 14.12).
unfoldable pub obstacle_at : List ℕ → ℕ → StreamObstacle
obstacle_at s at =
    record {
      footprint = number_at s at 64;
      follow = number_at s (at + 64) 64;
      limit = number_at s (at + 128) 64;
      points = points_at s (at + 201) (number_at s (at + 192) 9);
    }

-- The bits of an obstacle with so many waypoints.
abbrev pub obstacle_bits : ℕ → ℕ
obstacle_bits points = 201 + 178 * points

-- n obstacles, one behind another.
unfoldable pub obstacles_at : List ℕ → ℕ → ℕ → List StreamObstacle
obstacles_at s at zero = []
obstacles_at s at (suc n) = obstacle_at s at ∷ obstacles_at s (at + obstacle_bits (number_at s (at + 192) 9)) n

-- Edition 4, obstacles 6, budget 16; footprint and follow buffer 64 each; `from` and `to` 178 each; from bit 510 on the obstacles.
unfoldable pub request_at : List ℕ → Request
request_at s =
    record {
      budget = number_at s 10 16;
      footprint = number_at s 26 64;
      follow = number_at s 90 64;
      from = point_at s 154;
      to = point_at s 332;
      obstacles = obstacles_at s 510 (number_at s 4 6);
    }

-- ---- Its counts.

-- The bits of obstacles.
unfoldable pub bits_in_all : List StreamObstacle → ℕ
bits_in_all [] = 0
bits_in_all (o ∷ os) = obstacle_bits (length o.points) + bits_in_all os

unfoldable pub request_bits : List StreamObstacle → ℕ
request_bits os = 510 + bits_in_all os

-- The legs of obstacles: one fewer than the waypoints of each that has any.
unfoldable pub legs_counted : List StreamObstacle → ℕ
legs_counted [] = 0
legs_counted (o ∷ os) = (length o.points - 1) + legs_counted os

-- At most 32 obstacles and 256 legs, and none with a single waypoint (RULES 3.5, 3.6).
unfoldable pub are_counted : List StreamObstacle → Bool
are_counted os =
    leb (length os) 32 && (leb (legs_counted os) 256 && every (λ o. not (eqb (length o.points) 1)) os)

-- ---- Which streams are requests.

-- As many bytes as so many bits take, and no bit set behind them (RULES 14.16, 14.17).
unfoldable pub is_filled : List ℕ → ℕ → Bool
is_filled s bits = eqb (length s) ((bits + 7) / 8) && eqb (number_at s bits (8 * length s - bits)) 0

-- Edition 1, counts of the table, whole and filled with zeros; else it is refused 2 (RULES 4.2, 14.1, 14.17).
unfoldable pub is_request : List ℕ → Bool
is_request s =
    eqb (number_at s 0 4) 1 &&
    (are_counted (request_at s).obstacles && is_filled s (request_bits (request_at s).obstacles))

unfoldable pub read_of : List ℕ → Reading
read_of s = cond (is_request s) (Of (request_at s)) Malformed
