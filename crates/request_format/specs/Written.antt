-- The stream of a request: its fields one behind another, and zero bits up to a whole byte (RULES 14.1 to 14.16).
-- Assumes nothing.
use Rattle.std.specs.Prelude.{ℕ, zero, suc, ◌+◌, ◌*◌, ◌/◌, ◌%◌, ◌^◌, Bool, ◌&&◌, List, [], ◌∷◌, ◌++◌, ltb, length, get_or}
use Rattle.lent.specs.Listed.{listed, every}
use Rattle.request_format.specs.Request.{Point, StreamObstacle, Request}

-- The n bits of a number, the most significant first.
unfoldable pub bits_of : ℕ → ℕ → List ℕ
bits_of zero v = []
bits_of (suc n) v = (v / 2 ^ n % 2) ∷ bits_of n v

-- The bits of what a list has, one element behind another.
unfoldable pub bits_for : {A : Type 0} → (A → List ℕ) → List A → List ℕ
bits_for f [] = []
bits_for f (x ∷ xs) = f x ++ bits_for f xs

-- A waypoint (RULES 14.12).
unfoldable pub point_bits : Point → List ℕ
point_bits p = bits_of 50 p.time ++ (bits_of 64 p.x ++ bits_of 64 p.y)

-- An obstacle (RULES 14.8 to 14.12).
unfoldable pub obstacle_fields : StreamObstacle → List ℕ
obstacle_fields o =
    bits_of 64 o.footprint ++
    (bits_of 64 o.follow ++
    (bits_of 64 o.limit ++
    (bits_of 9 (length o.points) ++ bits_for point_bits o.points)))

-- All fields of a request, edition 1 in front (RULES 14.1 to 14.12).
unfoldable pub request_fields : Request → List ℕ
request_fields r =
    bits_of 4 1 ++
    (bits_of 6 (length r.obstacles) ++
    (bits_of 16 r.budget ++
    (bits_of 64 r.footprint ++
    (bits_of 64 r.follow ++
    (point_bits r.from ++
    (point_bits r.to ++ bits_for obstacle_fields r.obstacles))))))

-- The number of n bits of a list from `at` on. Past the end every bit is 0.
unfoldable pub number_in : List ℕ → ℕ → ℕ → ℕ
number_in bits at zero = 0
number_in bits at (suc n) = 2 * number_in bits at n + get_or bits (at + n) 0

-- Eight bits a byte; zero bits fill the last (RULES 14.13, 14.16).
unfoldable pub packed : List ℕ → List ℕ
packed bits = listed (λ i. number_in bits (8 * i) 8) ((length bits + 7) / 8) 0

unfoldable pub written : Request → List ℕ
written r = packed (request_fields r)

-- ---- Which requests the format holds: each field within its bits.

unfoldable pub point_fits : Point → Bool
point_fits p = ltb p.time (2 ^ 50) && (ltb p.x (2 ^ 64) && ltb p.y (2 ^ 64))

unfoldable pub obstacle_fits : StreamObstacle → Bool
obstacle_fits o =
    ltb o.footprint (2 ^ 64) &&
    (ltb o.follow (2 ^ 64) &&
    (ltb o.limit (2 ^ 64) && (ltb (length o.points) (2 ^ 9) && every point_fits o.points)))

unfoldable pub request_fits : Request → Bool
request_fits r =
    ltb r.budget (2 ^ 16) &&
    (ltb r.footprint (2 ^ 64) &&
    (ltb r.follow (2 ^ 64) &&
    (point_fits r.from &&
    (point_fits r.to && (ltb (length r.obstacles) (2 ^ 6) && every obstacle_fits r.obstacles)))))
