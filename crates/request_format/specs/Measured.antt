-- What is found of the counts of a request.
-- Assumes nothing.
use Rattle.std.specs.Prelude.{ℕ, cond, List, Option, Some, None}
use Rattle.request_format.specs.Request.{StreamObstacle}
use Rattle.request_format.specs.Format.{are_counted, request_bits}

-- The bits that it takes, or none where its counts are outside the table.
unfoldable pub extent_of : List StreamObstacle → Option ℕ
extent_of os = cond (are_counted os) (Some (request_bits os)) None
