-- How large the numbers of two legs can be that proximity is asked of (RULES section 8): the rules' own bounds, and then a
-- power of two for each number that is worked out from these.
-- Assumes nothing.
use Rattle.std.proofs.Common.{false, pos}
use lib.Ieee.{Float, fin}

-- 10^6: a waypoint's coordinate is at most 10^4 in size (RULES 3.2), a hint's at most 10^6 (RULES 4.7).
abbrev pub farthest : Float
farthest = fin false 15625 (pos 6)

-- 2^24 seconds: a span is at most 2^53 ns in size (RULES 4.7), and 2^53 / 10^9 is below 2^24.
abbrev pub longest : Float
longest = fin false 1 (pos 24)

-- 10^6: a limit is a conflict distance squared (RULES 3.4), or a critical distance squared, at most 200^2 (RULES 3.3, 7.3).
abbrev pub widest : Float
widest = fin false 15625 (pos 6)

-- 2^35: a coordinate of a velocity, 2 * 10^6 m in 1e-4 s (RULES 8.1).
abbrev pub fastest : Float
fastest = fin false 1 (pos 35)

-- 2^60: a coordinate of a position, 10^6 m and 2^24 s at 2^35 m/s (RULES 8.2).
abbrev pub remotest : Float
remotest = fin false 1 (pos 60)

-- 2^36 and 2^61: a coordinate of dv and of dp (RULES 8.10).
abbrev pub closing_speed : Float
closing_speed = fin false 1 (pos 36)

abbrev pub separation : Float
separation = fin false 1 (pos 61)

-- 2^73, 2^99 and 2^123: the coefficients a, b and c (RULES 8.11).
abbrev pub largest_a : Float
largest_a = fin false 1 (pos 73)

abbrev pub largest_b : Float
largest_b = fin false 1 (pos 99)

abbrev pub largest_c : Float
largest_c = fin false 1 (pos 123)

-- 2^199: the radicand (RULES 8.15).
abbrev pub largest_radicand : Float
largest_radicand = fin false 1 (pos 199)
