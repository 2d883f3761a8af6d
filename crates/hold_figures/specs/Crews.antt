-- What the lines of a year say of a crew: its holds, their total, the largest, and the mean with its remainder (RULES 21.6 to 21.8).
-- Assumes nothing.
use Rattle.std.specs.Prelude.{ℕ, ◌-◌, ◌/◌, ◌%◌, ◌^◌, Bool, cond, List, [], ◌∷◌, ℤ, pos, negsuc, ◌+ℤ◌, ◌==◌, int_lt, nat_lt}
use Rattle.hold_lines.specs.Text.{Held}

-- The holds of one crew, in the order of the lines.
unfoldable pub holds_of : ℕ → List Held → List ℤ
holds_of crew [] = []
holds_of crew (h ∷ hs) = cond (h.crew == crew) (h.hold ∷ holds_of crew hs) (holds_of crew hs)

-- Their sum, over the integers (RULES 21.7).
unfoldable pub total_of : List ℤ → ℤ
total_of [] = pos 0
total_of (z ∷ zs) = z +ℤ total_of zs

-- The largest of z and those that follow.
unfoldable pub largest_of : ℤ → List ℤ → ℤ
largest_of z [] = z
largest_of z (y ∷ ys) = largest_of (cond (int_lt z y) y z) ys

-- The whole number at or below the total over the rounds (RULES 21.8).
unfoldable pub mean_of : ℤ → ℕ → ℤ
mean_of (pos total) rounds = pos (total / rounds)
mean_of (negsuc total) rounds = negsuc (total / rounds)

-- What is left above it, 0 or more and below the rounds (RULES 21.8).
unfoldable pub remainder_of : ℤ → ℕ → ℕ
remainder_of (pos total) rounds = total % rounds
remainder_of (negsuc total) rounds = rounds - 1 - total % rounds

-- The signed numbers of 64 bits, -2^63 to 2^63 - 1 (RULES 21.6).
unfoldable pub is_signed64 : ℤ → Bool
is_signed64 (pos n) = nat_lt n (2 ^ 63)
is_signed64 (negsuc n) = nat_lt n (2 ^ 63)
