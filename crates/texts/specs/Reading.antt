-- Digits read back: the number that they make.
-- Assumes nothing.
use Rattle.std.specs.Prelude.{ℕ, ◌+◌, ◌-◌, ◌*◌, Bool, cond, ◌&&◌, List, [], ◌∷◌, leb, ltb}

-- Whether a byte is one of '0' to '9' (RULES 15.7).
unfoldable pub is_digit : ℕ → Bool
is_digit b = leb 48 b && leb b 57

-- What the byte of a digit counts: '0' to '9' from 0 on, 'a' to 'f' from 10 on (RULES 15.3, 15.7).
unfoldable pub count_of : ℕ → ℕ
count_of b = cond (ltb b 97) (b - 48) (b - 87)

-- The number that bytes make behind those that made n: each counts as much as `base` of the next.
unfoldable pub read_from : ℕ → ℕ → List ℕ → ℕ
read_from base n [] = n
read_from base n (b ∷ bs) = read_from base (n * base + count_of b) bs

-- The number that they make alone.
unfoldable pub numeral_read : ℕ → List ℕ → ℕ
numeral_read base bs = read_from base 0 bs
