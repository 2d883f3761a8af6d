-- Words as 16 lower-case hex digits.
-- Assumes nothing.
use Rattle.std.specs.Prelude.{ℕ, zero, suc, ◌+◌, ◌-◌, ◌*◌, ◌&&◌, cond, List, Option, Some, None, option_and_then, leb, ltb, length, get_or}

-- What a digit counts: '0' to '9' are the bytes from 48 on, 'a' to 'f' those from 97 on. No other byte is a digit.
unfoldable pub digit_of : ℕ → Option ℕ
digit_of b = cond (leb 48 b && leb b 57) (Some (b - 48)) (cond (leb 97 b && leb b 102) (Some (b - 97 + 10)) None)

-- The number of the n digits from `at` on, read after digits that make v.
unfoldable pub read_on : List ℕ → ℕ → ℕ → ℕ → Option ℕ
read_on s v at zero = Some v
read_on s v at (suc n) = option_and_then (λ d. read_on s (v * 16 + d) (suc at) n) (digit_of (get_or s at 0))

-- The word whose 16 digits start at `at`.
unfoldable pub word_at : List ℕ → ℕ → Option ℕ
word_at s at = cond (ltb (length s) (at + 16)) None (read_on s 0 at 16)
