-- Which bytes a text may have (RULES 15.7, 15.8).
-- Assumes nothing.
use Rattle.std.specs.Prelude.{ℕ, Bool, ◌&&◌, ◌||◌, leb, eqb}

-- A byte of plain text: a newline, or one from the space, 32, to the tilde, 126.
unfoldable pub is_shown : ℕ → Bool
is_shown b = (leb 32 b && leb b 126) || eqb b 10
