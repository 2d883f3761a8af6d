-- An answer in rows of four words, put into a lent room one by one.
-- Assumes nothing.
use Rattle.std.specs.Prelude.{ℕ, ◌+◌, ◌*◌, ◌≡◌, Bool, cond, List, [], ◌∷◌, ◌++◌, leb, length, take, drop, replicate}
use Rattle.refusals.specs.Names.{NO_ROOM}
use Rattle.lent.specs.Outcome.{wiped}

-- The room with a row at its place; where it has no room for the row, as it was.
unfoldable pub with_row : List ℕ → ℕ → List ℕ → List ℕ
with_row room row words =
    cond (leb (4 * row + 4) (length room)) (take (4 * row) room ++ (words ++ drop (4 * row + 4) room)) room

-- The room with rows from a place on.
unfoldable pub with_rows : List ℕ → ℕ → List (List ℕ) → List ℕ
with_rows room row [] = room
with_rows room row (words ∷ rows) = with_rows (with_row room row words) (row + 1) rows

-- The words of rows, one row behind another.
unfoldable pub words_in : List (List ℕ) → List ℕ
words_in [] = []
words_in (words ∷ rows) = words ++ words_in rows

-- A room of so many words is long enough for so many rows.
unfoldable pub has_room : ℕ → ℕ → Bool
has_room room rows = leb (4 * rows) room

-- What handing over so many rows leaves: zero behind them, and zero throughout where the room is too small (RULES 4.12, 4.15).
pub record Settled (rows : ℕ) (lent left : List ℕ) (r : ℕ) : Type 0 where
  pub number : r ≡ cond (has_room (length lent) rows) 0 NO_ROOM
  pub room : left ≡ cond (has_room (length lent) rows) (wiped lent (4 * rows)) (replicate (length lent) 0)
