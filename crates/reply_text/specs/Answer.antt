-- The text of an answer in two rooms: one has a row of counts and a row for each path, the other a row for each action of all
-- paths, one path behind another (RULES 15.6).
-- Assumes nothing.
use Rattle.std.specs.Prelude.{ℕ, ◌+◌, ◌*◌, ◌/◌, cond, List, [], ◌∷◌, ◌++◌, eqb, length, get_or, take, drop}
use Rattle.lent.specs.Listed.{listed}
use Rattle.reply_lines.specs.Lines.{ok_line, path_line, move_line, wait_line}

-- A row of four words.
pub record Row : Type 0 where
  pub first : ℕ
  pub second : ℕ
  pub third : ℕ
  pub fourth : ℕ

-- Row i of a room. What the room does not reach is zero.
unfoldable pub row_at : List ℕ → ℕ → Row
row_at room i =
    record {
      first = get_or room (4 * i) 0;
      second = get_or room (4 * i + 1) 0;
      third = get_or room (4 * i + 2) 0;
      fourth = get_or room (4 * i + 3) 0;
    }

-- The rows that a room has.
unfoldable pub rows_of : List ℕ → List Row
rows_of room = listed (row_at room) (length room / 4) 0

-- A move's row begins with 1; any other is a wait's.
unfoldable pub action_line : Row → List ℕ
action_line row =
    cond (eqb row.first 1) (move_line row.second row.third row.fourth) (wait_line row.second row.third)

unfoldable pub action_lines : List Row → List ℕ
action_lines [] = []
action_lines (row ∷ rows) = action_line row ++ action_lines rows

-- Each path's line, then those of its actions: as many of the rows as the path's fourth word says.
unfoldable pub path_lines : List Row → List Row → List ℕ
path_lines [] actions = []
path_lines (p ∷ ps) actions =
    path_line p.first p.second p.third ++
    (action_lines (take p.fourth actions) ++ path_lines ps (drop p.fourth actions))

-- The first line, and the lines of as many paths as its fourth count says.
unfoldable pub plan_lines : List ℕ → List ℕ → List ℕ
plan_lines paths actions = from (row_at paths 0)
  where
    from : Row → List ℕ
    from row =
        ok_line row.first row.second row.third row.fourth ++
        path_lines (take row.fourth (drop 1 (rows_of paths))) (rows_of actions)
