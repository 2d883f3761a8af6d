-- What the search leaves in the rooms that it is lent (RULES 4.12, 4.14, 4.15).
-- Assumes nothing.
use Rattle.std.specs.Prelude.{ℕ, ◌+◌, ◌-◌, ◌*◌, ◌≡◌, Bool, ◌&&◌, cond, List, ◌++◌, length, replicate}
use Rattle.refusals.specs.Names.{NO_ROOM, refusal_number}
use Rattle.lent.specs.Outcome.{wiped}
use Rattle.lent.specs.Rows.{with_rows, words_in, has_room}
use Rattle.path_actions.specs.Action.{action_rows}
use Rattle.plan_model.specs.Plan as Q
use Rattle.std.specs.Prelude.{Result, Ok, Err}
use Rattle.refusals.specs.declared.Refusal.{Refusal}
use Rattle.plan_model.specs.declared.rooms.Paths.{Paths}

-- ---- Parts of the work: the rows of an answer, as far as there is room. A refusal's rows are wiped by the call.

-- The paths' rows stand behind the first, which counts.
unfoldable pub path_counts : Q.Paths → Result Paths Refusal
path_counts (Q.Of ps) = Ok (record { paths = length ps; actions = length (Q.all_actions ps) })
path_counts (Q.Refused why) = Err why

pub record PutPaths (answer : Q.Paths) (lent left lentActions leftActions : List ℕ) (r : Result Paths Refusal) : Type 0 where
  pub counts : r ≡ path_counts answer
  pub long : length left ≡ length lent
  pub long_actions : length leftActions ≡ length lentActions
  pub rows : (ps : List Q.Path) → answer ≡ Q.Of ps → left ≡ with_rows lent 1 (Q.path_rows ps)
  pub action_rows_law : (ps : List Q.Path) → answer ≡ Q.Of ps → leftActions ≡ with_rows lentActions 0 (action_rows (Q.all_actions ps))

-- ---- A whole plan, in two rooms: one for the counts and the paths, one for the actions of all paths.

-- Both rooms are long enough.
abbrev pub both_hold : ℕ → ℕ → ℕ → ℕ → Bool
both_hold room actionRoom heads actions = has_room room heads && has_room actionRoom actions

-- What a refusal leaves of them (RULES 4.14).
pub record RefusedBoth (number : ℕ) (lent left lentActions leftActions : List ℕ) (r : ℕ) : Type 0 where
  pub number_law : r ≡ number
  pub room : left ≡ replicate (length lent) 0
  pub action_room : leftActions ≡ replicate (length lentActions) 0

-- What handing over so many rows of each leaves, whatever stands in them.
pub record SettledBoth (heads actions : ℕ) (lent left lentActions leftActions : List ℕ) (r : ℕ) : Type 0 where
  pub number : r ≡ cond (both_hold (length lent) (length lentActions) heads actions) 0 NO_ROOM
  pub room : left ≡
      cond (both_hold (length lent) (length lentActions) heads actions) (wiped lent (4 * heads)) (replicate (length lent) 0)
  pub action_room : leftActions ≡
      cond (both_hold (length lent) (length lentActions) heads actions)
      (wiped lentActions (4 * actions))
      (replicate (length lentActions) 0)

-- 0 for a plan, 12 where either room is too small, else the refusal's own (RULES 4.12).
unfoldable pub plan_number : Q.Plan → ℕ → ℕ → ℕ
plan_number (Q.Planned hints times sweeps ps) room actionRoom =
    cond (both_hold room actionRoom (1 + length ps) (length (Q.all_actions ps))) 0 NO_ROOM
plan_number (Q.Refused why) room actionRoom = refusal_number why

-- Rows and zero behind them, in a room of so many words.
abbrev pub filled : List (List ℕ) → ℕ → List ℕ
filled rows room = words_in rows ++ replicate (room - 4 * length rows) 0

-- The room for the counts and the paths, and that for the actions (RULES 4.14, 4.15).
unfoldable pub plan_room : Q.Plan → ℕ → ℕ → List ℕ
plan_room (Q.Planned hints times sweeps ps) room actionRoom =
    cond (both_hold room actionRoom (1 + length ps) (length (Q.all_actions ps)))
    (filled (Q.head_rows hints times sweeps ps) room)
    (replicate room 0)
plan_room (Q.Refused why) room actionRoom = replicate room 0

unfoldable pub action_room_of : Q.Plan → ℕ → ℕ → List ℕ
action_room_of (Q.Planned hints times sweeps ps) room actionRoom =
    cond (both_hold room actionRoom (1 + length ps) (length (Q.all_actions ps)))
    (filled (action_rows (Q.all_actions ps)) actionRoom)
    (replicate actionRoom 0)
action_room_of (Q.Refused why) room actionRoom = replicate actionRoom 0

pub record PlanHanded (plan : Q.Plan) (lent left lentActions leftActions : List ℕ) (r : ℕ) : Type 0 where
  pub number : r ≡ plan_number plan (length lent) (length lentActions)
  pub room : left ≡ plan_room plan (length lent) (length lentActions)
  pub actions : leftActions ≡ action_room_of plan (length lent) (length lentActions)
