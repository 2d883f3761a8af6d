-- What building a path leaves in the room that it is lent (RULES 4.14, 13.23).
-- Assumes nothing.
use Rattle.std.specs.Prelude.{ℕ, ◌≡◌, List, length, replicate}
use Rattle.lent.specs.Rows.{with_rows}
use Rattle.times.specs.declared.time.Duration.{Duration}
use Rattle.path_actions.specs.Action.{action_rows}
use Rattle.path_actions.specs.Built.{Built, Of, Refused}
use Rattle.path_actions.specs.declared.action.SafeAction.{SafeAction}
use Rattle.std.specs.Prelude.{Result, Ok, Err}
use Rattle.refusals.specs.declared.Refusal.{Refusal}

unfoldable pub hold_of : Built → Result Duration Refusal
hold_of (Of actions hold) = Ok hold
hold_of (Refused why) = Err why

-- The rows of an answer from a place on, as far as there is room; zero throughout on a refusal (RULES 4.14).
pub record PutActions (answer : Built) (lent left : List ℕ) (row : ℕ) (r : Result Duration Refusal) : Type 0 where
  pub hold : r ≡ hold_of answer
  pub long : length left ≡ length lent
  pub rows : (actions : List SafeAction) (d : Duration) → answer ≡ Of actions d → left ≡ with_rows lent row (action_rows actions)
  pub refused : (why : Refusal) → answer ≡ Refused why → left ≡ replicate (length lent) 0
