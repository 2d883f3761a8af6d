-- What the search for one path leaves in the room that it is lent (RULES 4.14, 13.5 to 13.26).
-- Assumes nothing.
use Rattle.std.specs.Prelude.{ℕ, ◌≡◌, List, length, replicate}
use Rattle.lent.specs.Rows.{with_rows}
use Rattle.times.specs.declared.time.Duration.{Duration}
use Rattle.path_actions.specs.Action.{action_rows}
use Rattle.path_actions.specs.declared.action.SafeAction.{SafeAction}
use Rattle.one_path.specs.Path.{Sought, Path, Missing, Refused}
use Rattle.one_path.specs.declared.arrival_path.Found.{Found}
use Rattle.one_path.specs.declared.arrival_path.Found.TheVariants as F
use Rattle.std.specs.Prelude.{Result, Ok, Err}
use Rattle.refusals.specs.declared.Refusal.{Refusal}

unfoldable pub found_of : Sought → Result Found Refusal
found_of (Path actions pops hold) = Ok (F.Path (length actions) pops hold)
found_of (Missing pops) = Ok (F.Missing pops)
found_of (Refused n) = Err n

-- The rows of a path from a place on, as far as there is room; the room as it was where there is no path; zero throughout on a
-- refusal (RULES 4.14).
pub record PutPath (answer : Sought) (lent left : List ℕ) (row : ℕ) (r : Result Found Refusal) : Type 0 where
  pub found : r ≡ found_of answer
  pub long : length left ≡ length lent
  pub rows : (actions : List SafeAction) (pops : ℕ) (d : Duration) → answer ≡ Path actions pops d →
      left ≡ with_rows lent row (action_rows actions)
  pub none : (pops : ℕ) → answer ≡ Missing pops → left ≡ lent
  pub refused : (n : Refusal) → answer ≡ Refused n → left ≡ replicate (length lent) 0
