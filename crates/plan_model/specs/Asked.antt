-- What the call for a whole plan answers: its input is examined first (RULES 5.1 to 5.7).
-- Assumes nothing.
use Rattle.std.specs.Prelude.{ℕ, Bool, List}
use Rattle.shapes.specs.declared.profile.CircularProfile.{CircularProfile}
use Rattle.shapes.specs.declared.waypoint.Leg.{Leg}
use Rattle.table.specs.Obstacle.{Obstacle}
use Rattle.table.specs.Lent.{Lent, obstacles_of}
use Rattle.table.specs.Examined.{is_laid, table_examined}
use Rattle.domain.specs.Beside.{is_budget, with_numbers}
use Rattle.plan_model.specs.Plan as Q
use Rattle.std.specs.Prelude.{Result, Ok, Err}
use Rattle.refusals.specs.declared.Refusal.{Refusal}

-- Among obstacles, whose lists fit one another or do not.
unfoldable pub table_plan : Bool → CircularProfile → Leg → ℕ → List Obstacle → Q.Plan
table_plan laid p agent budget os = examined (with_numbers (is_budget budget) (table_examined laid p agent os))
  where
    examined : Result Unit Refusal → Q.Plan
    examined (Ok tt) = Q.plan_of p agent budget os
    examined (Err n) = Q.Refused n

-- Among those of lent lists.
unfoldable pub asked_plan : CircularProfile → Leg → ℕ → Lent → Q.Plan
asked_plan p agent budget lent = table_plan (is_laid lent) p agent budget (obstacles_of lent)
