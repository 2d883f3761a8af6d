-- An input that is fine, its budget with it, has few obstacles and legs (RULES 3.5, 5.1).
-- Assumes nothing.
use mathlib.Core.Path.{◌≡◌}
use mathlib.Core.Bool.{Bool, true}
use mathlib.Core.List.{List}
use Rattle.shapes.specs.declared.profile.CircularProfile.{CircularProfile}
use Rattle.shapes.specs.declared.waypoint.Leg.{Leg}
use Rattle.table.specs.Obstacle.{Obstacle}
use Rattle.table.specs.Examined.{is_few, table_examined}
use Rattle.table.proofs.Shaped.{shaped_few, fine_table}
use Rattle.domain.specs.Beside.{with_numbers}
use Rattle.domain.proofs.Fine.{numbers_fine}
use Rattle.std.specs.Prelude.{Result, Ok, Err}
use Rattle.refusals.specs.declared.Refusal.{Refusal}

pub fine_few : (ok laid : Bool) (p : CircularProfile) (agent : Leg) (os : List Obstacle) →
    with_numbers ok (table_examined laid p agent os) ≡ (Ok tt) → is_few os ≡ true
fine_few ok laid p agent os e =
    shaped_few os (fine_table laid p agent os (numbers_fine ok (table_examined laid p agent os) e)).1
