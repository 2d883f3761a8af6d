-- What the call for stationary proximity answers: it examines its own input first (RULES 5.3, 5.11).
-- Assumes nothing.
use Rattle.std.specs.Prelude.{Bool, cond, ◌&&◌, Float, Result, Ok, Err, Option}
use Rattle.domain.specs.Domain.{is_place, is_speed, is_limit}
use Rattle.shapes.specs.declared.vector.Vector.{Vector}
use Rattle.line_proximity.specs.Stationary.{stationary_proximity}
use Rattle.root.specs.declared.nearest.NoRoot.{NoRoot}
use Rattle.refusals.specs.declared.Refusal.{Refusal}
use Rattle.refusals.specs.declared.Refusal.TheVariants as Refusals

-- Places, a velocity and a squared distance: 1 for the numbers (RULES 3.2, 3.4, 3.8).
unfoldable pub is_stay : Vector → Vector → Vector → Float → Bool
is_stay r p0 v limit = is_place r && (is_place p0 && (is_speed v.x && (is_speed v.y && is_limit limit)))

-- Where there is no root it is refused 1 as well (RULES 4.1).
abbrev pub rooted : Result (Option (Float × Float)) NoRoot → Result (Option (Float × Float)) Refusal
rooted (Ok stay) = Ok stay
rooted (Err _) = Err Refusals.Number

unfoldable pub asked_stationary : Vector → Vector → Vector → Float → Result (Option (Float × Float)) Refusal
asked_stationary r p0 v limit = cond (is_stay r p0 v limit) (rooted (stationary_proximity r p0 v limit)) (Err Refusals.Number)
