-- What a table that is shaped as it should be gives the layers above: few obstacles, and few legs.
-- Assumes nothing.
use Prim.Native.Nat.{◌≤◌}
use mathlib.Core.Path.{◌≡◌, refl}
use mathlib.Core.Bool.{Bool, true, false, ◌&&◌, cond, true≢false}
use mathlib.Core.List.{List}
use borrow.Author.Tests.{leb-true}
use lib.Dec.{leb}
use lib.ListN.{length}
use Rattle.times.proofs.Exact.{both}
use Rattle.shapes.specs.Leg.{is_backward}
use Rattle.domain.specs.Domain.{is_leg, is_profile}
use Rattle.shapes.specs.declared.profile.CircularProfile.{CircularProfile}
use Rattle.shapes.specs.declared.waypoint.Leg.{Leg}
use Rattle.table.specs.Obstacle.{Obstacle}
use Rattle.table.specs.Lent.{Lent, obstacles_of}
use Rattle.table.specs.Examined.{is_laid, legs_in_all, is_few, are_trajectories, is_shaped, are_allowed, table_examined, agent_examined}
use Rattle.std.specs.Prelude.{Result, Ok, Err}
use Rattle.refusals.specs.declared.Refusal.{Refusal}
use Rattle.refusals.specs.declared.Refusal.TheVariants as Refusals

pub shaped_few : (os : List Obstacle) → is_shaped os ≡ true → is_few os ≡ true
unfolding is_shaped
shaped_few os e = (both (is_few os) (are_trajectories os) e).0

-- At most 32 obstacles (RULES 3.5),
pub few_obstacles : (os : List Obstacle) → is_few os ≡ true → length os ≤ 32
unfolding is_few
few_obstacles os e = leb-true (length os) 32 (both (leb (length os) 32) (leb (legs_in_all os) 256) e).0

-- and 256 legs.
pub few_legs : (os : List Obstacle) → is_few os ≡ true → legs_in_all os ≤ 256
unfolding is_few
few_legs os e = leb-true (legs_in_all os) 256 (both (leb (length os) 32) (leb (legs_in_all os) 256) e).1

-- An input that is accepted passed each test (RULES 5.1).
pub record Fits (laid : Bool) (p : CircularProfile) (agent : Leg) (os : List Obstacle) : Type 0 where
  pub listed : laid ≡ true
  pub shaped : is_shaped os ≡ true
  pub profile : is_profile p ≡ true
  pub own : is_leg agent ≡ true
  pub allowed : are_allowed os ≡ true
  pub forward : is_backward agent ≡ false

pub fine_fits : (laid : Bool) (p : CircularProfile) (agent : Leg) (os : List Obstacle) →
    table_examined laid p agent os ≡ Ok tt → Fits laid p agent os
unfolding table_examined
fine_fits laid p agent os = by (laid && is_shaped os) (is_profile p && (is_leg agent && are_allowed os)) (is_backward agent) refl refl refl
  where
    by : (shaped allowed backward : Bool) →
        (laid && is_shaped os) ≡ shaped → (is_profile p && (is_leg agent && are_allowed os)) ≡ allowed → is_backward agent ≡ backward →
        cond {A = Result Unit Refusal} shaped
        (cond allowed (cond backward (Err Refusals.Backward) (Ok tt)) (Err Refusals.Number)) (Err Refusals.Shape) ≡ Ok tt →
        Fits laid p agent os
    by true true false shaped allowed forward e =
        let lists = both laid (is_shaped os) shaped in
        let ours = both (is_profile p) (is_leg agent && are_allowed os) allowed in
        let rest = both (is_leg agent) (are_allowed os) ours.1 in
        record { listed = lists.0; shaped = lists.1; profile = ours.0; own = rest.0; allowed = rest.1; forward = forward }
    by true true true shaped allowed backward e = absurd (true≢false (cc e))
    by true false backward shaped allowed b e = absurd (true≢false (cc e))
    by false allowed backward shaped a b e = absurd (true≢false (cc e))

-- So its lists fit and its table has the right shape.
pub fine_table : (laid : Bool) (p : CircularProfile) (agent : Leg) (os : List Obstacle) →
    table_examined laid p agent os ≡ Ok tt → (laid ≡ true) × (is_shaped os ≡ true)
fine_table laid p agent os e = let f = fine_fits laid p agent os e in (f.listed, f.shaped)

-- The same for lent lists.
pub fine_shaped : (p : CircularProfile) (agent : Leg) (lent : Lent) →
    agent_examined p agent lent ≡ Ok tt → is_shaped (obstacles_of lent) ≡ true
unfolding agent_examined
fine_shaped p agent lent e = (fine_table (is_laid lent) p agent (obstacles_of lent) e).1
