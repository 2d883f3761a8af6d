-- The plan among obstacles whose lists were packed is the plan that was asked for (RULES 5.1).
-- Assumes nothing.
use Prim.Native.Nat.{ℕ}
use mathlib.Core.Path.{◌≡◌, refl, ap}
use mathlib.Core.Bool.{Bool}
use mathlib.Core.List.{List}
use lib.Ieee.{Float}
use Rattle.shapes.specs.declared.profile.CircularProfile.{CircularProfile}
use Rattle.shapes.specs.declared.waypoint.Leg.{Leg}
use Rattle.table.specs.Obstacle.{Obstacle}
use Rattle.table.specs.Lent.{Lent, obstacles_of}
use Rattle.table.specs.Examined.{is_laid, table_examined, agent_examined}
use Rattle.table.specs.Table.{obstacles_in}
use Rattle.table_packing.specs.Packing.{Packs}
use Rattle.table_packing.proofs.Packed.{packed_examined, packed_fine}
use Rattle.domain.specs.Beside.{is_budget, with_numbers}
use Rattle.domain.proofs.Fine.{numbers_fine}
use Rattle.plan_model.specs.Plan.{plan_of}
use Rattle.plan_model.specs.Asked.{table_plan, asked_plan}
use Rattle.std.specs.Prelude.{Result, Ok, Err}
use Rattle.refusals.specs.declared.Refusal.{Refusal}

-- Tables of which the same is found, and which are the same where they are fine, have the same plan.
same_plan : (laid laid' : Bool) (p : CircularProfile) (agent : Leg) (budget : ℕ) (os os' : List Obstacle) →
    table_examined laid p agent os ≡ table_examined laid' p agent os' → (table_examined laid p agent os ≡ (Ok tt) → os ≡ os') →
    table_plan laid p agent budget os ≡ table_plan laid' p agent budget os'
unfolding table_plan
same_plan laid laid' p agent budget os os' e same = by (with_numbers (is_budget budget) (table_examined laid p agent os)) refl
  where
    by : (x : Result Unit Refusal) → with_numbers (is_budget budget) (table_examined laid p agent os) ≡ x →
        table_plan laid p agent budget os ≡ table_plan laid' p agent budget os'
    by (Ok tt) f = rw (← e, f) (ap (plan_of p agent budget) (same (numbers_fine (is_budget budget) (table_examined laid p agent os) f)))
    by (Err n) f = rw (← e, f)

pub packed_plan : (p : CircularProfile) (agent : Leg) (budget : ℕ) (lent : Lent) (marks : List ℕ) (places : List Float) (r : Bool) →
    Packs lent marks places r → table_plan r p agent budget (obstacles_in marks places) ≡ asked_plan p agent budget lent
unfolding asked_plan agent_examined
packed_plan p agent budget lent marks places r packs =
    same_plan r (is_laid lent) p agent budget (obstacles_in marks places) (obstacles_of lent)
    (packed_examined lent marks places r p agent packs)
    (packed_fine lent marks places r p agent packs)
