-- What was read of a request and put into a table asks for the request's plan.
-- Assumes nothing.
use Prim.Native.Nat.{ℕ}
use mathlib.Core.Path.{◌≡◌, sym, subst, ◌∙◌}
use mathlib.Core.Bool.{true}
use mathlib.Core.List.{List}
use lib.Dec.{eqb}
use lib.Ieee.{Float}
use Rattle.times.proofs.Exact.{both}
use Rattle.shapes.specs.declared.profile.CircularProfile.{CircularProfile}
use Rattle.shapes.specs.declared.waypoint.Leg.{Leg}
use Rattle.table.specs.Lent.{obstacles_of}
use Rattle.table.specs.Table.{obstacles_in}
use Rattle.table_packing.specs.Filling.{boxes_in}
use Rattle.table_packing.proofs.Boxed.{boxed_obstacles}
use Rattle.plan_model.specs.Asked.{table_plan, asked_plan}
use Rattle.plan_model.specs.Laid.{PlanHanded}
use Rattle.plan_model.specs.Plan.{Plan}
use Rattle.request_format.specs.Bits.{number_at}
use Rattle.request_format.specs.Request.{StreamObstacle}
use Rattle.request_format.specs.Format.{obstacles_at, request_at, request_bits, are_counted, is_filled, is_request}
use Rattle.request_reader.specs.Table.{request_profile, request_leg, table_of}
use Rattle.request_reader.specs.Laid.{PutTable}
use Rattle.request_reader.specs.Asked.{request_plan}
use Rattle.request_reader.proofs.TableOf.{table_obstacles}
use Rattle.request_reader.proofs.Laid.{table_laid}

-- A request has counts within the table.
pub request_counted : (s : List ℕ) (o : ℕ) → is_request s ≡ true → o ≡ number_at s 4 6 → are_counted (obstacles_at s 510 o) ≡ true
unfolding is_request request_at
request_counted s o h e =
    let os = obstacles_at s 510 (number_at s 4 6) in
    rw e (both (are_counted os) (is_filled s (request_bits os)) (both (eqb (number_at s 0 4) 1) _ h).1).0

-- With the boxes put, the table holds the obstacles that the request's lists stand for.
pub boxed_table : (os : List StreamObstacle) (marks : List ℕ) (places : List Float) →
    PutTable os marks places → obstacles_in marks (boxes_in marks places) ≡ obstacles_of (table_of os)
boxed_table os marks places put =
    boxed_obstacles marks places put.long ∙ put.obstacles ∙ sym (table_obstacles os)

pub same_plan : (s : List ℕ) (p : CircularProfile) (leg : Leg) (budget o : ℕ) (marks : List ℕ) (places boxes : List Float) →
    p ≡ request_profile (request_at s).footprint (request_at s).follow →
    leg ≡ request_leg (request_at s) →
    budget ≡ number_at s 10 16 →
    o ≡ number_at s 4 6 →
    PutTable (obstacles_at s 510 o) marks places →
    boxes ≡ boxes_in marks places →
    table_plan true p leg budget (obstacles_in marks boxes) ≡ request_plan (request_at s)
unfolding request_plan request_at asked_plan
same_plan s p leg budget o marks places boxes profile way pops count put put-boxes =
    let os = obstacles_at s 510 o in
    rw (profile, way, pops, put-boxes, boxed_table os marks places put, ← count, table_laid os)

-- What is handed over for a plan is handed over for the same plan.
pub handed_same : {plan plan' : Plan} {lent left lentActions leftActions : List ℕ} {r : ℕ} →
    plan ≡ plan' → PlanHanded plan lent left lentActions leftActions r → PlanHanded plan' lent left lentActions leftActions r
handed_same {lent = lent} {left = left} {lentActions = lentActions} {leftActions = leftActions} {r = r} =
    subst (λ (plan : Plan). PlanHanded plan lent left lentActions leftActions r)
