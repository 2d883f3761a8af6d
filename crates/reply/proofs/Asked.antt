-- What is known of every stream's plan: a refusal has a number of a plan's list, and a plan at most 289 paths.
-- Assumes nothing.
use Prim.Native.Nat.{ℕ, ◌≤◌}
use mathlib.Core.Path.{◌≡◌, refl, ap}
use mathlib.Core.Logic.{◌≢◌}
use mathlib.Core.Bool.{Bool, true, false}
use mathlib.Core.List.{List}
use native.Mathlib.Omega.{arith}
use lib.ListN.{length}
use Rattle.arrival_times.proofs.Few.{asked_few}
use Rattle.shapes.specs.Leg.{is_brief}
use Rattle.shapes.specs.declared.profile.CircularProfile.{CircularProfile}
use Rattle.shapes.specs.declared.waypoint.Leg.{Leg}
use Rattle.table.specs.Lent.{Lent}
use Rattle.plan_model.specs.Asked.{asked_plan}
use Rattle.plan_model.specs.Plan.{Path, Plan, Planned, Refused, short_plan}
use Rattle.plan_claims.specs.Whole.{Long}
use Rattle.plan_claims.proofs.Whole.{whole}
use Rattle.refusal_claims.specs.Numbers.{PlanRefusal}
use Rattle.refusal_claims.specs.Numbers.PlanRefusal.{Shape}
use Rattle.refusal_claims.proofs.Refusals.{agent_refused}
use Rattle.request_format.specs.Request.{Reading, Of, Malformed}
use Rattle.request_format.specs.Format.{read_of}
use Rattle.request_reader.specs.Table.{request_profile, request_leg, table_of}
use Rattle.request_reader.specs.Asked.{request_plan, stream_plan}
use Rattle.refusals.specs.declared.Refusal.TheVariants as Refusals
use Rattle.refusals.specs.declared.Refusal.{Refusal}

-- ---- Of an asked plan.

abbrev count_of : Plan → ℕ
count_of (Planned hints times sweeps ps) = length ps
count_of (Refused n) = 0

few_paths : (p : CircularProfile) (agent : Leg) (budget : ℕ) (lent : Lent) (hints times sweeps : ℕ) (ps : List Path) →
    asked_plan p agent budget lent ≡ Planned hints times sweeps ps → length ps ≤ 289
unfolding short_plan
few_paths p agent budget lent hints times sweeps ps e = by (is_brief agent) refl
  where
    by : (b : Bool) → is_brief agent ≡ b → length ps ≤ 289
    by true brief =
        let one : length ps ≡ 1 = ap count_of ((whole p agent budget lent).short brief e) in
        omega arith
    by false long =
        let l : Long p agent budget lent hints times sweeps ps = (whole p agent budget lent).long long e in
        let few = l.few_paths in
        let listed = asked_few p agent.end lent l.list sweeps l.arrivals in
        omega (arith, l.time_count)

-- ---- Of a stream's plan.

-- A stream that is no request is refused 2, which a plan can be too (RULES 14.17).
pub stream_refused : (s : List ℕ) (n : Refusal) → stream_plan s ≡ Refused n → PlanRefusal n
unfolding stream_plan request_plan
stream_refused s n e = by (read_of s) refl
  where
    refusal_in : Plan → Refusal
    refusal_in (Planned hints times sweeps ps) = Refusals.Number
    refusal_in (Refused why) = why

    by : (r : Reading) → read_of s ≡ r → PlanRefusal n
    by (Of r) read =
        (agent_refused (request_profile r.footprint r.follow) (request_leg r) (table_of r.obstacles)).plan r.budget (rw read at e)
    by Malformed read =
        let two : Refusals.Shape ≡ n = ap refusal_in (rw read at e) in
        rw (← two) Shape

pub few : (s : List ℕ) (hints times sweeps : ℕ) (ps : List Path) → stream_plan s ≡ Planned hints times sweeps ps → length ps ≤ 289
unfolding stream_plan request_plan
few s hints times sweeps ps e = by (read_of s) refl
  where
    is_plan : Plan → ℕ
    is_plan (Planned hints times sweeps ps) = 0
    is_plan (Refused m) = 1

    by : (r : Reading) → read_of s ≡ r → length ps ≤ 289
    by (Of r) read =
        few_paths (request_profile r.footprint r.follow) (request_leg r) r.budget (table_of r.obstacles) hints times sweeps ps
        (rw read at e)
    by Malformed read =
        let one : ◌≡◌ {A = ℕ} 1 0 = ap is_plan (rw read at e) in
        omega arith
