-- What is claimed of refusals: each has a number of its call's list, and a plan is told from a refusal by 0 (RULES D1, 4.12,
-- 4.14). It holds of every call: `leg_refused`, `obstacle_refused`, `legs_refused` and `agent_refused` of proofs/Refusals.
-- Assumes nothing.
use Rattle.std.specs.Prelude.{ℕ, ◌+◌, ◌≡◌, ◌≢◌, ◌↔◌, true, List, length, ℤ, Float}
use Rattle.times.specs.declared.time.TimePoint.{TimePoint}
use Rattle.domain.specs.Asked.{asked_box}
use Rattle.shapes.specs.declared.profile.CircularProfile.{CircularProfile}
use Rattle.shapes.specs.declared.waypoint.Leg.{Leg}
use Rattle.proximity.specs.Asked.{asked_position, asked_proximity}
use Rattle.conflicts.specs.Asked.{asked_conflict}
use Rattle.table.specs.Lent.{Lent}
use Rattle.table_checks.specs.Asked.{asked_hull}
use Rattle.segments.specs.Asked.{asked_segment}
use Rattle.hint_ranking.specs.Hints as R
use Rattle.hints.specs.Asked.{asked_hints}
use Rattle.one_path.specs.Path as S
use Rattle.one_path.specs.Asked.{asked_path}
use Rattle.plan_model.specs.Asked.{asked_plan}
use Rattle.plan_model.specs.Laid.{both_hold, plan_number}
use Rattle.plan_model.specs.Plan.{Path, Plan, Planned, Refused, all_actions}
use Rattle.refusal_claims.specs.Numbers.{LegRefusal, HullRefusal, LegsRefusal, SegmentRefusal}
use Rattle.refusal_claims.specs.Numbers.{HintsRefusal, PathRefusal, PlanRefusal}
use Rattle.std.specs.Prelude.{Err}
use Rattle.refusals.specs.declared.Refusal.{Refusal}
use Rattle.refusals.specs.declared.Refusal.TheVariants as Refusals
use Rattle.refusals.specs.Names.{refusal_number}

-- The calls on one leg.
pub record OfLeg (leg : Leg) : Type 0 where
  pub position : {why : Refusal} (t : TimePoint) → asked_position leg t ≡ Err why → LegRefusal why
  pub box : {why : Refusal} (p : CircularProfile) → asked_box p leg ≡ Err why → LegRefusal why

-- The call on one obstacle.
pub record OfObstacle (p : CircularProfile) (times : List ℤ) (xs ys : List Float) : Type 0 where
  pub hull : {why : Refusal} → asked_hull p times xs ys ≡ Err why → HullRefusal why

-- The calls on two legs.
pub record OfLegs (limit : Float) (agent obstacle : Leg) : Type 0 where
  pub proximity : {why : Refusal} → asked_proximity limit agent obstacle ≡ Err why → LegsRefusal why
  pub conflict : {why : Refusal} (p q : CircularProfile) → asked_conflict p agent q obstacle limit ≡ Err why → LegsRefusal why

-- A plan for which both rooms are long enough (RULES 4.12).
pub record Fitting (plan : Plan) (room actionRoom : ℕ) : Type 0 where
  pub hints : ℕ
  pub times : ℕ
  pub sweeps : ℕ
  pub paths : List Path
  pub planned : plan ≡ Planned hints times sweeps paths
  pub fitting : both_hold room actionRoom (1 + length paths) (length (all_actions paths)) ≡ true

-- The calls on an agent and a table.
pub record OfAgent (p : CircularProfile) (agent : Leg) (lent : Lent) : Type 0 where
  pub segment : {why : Refusal} → asked_segment p agent lent ≡ Err why → SegmentRefusal why
  pub hints : {why : Refusal} → asked_hints p agent lent ≡ R.Refused why → HintsRefusal why
  pub path : {why : Refusal} (arrival : TimePoint) (budget : ℕ) (words : List ℕ) →
      asked_path p agent arrival budget words lent ≡ S.Refused why → PathRefusal why
  pub plan : {why : Refusal} (budget : ℕ) → asked_plan p agent budget lent ≡ Refused why → PlanRefusal why
  -- So 0 is the number of no refusal, nor is 9,
  pub not_nought : {why : Refusal} (budget : ℕ) → asked_plan p agent budget lent ≡ Refused why → refusal_number why ≢ 0
  pub never_nine : (budget : ℕ) → asked_plan p agent budget lent ≢ Refused Refusals.Late
  -- and the call hands back 0 exactly where there is a plan that its two rooms hold.
  pub nought : (budget room actionRoom : ℕ) →
      (plan_number (asked_plan p agent budget lent) room actionRoom ≡ 0) ↔ Fitting (asked_plan p agent budget lent) room actionRoom
