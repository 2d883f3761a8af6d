-- What is claimed of refusals holds of every call (RULES D1, 4.12, 4.14).
-- Assumes nothing.
use Prim.Native.Nat.{ℕ, ◌+◌}
use mathlib.Core.Path.{◌≡◌, refl}
use mathlib.Core.Bool.{Bool, true, false, cond}
use mathlib.Core.List.{List}
use native.Mathlib.Omega.{arith}
use lib.IntN.{ℤ}
use lib.ListN.{length}
use lib.Ieee.{Float}
use Rattle.shapes.specs.declared.profile.CircularProfile.{CircularProfile}
use Rattle.shapes.specs.declared.waypoint.Leg.{Leg}
use Rattle.table.specs.Lent.{Lent}
use Rattle.plan_model.specs.Asked.{asked_plan}
use Rattle.plan_model.specs.Laid.{both_hold, plan_number}
use Rattle.plan_model.specs.Plan.{Plan, Planned, Refused, all_actions}
use Rattle.refusal_claims.specs.Numbers.{PlanRefusal}
use Rattle.refusal_claims.specs.Refusals.{OfLeg, OfObstacle, OfLegs, Fitting, OfAgent}
use Rattle.refusal_claims.proofs.Hints.{hints_refused}
use Rattle.refusal_claims.proofs.Legs.{proximity_refused, conflict_refused}
use Rattle.refusal_claims.proofs.LonePath.{path_refused}
use Rattle.refusal_claims.proofs.Plan.{plan_refused}
use Rattle.refusal_claims.proofs.Segment.{segment_refused}
use Rattle.refusal_claims.proofs.Shapes.{position_refused, box_refused, hull_refused}
use Rattle.refusals.specs.declared.Refusal.TheVariants as Refusals
use Rattle.refusals.proofs.Numbers.{above_nought}

-- ---- 9 is no number of a plan's refusal.

not_nine : PlanRefusal Refusals.Late → ⊥
not_nine r = elim r [ ]

-- ---- The number that is handed back.

fits_nought : (plan : Plan) (room actionRoom : ℕ) → Fitting plan room actionRoom → plan_number plan room actionRoom ≡ 0
unfolding plan_number
fits_nought plan room actionRoom f = rw (f.planned, f.fitting)

nought_fits : (plan : Plan) (room actionRoom : ℕ) → plan_number plan room actionRoom ≡ 0 → Fitting plan room actionRoom
unfolding plan_number
nought_fits (Refused why) room actionRoom e = absurd (above_nought why e)
nought_fits (Planned hints times sweeps ps) room actionRoom e =
    by (both_hold room actionRoom (1 + length ps) (length (all_actions ps))) refl e
  where
    by : (b : Bool) → both_hold room actionRoom (1 + length ps) (length (all_actions ps)) ≡ b → ◌≡◌ {A = ℕ} (cond b 0 12) 0 →
        Fitting (Planned hints times sweeps ps) room actionRoom
    by true f k = record { hints = hints; times = times; sweeps = sweeps; paths = ps; planned = refl; fitting = f }
    by false f k = absurd (omega (arith, k))

-- ---- The claims.

pub leg_refused : (leg : Leg) → OfLeg leg
leg_refused leg = record { position = λ t. position_refused leg t; box = λ p. box_refused leg p }

pub obstacle_refused : (p : CircularProfile) (times : List ℤ) (xs ys : List Float) → OfObstacle p times xs ys
obstacle_refused p times xs ys = record { hull = hull_refused p times xs ys }

pub legs_refused : (limit : Float) (agent obstacle : Leg) → OfLegs limit agent obstacle
legs_refused limit agent obstacle =
    record {
      proximity = proximity_refused limit agent obstacle;
      conflict = λ p q. conflict_refused limit agent obstacle p q;
    }

pub agent_refused : (p : CircularProfile) (agent : Leg) (lent : Lent) → OfAgent p agent lent
agent_refused p agent lent =
    record {
      segment = segment_refused p agent lent;
      hints = hints_refused p agent lent;
      path = λ arrival budget words. path_refused p agent arrival budget lent words;
      plan = λ budget. plan_refused p agent budget lent;
      not_nought = λ {why} budget e. above_nought why;
      never_nine = λ budget e. not_nine (plan_refused p agent budget lent e);
      nought = λ budget room actionRoom. (
        nought_fits (asked_plan p agent budget lent) room actionRoom,
        fits_nought (asked_plan p agent budget lent) room actionRoom,
      );
    }
