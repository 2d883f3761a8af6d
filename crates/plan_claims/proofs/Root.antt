-- The hints of a plan are ranked, so that the search begins with the hint that is to be chosen (RULES 13.9).
-- Assumes nothing.
use Prim.Native.Nat.{ℕ}
use mathlib.Core.Path.{◌≡◌}
use mathlib.Core.Logic.{⊎_elim}
use mathlib.Core.Bool.{true, false}
use Rattle.times.specs.declared.time.Duration.{Duration}
use Rattle.shapes.specs.Box.{box_of_leg}
use Rattle.shapes.specs.Leg.{is_brief}
use Rattle.shapes.specs.declared.profile.CircularProfile.{CircularProfile}
use Rattle.shapes.specs.declared.waypoint.Leg.{Leg}
use Rattle.table.specs.Examined.{agent_examined}
use Rattle.table.specs.Lent.{Lent, obstacles_of}
use Rattle.hint_ranking.specs.Hints.{ranked_in}
use Rattle.hint_ranking.specs.Ranked.{sorted}
use Rattle.hint_walk.specs.Walk.{hints_of}
use Rattle.hints.specs.Asked.{asked_hints}
use Rattle.hints.proofs.Answered.{Refusal, asked_answered}
use Rattle.path_roots.specs.Roots.{first_root}
use Rattle.path_roots.proofs.Chosen.{Chosen, AllBelow, chosen, all_below}
use Rattle.plan_claims.proofs.Rising.{sorted_rises}
use Rattle.std.specs.Prelude.{Ok}
use Rattle.std.specs.Prelude.{Some, None}

module _ (p : CircularProfile) (agent : Leg) (lent : Lent) (fine : agent_examined p agent lent ≡ (Ok tt))
    (lasts : is_brief agent ≡ false) where
  hints_sorted : sorted (ranked_in (asked_hints p agent lent)) ≡ true
  unfolding sorted
  hints_sorted = ⊎_elim refused (λ a. a.ranking.in_order) (asked_answered p agent lent fine lasts)
    where
      refused : Refusal agent (hints_of p agent (box_of_leg p.footprint agent) (obstacles_of lent)) (asked_hints p agent lent) →
          sorted (ranked_in (asked_hints p agent lent)) ≡ true
      refused r = rw r.alone

  -- The root has the lowest contour that is not below the goal's, and is the last with that contour;
  pub root_chosen : (goal : Duration) (i : ℕ) → first_root goal (ranked_in (asked_hints p agent lent)) ≡ Some i →
      Chosen goal (ranked_in (asked_hints p agent lent)) i
  root_chosen goal i = chosen goal (ranked_in (asked_hints p agent lent)) i (sorted_rises (ranked_in (asked_hints p agent lent)) hints_sorted)

  -- there is none where every contour is below the goal's.
  pub root_missing : (goal : Duration) → first_root goal (ranked_in (asked_hints p agent lent)) ≡ None →
      AllBelow goal (ranked_in (asked_hints p agent lent))
  root_missing goal = all_below goal (ranked_in (asked_hints p agent lent))
