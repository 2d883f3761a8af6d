-- The hints and the arrival times of a plan are those that the calls for them alone answer (RULES 5.1, 13.1).
-- Assumes nothing.
use mathlib.Core.Path.{◌≡◌}
use mathlib.Core.Bool.{false}
use lib.Signed.{≤ℤ_refl}
use Rattle.times.proofs.Integers.{at-most→not-below}
use Rattle.shapes.specs.Box.{box_of_leg}
use Rattle.domain.specs.Domain.{is_leg}
use Rattle.shapes.specs.Leg.{is_backward, is_brief}
use Rattle.shapes.specs.declared.profile.CircularProfile.{CircularProfile}
use Rattle.shapes.specs.declared.waypoint.Leg.{Leg}
use Rattle.domain.proofs.Within.{leg_end}
use Rattle.table.specs.Examined.{is_laid, table_examined, agent_examined}
use Rattle.table.specs.Lent.{Lent, obstacles_of}
use Rattle.table.proofs.Shaped.{fine_fits}
use Rattle.hints.specs.Asked.{asked_hints}
use Rattle.hints.specs.Contour.{ranked_hints}
use Rattle.arrival_times.specs.Asked.{asked_arrivals}
use Rattle.arrival_legs.specs.Watched.{arrivals_at}
use Rattle.std.specs.Prelude.{Ok}

module _ (p : CircularProfile) (agent : Leg) (lent : Lent) (fine : agent_examined p agent lent ≡ (Ok tt)) where
  -- ---- The hints.

  pub hints_alone : is_brief agent ≡ false →
      asked_hints p agent lent ≡ ranked_hints p agent (box_of_leg p.footprint agent) (obstacles_of lent)
  unfolding asked_hints
  hints_alone lasts = rw (fine, lasts)

  -- ---- The arrival times.

  abbrev stay : Leg
  stay = record { start = agent.end; end = agent.end }

  -- An agent that stands at its goal is fine as well.
  stay_fine : agent_examined p stay lent ≡ (Ok tt)
  unfolding agent_examined table_examined is_backward is_leg
  stay_fine =
      let f = fine_fits (is_laid lent) p agent (obstacles_of lent) fine in
      let t = agent.end.time.0 in
      rw (f.listed, f.shaped, f.profile, leg_end agent f.own, f.allowed, at-most→not-below t t (≤ℤ_refl t))

  pub arrivals_alone : asked_arrivals p agent.end lent ≡ arrivals_at p agent.end (obstacles_of lent)
  unfolding asked_arrivals
  arrivals_alone = rw stay_fine
