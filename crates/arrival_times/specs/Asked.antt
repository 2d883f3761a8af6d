-- What the call for arrival times alone answers: the table and the waypoint are examined first (RULES 5.1 to 5.3). It needs no
-- direction, so an agent that stands is fine.
-- Assumes nothing.
use Rattle.shapes.specs.declared.profile.CircularProfile.{CircularProfile}
use Rattle.shapes.specs.declared.waypoint.Waypoint.{Waypoint}
use Rattle.table.specs.Lent.{Lent, obstacles_of}
use Rattle.table.specs.Examined.{agent_examined}
use Rattle.arrival_search.specs.Search.{Searched, Refused}
use Rattle.arrival_legs.specs.Watched.{arrivals_at}
use Rattle.std.specs.Prelude.{Result, Ok, Err}
use Rattle.refusals.specs.declared.Refusal.{Refusal}

unfoldable pub asked_arrivals : CircularProfile → Waypoint → Lent → Searched
asked_arrivals p g lent = examined (agent_examined p (record { start = g; end = g }) lent)
  where
    examined : Result Unit Refusal → Searched
    examined (Ok tt) = arrivals_at p g (obstacles_of lent)
    examined (Err why) = Refused why
