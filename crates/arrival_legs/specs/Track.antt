-- What the search needs of an obstacle of the packed table.
-- Assumes nothing.
use Rattle.std.specs.Prelude.{ℕ, List, Float}
use Rattle.lent.specs.Listed.{listed_to}
use Rattle.shapes.specs.Distance.{critical_distance_squared}
use Rattle.shapes.specs.declared.profile.CircularProfile.{CircularProfile}
use Rattle.table.specs.Table.{first_in, profile_in, leg_in}
use Rattle.table.specs.Walked.{last_in}
use Rattle.arrival_legs.specs.Watched.{Watched, watched_legs}
use Rattle.arrival_legs.specs.declared.track.Track.{Track}

-- The critical distance squared of the agent and obstacle o, and the first and the last of its waypoints (RULES 12.1).
unfoldable pub track_in : CircularProfile → List ℕ → List Float → ℕ → Track
track_in p marks places o =
    record { limit = critical_distance_squared p (profile_in places o); first = first_in marks o; last = last_in marks o }

-- The legs of a track from waypoint i on, held to its limit.
abbrev pub tracked_from : Track → List ℕ → List Float → ℕ → List Watched
tracked_from track marks places i = watched_legs track.limit (listed_to (leg_in marks places) track.last i)
