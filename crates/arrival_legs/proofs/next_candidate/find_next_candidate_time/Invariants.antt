-- `arrival_legs::next_candidate::find_next_candidate_time` meets its contract: at each turn the walk from here on is the whole one.
-- Assumes nothing.
use Prim.Native.Nat.{ℕ}
use mathlib.Core.Path.{◌≡◌}
use mathlib.Core.List.{List}
use Rattle.std.specs.Prelude.{Ok}
use Rattle.table.specs.Table.{waypoint_in}
use Rattle.arrival_search.specs.Search.{next_in, next}
use Rattle.arrival_legs.specs.Watched.{Watched, view_at}
use Rattle.arrival_legs.specs.Table.{ending_of}
use Rattle.arrival_legs.specs.Track.{tracked_from}
use Rattle.arrival_legs.proofs.next_candidate.find_next_candidate_time.Given as goal

abbrev pub invariant-loop-i : goal.invariant-loop-i
invariant-loop-i l =
    let legs : ℕ → List Watched = tracked_from l.track l.marks l.places in
    let last = ending_of l.place l.track.limit (waypoint_in l.marks l.places l.track.last) l.candidate in
    next_in (view_at l.place) l.candidate (Ok last) (legs l.i) ≡ next (view_at l.place) l.candidate (legs l.track.first)
