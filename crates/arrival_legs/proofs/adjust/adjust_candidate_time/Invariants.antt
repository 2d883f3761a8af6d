-- `arrival_legs::adjust::adjust_candidate_time` meets its contract: at each turn the walk from here on is the whole one.
-- Assumes nothing.
use Prim.Native.Nat.{ℕ}
use mathlib.Core.Path.{◌≡◌}
use mathlib.Core.List.{List}
use Rattle.arrival_search.specs.Search.{look, adjust}
use Rattle.arrival_legs.specs.Watched.{Watched, view_at}
use Rattle.arrival_legs.specs.Track.{tracked_from}
use Rattle.arrival_legs.proofs.Walking.{finish_in}
use Rattle.arrival_legs.proofs.adjust.adjust_candidate_time.Given as goal

abbrev pub invariant-loop-i : goal.invariant-loop-i
invariant-loop-i l =
    let legs : ℕ → List Watched = tracked_from l.track l.marks l.places in
    look (view_at l.place) l.candidate (finish_in l.track l.marks l.places) (legs l.i) ≡
    adjust (view_at l.place) l.candidate (legs l.track.first)
