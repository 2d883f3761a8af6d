-- `arrival_times::soonest::soonest_of` meets its contract: at each turn the smallest of the best so far and the rest is that of
-- all.
-- Assumes nothing.
use Prim.Native.Nat.{ℕ}
use mathlib.Core.Path.{◌≡◌}
use Rattle.lent.specs.Listed.{listed_to}
use Rattle.table.specs.Obstacle.{Obstacle}
use Rattle.table.specs.Table.{obstacle_in, obstacles_in}
use Rattle.arrival_search.specs.Search.{soonest}
use Rattle.arrival_legs.specs.Watched.{view_at, watched_all}
use Rattle.arrival_times.proofs.soonest.soonest_of.Given as goal
use Rattle.std.specs.Prelude.{Ok}
use Rattle.std.specs.Prelude.{None}

abbrev pub invariant-loop-o : goal.invariant-loop-o
invariant-loop-o l =
    let f : ℕ → Obstacle = obstacle_in l.marks l.places in
    soonest (view_at l.place) l.candidate l.best (watched_all l.p (listed_to f l.count l.o)) ≡
    soonest (view_at l.place) l.candidate (Ok None) (watched_all l.p (obstacles_in l.marks l.places))
