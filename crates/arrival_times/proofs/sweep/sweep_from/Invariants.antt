-- `arrival_times::sweep::sweep_from` meets its contract: at each turn the sweep from here on, at this candidate, is the whole one.
-- Assumes nothing.
use Prim.Native.Nat.{ℕ}
use mathlib.Core.Path.{◌≡◌}
use mathlib.Core.Bool.{false}
use Rattle.lent.specs.Listed.{listed_to}
use Rattle.table.specs.Obstacle.{Obstacle}
use Rattle.table.specs.Table.{obstacle_in, obstacles_in}
use Rattle.arrival_search.specs.Search.{sweep}
use Rattle.arrival_legs.specs.Watched.{view_at, watched_all}
use Rattle.arrival_times.proofs.sweep.sweep_from.Given as goal

abbrev pub invariant-loop-o : goal.invariant-loop-o
invariant-loop-o l =
    let f : ℕ → Obstacle = obstacle_in l.marks l.places in
    sweep (view_at l.place) l.candidate l.pushed (watched_all l.p (listed_to f l.count l.o)) ≡
    sweep (view_at l.place) l.initial.candidate false (watched_all l.p (obstacles_in l.marks l.places))
