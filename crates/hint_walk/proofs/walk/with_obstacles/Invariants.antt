-- `hint_walk::walk::with_obstacles` meets its contract: at each turn what the walk from here on adds, the whole one adds.
-- Assumes nothing.
use Prim.Native.Nat.{ℕ}
use mathlib.Core.List.{List}
use Rattle.lent.specs.Listed.{listed_to}
use Rattle.table.specs.Obstacle.{Obstacle}
use Rattle.table.specs.Table.{obstacle_count, obstacle_in, obstacles_in}
use Rattle.hint_list.specs.Adding.{Added}
use Rattle.hint_walk.specs.Walk.{near_obstacles}
use Rattle.hint_walk.proofs.walk.with_obstacles.Given as goal
use Rattle.std.specs.Prelude.{Result}
use Rattle.refusals.specs.declared.Refusal.{Refusal}

abbrev pub invariant-loop-o : goal.invariant-loop-o
invariant-loop-o l =
    let f : ℕ → Obstacle = obstacle_in l.marks l.places in
    (left : List ℕ) (r : Result ℕ Refusal) → Added (near_obstacles l.agent l.p l.bounds l.o (listed_to f (obstacle_count l.marks) l.o) l.n) l.n l.hints left r →
    Added (near_obstacles l.agent l.p l.bounds 0 (obstacles_in l.marks l.places) 0) 0 l.initial.hints left r
