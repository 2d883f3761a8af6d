-- `hint_walk::walk::with_obstacle` meets its contract: at each turn what the walk from here on adds, the whole one adds.
-- Assumes nothing.
use Prim.Native.Nat.{ℕ}
use mathlib.Core.List.{List}
use Rattle.lent.specs.Listed.{listed_to}
use Rattle.shapes.specs.declared.waypoint.Leg.{Leg}
use Rattle.table.specs.Table.{leg_in}
use Rattle.hint_list.specs.Adding.{Added}
use Rattle.hint_walk.specs.Walk.{near_legs}
use Rattle.hint_walk.proofs.walk.with_obstacle.Given as goal
use Rattle.std.specs.Prelude.{Result}
use Rattle.refusals.specs.declared.Refusal.{Refusal}

abbrev pub invariant-loop-i : goal.invariant-loop-i
invariant-loop-i l =
    let leg : ℕ → Leg = leg_in l.marks l.places in
    (left : List ℕ) (r : Result ℕ Refusal) → Added (near_legs l.agent l.bounds l.other (listed_to leg l.last l.i) l.m) l.m l.hints left r →
    Added (near_legs l.agent l.bounds l.other (listed_to leg l.last l.initial.i) l.n) l.n l.initial.hints left r
