-- `arrival_legs::adjust::flee_from` meets its contract: at each turn the walk from here on is the whole one.
-- Assumes nothing.
use Prim.Native.Nat.{ℕ}
use mathlib.Core.Path.{◌≡◌}
use Rattle.std.specs.Prelude.{Result}
use Rattle.refusals.specs.declared.Refusal.{Refusal}
use Rattle.arrival_search.specs.Search.{flee}
use Rattle.arrival_search.specs.declared.turn.Adjustment.{Adjustment}
use Rattle.arrival_legs.specs.Watched.{view_at}
use Rattle.arrival_legs.specs.Track.{tracked_from}
use Rattle.arrival_legs.proofs.Walking.{finish_in}
use Rattle.arrival_legs.proofs.adjust.flee_from.Given as goal

abbrev pub invariant-loop-i : goal.invariant-loop-i
invariant-loop-i l =
    let walk : ℕ → Result Adjustment Refusal = λ i.
    flee (view_at l.place) l.candidate (finish_in l.track l.marks l.places) (tracked_from l.track l.marks l.places i) in
    walk l.i ≡ walk l.from
