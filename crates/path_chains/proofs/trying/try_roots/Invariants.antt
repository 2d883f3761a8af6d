-- `path_chains::trying::try_roots` meets its contract: the search from the root that the loop is at is the search from the first.
-- Assumes nothing.
use Prim.Native.Nat.{ℕ, ◌-◌}
use mathlib.Core.Path.{◌≡◌}
use mathlib.Core.List.{List}
use lib.ListN.{length}
use Rattle.table.specs.Obstacle.{Obstacle}
use Rattle.table.specs.Table.{obstacles_in}
use Rattle.hint_list.specs.Words.{hints_in}
use Rattle.hint_list.specs.declared.hint.RankedHint.{RankedHint}
use Rattle.path_tests.specs.declared.trip.Trip.{Trip}
use Rattle.path_search.specs.Answer.{Chained}
use Rattle.path_chains.specs.Trying.{roots_tried}
use Rattle.path_chains.proofs.trying.try_roots.Given as goal

-- The search from root r on, with the pops made.
abbrev pub rootsFrom : Trip → List Obstacle → List RankedHint → ℕ → ℕ → ℕ → Chained
rootsFrom trip os hints budget r pops = roots_tried trip os hints budget (length hints - r) r pops

abbrev pub invariant-loop-root : goal.invariant-loop-root
invariant-loop-root l =
    let os = obstacles_in l.marks l.places in
    (l.chain ≡ l.initial.chain) × (rootsFrom l.trip os (hints_in l.hints) l.budget l.root l.made ≡ rootsFrom l.trip os (hints_in l.hints) l.budget l.from 0)
