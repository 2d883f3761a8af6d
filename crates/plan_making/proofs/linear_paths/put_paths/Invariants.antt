-- `plan_making::linear_paths::put_paths` meets its contract: at each turn the paths found so far, with those for the arrival times
-- from here on behind them, are all.
-- Assumes nothing.
use Rattle.table.specs.Table.{obstacles_in}
use Rattle.hint_list.specs.Words.{hints_in}
use Rattle.plan_making.proofs.Keeping.{Kept}
use Rattle.plan_making.proofs.linear_paths.put_paths.Given as goal

abbrev pub invariant-loop-ns : goal.invariant-loop-ns
invariant-loop-ns l = Kept l.trip (obstacles_in l.marks l.places) (hints_in l.hints) l.budget l.list l.initial.paths l.initial.actions l.ns-index l.found l.row l.paths l.actions
