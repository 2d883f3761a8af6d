-- `plan_making::linear_paths::plan_times` meets its contract: the refusal of the search, or the plan for the times that it lists; 289
-- places are enough for them.
-- Assumes nothing.
use Prim.Native.Nat.{◌≤◌}
use mathlib.Core.Path.{◌≡◌, sym, ◌∙◌}
use native.Mathlib.Omega.{arith}
use lib.ListN.{length, take}
use lib.Seq.{length-take-le}
use Rattle.table.specs.Table.{obstacles_in}
use Rattle.hint_list.specs.Words.{hints_in}
use Rattle.hint_list.proofs.Reading.{counted}
use Rattle.plan_model.specs.Plan.{paths_for, instants_of, paths_planned, times_planned}
use Rattle.arrival_times.proofs.Few.{few_listed}
use Rattle.plan_making.proofs.Among.{told_refused, told_few, told_listed}
use Rattle.plan_model.proofs.Handing.{refused_both}
use Rattle.plan_making.proofs.Fewer.{times_count, found_few}
use Rattle.plan_making.proofs.linear_paths.plan_times.Goals as goal
use Rattle.plan_making.proofs.linear_paths.plan_times.Goals.{In-Ok}

-- The times that are listed are at most 289, and all stand in the list.
listed : (c : In-Ok) →
    (c.in-Ok.arrivals.listed ≤ 289) × (c.in-Ok.arrivals.listed ≤ length c.compute_safe_arrival_times.new.list)
listed c =
    let call = c.compute_safe_arrival_times in
    let few = told_few call.ensures c.in-Ok.is in
    let same = call.auto.list in
    (omega arith, omega arith)

pub slice_bounds-list-end : goal.slice_bounds-list-end
slice_bounds-list-end c = (listed (goal.at.slice_bounds-list-end c).In-Ok).1

pub slice_bounds-put_paths-end : goal.slice_bounds-put_paths-end
slice_bounds-put_paths-end c = sym (length-take-le _ _ (listed (goal.at.slice_bounds-put_paths-end c).In-Ok).1)

-- As many times are read as are listed.
counts : (c : In-Ok) →
    let left = c.compute_safe_arrival_times.new.list in
    length (instants_of (take c.in-Ok.arrivals.listed left)) ≡ c.in-Ok.arrivals.listed
counts c = times_count _ _ (listed c).1

pub finish-requires : goal.finish-requires
finish-requires c found many e =
    let few = found_few _ _ _ _ _ c.put_paths-put.ensures e in
    omega (arith, (listed (goal.at.finish-requires c).In-Ok).0, counts (goal.at.finish-requires c).In-Ok)

pub returns-in-Err : goal.returns-in-Err
unfolding times_planned
returns-in-Err c =
    let a = c.args in
    let os = obstacles_in a.marks.now a.places.now in
    let told = c.compute_safe_arrival_times.ensures in
    rw
    (told_refused told _ c.in-Err.is (λ l m e.
    few_listed a.trip.profile a.trip.leg.end os l m c.requires e))
    (refused_both c.in-Err.why c.from.ensures c.refuse.ensures)

pub returns-in-Ok : goal.returns-in-Ok
unfolding times_planned paths_planned
returns-in-Ok c =
    let a = c.args in
    let os = obstacles_in a.marks.now a.places.now in
    let times = instants_of (take c.in-Ok.arrivals.listed c.compute_safe_arrival_times.new.list) in
    let answer = paths_for a.trip os (hints_in a.hints.now) a.budget times in
    let hints : length (hints_in a.hints.now) ≡ c.count_of-n.result =
    counted a.hints.now ∙ sym c.count_of-n.ensures in
    rw (told_listed c.compute_safe_arrival_times.ensures c.in-Ok.is _, hints, counts (goal.at.returns-in-Ok c).In-Ok)
    (c.finish.ensures answer a.paths.now a.actions.now c.put_paths-put.ensures)
