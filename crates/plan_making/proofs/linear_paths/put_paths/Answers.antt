-- `plan_making::linear_paths::put_paths` meets its contract: at each turn the paths found so far, with those for the arrival times
-- from here on behind them, are all.
-- Assumes nothing.
use Prim.Native.Nat.{ℕ, ◌≤◌}
use mathlib.Core.Path.{◌≡◌, ap, ◌∙◌}
use mathlib.Core.List.{List}
use native.Mathlib.Omega.{arith}
use lib.IntN.{pos}
use lib.ListN.{length, get_or}
use Rattle.times.specs.declared.time.TimePoint.{TimePoint}
use Rattle.number_words.proofs.ReadBack.{read, read_back}
use Rattle.table.specs.Table.{obstacles_in}
use Rattle.hint_list.specs.Words.{hints_in}
use Rattle.hint_list.proofs.Reading.{few, counted}
use Rattle.one_path.specs.Path.{path_for}
use Rattle.one_path.specs.Laid.{PutPath}
use Rattle.plan_making.proofs.Keeping.{kept_start, kept_end}
use Rattle.plan_making.proofs.Keeping.{kept_refused, kept_missing, path_few, kept_path}
use Rattle.std.proofs.Common.{rules}
use Rattle.std.specs.Prelude.{Result, Ok, Err}
use Rattle.plan_making.proofs.linear_paths.put_paths.Goals as goal
use Rattle.plan_making.proofs.linear_paths.put_paths.Goals.{in-Missing, in-Path, After-compute_safe_arrival_path}

-- A list of words has at most 64 hints.
few-hints : (words : List ℕ) → length (hints_in words) ≤ 64
few-hints words = omega (arith, few words, counted words)

-- The arrival time at i is what is read there.
as_read : (c : After-compute_safe_arrival_path) →
    let ns = get_or c.args.list.now c.loop-ns.ns-index (pos 0) in
    read ns ≡ ns
as_read c = read_back _ (record { sfits = c.arrival-1.given })

-- What the search for it leaves.
put : (c : After-compute_safe_arrival_path) →
    let a = c.args in
    let os = obstacles_in a.marks.now a.places.now in
    let t : TimePoint = record { 0 = get_or a.list.now c.loop-ns.ns-index (pos 0) } in
    let call = c.compute_safe_arrival_path in
    let left = call.new.out in
    PutPath (path_for a.trip os (hints_in a.hints.now) a.budget t) c.loop-ns.actions left c.loop-ns.row call.result
put c = rw (as_read c) at c.compute_safe_arrival_path.ensures

pub loop-ns-init : goal.loop-ns-init
loop-ns-init c = kept_start _ _ _ _ _ _ _

pub returns-in_err-path : goal.returns-in_err-path
returns-in_err-path c =
    let same : c.from_residual.result ≡ Err c.in_err-path.field-0.0 = search rules in
    rw same
    (kept_refused c.loop-ns.invariant c.loop-ns-test.true (put (goal.at.returns-in_err-path c).After-compute_safe_arrival_path)
    c.in_err-path.was)

pub overflow_add-row : goal.overflow_add-row
overflow_add-row c =
    let k = c.loop-ns.invariant in
    let hints = few-hints c.args.hints.now in
    let more = path_few k c.loop-ns-test.true (put (goal.at.overflow_add-row c).After-compute_safe_arrival_path) hints (c.in_ok-path.was ∙ ap Ok c.in-Path.is) in
    omega (arith, c.requires, c.loop-ns-test.true, k.few)

pub loop-ns-preserved : goal.loop-ns-preserved
loop-ns-preserved c =
    let path = (goal.at.loop-ns-preserved c).After-compute_safe_arrival_path in
    let k = c.loop-ns.invariant in
    elim c.match-path.branch [
      | in-Missing w ↦ rw (w.found-is, w.row-is, w.paths-is)
          (kept_missing k c.loop-ns-test.true (put path) (c.in_ok-path.was ∙ ap Ok w.in-Missing.is))
      | in-Path w ↦ rw (w.found-is, w.row-is, w.paths-is)
          (kept_path k c.loop-ns-test.true (put path) (few-hints c.args.hints.now) (c.in_ok-path.was ∙ ap Ok w.in-Path.is)
          (rw (as_read path) at w.put_path.ensures))
    ]

pub returns : goal.returns
returns c = kept_end c.loop-ns.invariant c.loop-ns-test.false
