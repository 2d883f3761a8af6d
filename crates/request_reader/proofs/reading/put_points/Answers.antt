-- `request_reader::reading::put_points` meets its contract: at each turn, the table with the waypoints that are left is still the one with them
-- all.
-- Assumes nothing.
use mathlib.Core.Path.{◌≡◌}
use Prim.Native.Nat.{suc, ◌+◌, ◌-◌, ◌*◌}
use native.Mathlib.Omega.{arith}
use Rattle.request_format.specs.Format.{point_at}
use Rattle.table_packing.specs.Filling.{PutsWaypoint}
use Rattle.request_reader.specs.Table.{request_waypoint}
use Rattle.request_reader.specs.Laid.{point_times, point_places}
use Rattle.request_reader.proofs.Placed.{points_done, points_next}
use Rattle.request_reader.proofs.reading.put_points.Goals as goal

pub loop-i-init : goal.loop-i-init
loop-i-init c =
    let a = c.args in
    let none : a.from + 0 ≡ a.from = omega arith in
    let first : a.at + 178 * 0 ≡ a.at = omega arith in
    let all : a.n - 0 ≡ a.n = omega arith in
    (rw (none, first, all), rw (none, first, all))

pub loop-i-preserved : goal.loop-i-preserved
unfolding point_times point_places
loop-i-preserved c =
    let l = c.loop-i in
    let a = c.args in
    let s = a.s.now in
    let next = points_next s a.at a.n l.i c.loop-i-test.true in
    let one : a.from + (l.i + 1) ≡ suc (a.from + l.i) = omega arith in
    let put : PutsWaypoint (a.from + l.i) (request_waypoint (point_at s (a.at + 178 * l.i))) l.marks c.put_waypoint.new.marks
    l.places c.put_waypoint.new.places =
    rw c.waypoint_at-w.ensures at c.put_waypoint.ensures in
    (rw (one, put.marked) (rw next at l.invariant.0), rw (one, put.placed) (rw next at l.invariant.1))

pub returns : goal.returns
unfolding point_times point_places
returns c =
    let l = c.loop-i in
    let a = c.args in
    let none = points_done a.s.now (a.at + 178 * l.i) a.n l.i c.loop-i-test.false in
    record { marked = rw none at l.invariant.0; placed = rw none at l.invariant.1 }
