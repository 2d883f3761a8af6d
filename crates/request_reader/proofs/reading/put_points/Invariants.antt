-- `request_reader::reading::put_points` meets its contract: at each turn, the table with the waypoints that are left is still the one with them
-- all.
-- Assumes nothing.
use mathlib.Core.Path.{◌≡◌}
use Prim.Native.Nat.{◌+◌, ◌-◌, ◌*◌}
use Rattle.request_format.specs.Format.{points_at}
use Rattle.request_reader.specs.Laid.{point_times, point_places}
use Rattle.request_reader.proofs.reading.put_points.Given as goal

abbrev pub invariant-loop-i : goal.invariant-loop-i
invariant-loop-i l =
    let rest = points_at l.s (l.at + 178 * l.i) (l.n - l.i) in
    (point_times rest (l.from + l.i) l.marks ≡ point_times (points_at l.s l.at l.n) l.from l.initial.marks) ×
    (point_places rest (l.from + l.i) l.places ≡ point_places (points_at l.s l.at l.n) l.from l.initial.places)
