-- `request_reader::reading::put_obstacles` meets its contract: the obstacles that stand in the table, with those that are left, are all.
-- Assumes nothing.
use mathlib.Core.Path.{◌≡◌}
use Prim.Native.Nat.{◌+◌, ◌-◌}
use Rattle.request_format.specs.Format.{obstacles_at, bits_in_all, request_bits}
use Rattle.request_reader.proofs.Placed.{Placed}
use Rattle.request_reader.proofs.reading.put_obstacles.Given as goal

abbrev pub invariant-loop-o : goal.invariant-loop-o
invariant-loop-o l =
    let all = obstacles_at l.s 510 l.obstacles in
    let rest = obstacles_at l.s l.at (l.obstacles - l.o) in
    (l.at + bits_in_all rest ≡ request_bits all) × Placed all rest l.o l.from l.marks l.places
