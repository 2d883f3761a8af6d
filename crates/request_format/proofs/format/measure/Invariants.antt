-- `request_format::format::measure` meets its contract: what is found from here on, with the legs and bits so far, is what is found of
-- all.
-- Assumes nothing.
use mathlib.Core.Path.{◌≡◌}
use Prim.Native.Nat.{◌+◌, ◌-◌, ◌*◌, ◌≤◌}
use Rattle.request_format.specs.Format.{obstacles_at}
use Rattle.request_format.specs.Measured.{extent_of}
use Rattle.request_format.proofs.Extents.{extent_from}
use Rattle.request_format.proofs.format.measure.Given as goal

abbrev pub invariant-loop-o : goal.invariant-loop-o
invariant-loop-o l =
    (l.legs ≤ 256) ×
    (l.at ≤ 510 + 379 * l._o + 178 * l.legs) ×
    (extent_from l.at l.legs (obstacles_at l.s l.at (l.obstacles - l._o)) ≡ extent_of (obstacles_at l.s 510 l.obstacles))
