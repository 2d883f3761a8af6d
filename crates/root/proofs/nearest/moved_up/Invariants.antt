-- `root::nearest::moved_up` meets its contract: doubling the digits and lowering their place keep the number, and as long as there are
-- fewer than 53 digits there is a place left to lower.
-- Assumes nothing.
use mathlib.Core.Path.{◌≡◌}
use Prim.Native.Nat.{◌*◌, ◌^◌, ◌≤◌, ◌<◌}
use Rattle.root.proofs.nearest.moved_up.Given as goal

abbrev pub invariant-loop-m : goal.invariant-loop-m
invariant-loop-m l = (l.m * 2 ^ l.j ≡ l.t * 2 ^ 52) × (l.m < 2 ^ 53) × (l.j ≤ 52)

abbrev pub decreases-loop-m : goal.decreases-loop-m
decreases-loop-m l = l.j
