-- `root::nearest::root_digits` meets its contract: what the trial comes to is the whole root, halved and rounded up.
-- Assumes nothing.
use mathlib.Core.Path.{◌≡◌}
use Prim.Native.Nat.{◌*◌, ◌^◌}
use native.Mathlib.Omega.{arith}
use Rattle.root.proofs.NearestWhole.{nearest_whole}
use Rattle.root.proofs.nearest.root_digits.Goals as goal

pub returns-in-Some : goal.returns-in-Some
returns-in-Some c =
    let a = c.args.a in
    let four : 4 * (a * 2 ^ 52) ≡ a * 2 ^ 54 = omega arith in
    rw four at (nearest_whole (a * 2 ^ 52) c.in-Some.t (omega arith) c.in-Some.ensures.right)
