-- `root::nearest::root_bits` meets its contract: the number that `root_digits` is given, with 54 zeros, is the widened digits.
-- Assumes nothing.
use mathlib.Core.Path.{◌≡◌}
use Prim.Native.Nat.{◌*◌, ◌%◌, ◌^◌}
use native.Mathlib.Omega.{arith}
use lib.Ieee.{binary64, of_bits}
use Rattle.root.specs.Digits.{paired}
use Rattle.root.specs.Root.{least_units}
use Rattle.root.proofs.Spelling.{pattern_is}
use Rattle.root.proofs.nearest.root_bits.Goals as goal
use Rattle.root.proofs.nearest.root_bits.Goals.{Joined-j-eq1, then-j-eq1, else-j-eq1}

-- One zero more stands behind the digits where their place is odd.
given : (c : Joined-j-eq1) → c.if-j-eq1.a * 2 ^ 54 ≡ paired c.digits_of-m.result.m c.digits_of-m.result.j
given c =
    let j = c.digits_of-m.result.j in
    elim c.if-j-eq1.branch [
      | then-j-eq1 w ↦ let one : j % 2 ≡ 1 = omega arith in rw (w.a-is, one) (omega arith)
      | else-j-eq1 w ↦ let none : j % 2 ≡ 0 = omega arith in rw (w.a-is, none)
    ]

pub returns : goal.returns
returns c =
    let X = least_units (of_bits binary64 c.args.b) in
    let d = c.digits_of-m in
    rw (pattern_is X d.result.m d.result.j d.ensures.0, c.root_digits.ensures, given (goal.at.returns c).Joined-j-eq1)
