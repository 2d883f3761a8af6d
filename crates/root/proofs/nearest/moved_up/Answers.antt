-- `root::nearest::moved_up` meets its contract: doubling the digits and lowering their place keep the number, and as long as there are
-- fewer than 53 digits there is a place left to lower.
-- Assumes nothing.
use mathlib.Core.Path.{◌≡◌, ◌∙◌}
use Prim.Native.Nat.{ℕ, zero, suc, ◌-◌, ◌*◌, ◌^◌, ◌<◌}
use native.Mathlib.Nat.{pow-succ'}
use native.Mathlib.Omega.{arith}
use Rattle.root.proofs.nearest.moved_up.Goals as goal

place-left : (m j t : ℕ) → m * 2 ^ j ≡ t * 2 ^ 52 → m < 2 ^ 52 → 0 < t → 0 < j
place-left m zero t e h p = omega arith
place-left m (suc j) t e h p = omega arith

up_one : (m j : ℕ) → 0 < j → m * 2 * 2 ^ (j - 1) ≡ m * 2 ^ j
up_one m zero h = omega arith
up_one m (suc j) h = let less : suc j - 1 ≡ j = omega arith in rw (less, pow-succ') (omega arith)

pub loop-m-preserved : goal.loop-m-preserved
loop-m-preserved c =
    let l = c.loop-m in
    let left = place-left l.m l.j c.args.t l.invariant.0 c.loop-m-test.true c.requires.0 in
    (up_one l.m l.j left ∙ l.invariant.0, omega arith, omega arith)
