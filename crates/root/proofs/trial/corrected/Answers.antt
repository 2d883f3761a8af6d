-- `root::trial::corrected` meets its contract: at each way out with a number the two tests before it are the two sides of `IsNearest`.
-- Assumes nothing.
use mathlib.Core.Path.{◌≡◌}
use Prim.Native.Nat.{ℕ, zero, suc, ◌+◌, ◌-◌, ◌*◌, ◌≤◌, ◌<◌}
use native.Mathlib.Omega.{arith}
use Rattle.root.specs.Trial.{IsNearest}
use Rattle.root.proofs.Trials.{tried, none_below, none_above}
use Rattle.root.proofs.trial.corrected.Goals as goal

-- Where the guess is too high by one.
one_less : (n g over under : ℕ) →
    n + under ≡ g * g + over → 0 < g → over + g ≤ under → under + 2 < over + 3 * g → IsNearest n (g - 1)
one_less n zero over under e p l h = omega arith
one_less n (suc u) over under e p l h =
    let less : suc u - 1 ≡ u = omega arith in
    rw less (record { under = omega arith; over = omega arith })

pub returns-then-under-over-2 : goal.returns-then-under-over-2
returns-then-under-over-2 c n e =
    let g = c.args.g in
    tried n g (g - 1) (one_less n g c.args.over c.args.under e (omega arith) (omega arith) (omega arith))

pub returns-then-over-under : goal.returns-then-over-under
returns-then-over-under c n e = none_below n c.args.g (omega arith) (omega arith)

pub returns : goal.returns
returns c n e = none_above n c.args.g (omega arith)
