-- `path_roots::roots::first_root` meets its contract: none where all are below the goal's contour, else the last of the first one's
-- contour.
-- Assumes nothing.
use Prim.Native.Nat.{◌+◌, ◌≤◌}
use native.Mathlib.Omega.{arith}
use lib.ListN.{length, length-drop, drop}
use Rattle.hint_list.specs.Words.{hints_in}
use Rattle.hint_list.proofs.Reading.{few, counted}
use Rattle.path_roots.proofs.Counts.{from_here, level_in, no_root, root_found}
use Rattle.path_roots.proofs.roots.first_root.Goals as goal

pub returns-then-n-at : goal.returns-then-n-at
returns-then-n-at c =
    let a = c.args in
    let at = c.count_below-at in
    no_root a.goal (hints_in a.hints.now) at.result at.ensures (omega (arith, counted a.hints.now))

pub count_level-requires : goal.count_level-requires
count_level-requires c = omega (arith, counted c.args.hints.now)

pub overflow_add-result : goal.overflow_add-result
overflow_add-result c =
    let at = c.count_below-at.result in
    let words = c.args.hints.now in
    let behind = drop (at + 1) (hints_in words) in
    let level : c.count_level.result ≤ length behind = rw c.count_level.ensures (level_in _ behind) in
    omega (arith, few words, counted words, length-drop (at + 1) (hints_in words))

pub returns : goal.returns
returns c =
    let at = c.count_below-at in
    let a = c.args in
    let l = hints_in a.hints.now in
    let here = from_here l at.result (omega (arith, counted a.hints.now)) in
    let h = c.hint_at-h in
    rw c.count_level.ensures
    (root_found a.goal l at.result at.ensures h.result (rw h.ensures here))
