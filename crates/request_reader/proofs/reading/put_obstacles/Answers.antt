-- `request_reader::reading::put_obstacles` meets its contract: the obstacles that stand in the table, with those that are left, are all.
-- Assumes nothing.
use mathlib.Core.Path.{◌≡◌, refl, sym, ◌∙◌}
use Prim.Native.Nat.{◌+◌, ◌-◌, ◌≤◌, ◌<◌}
use native.Mathlib.Omega.{arith}
use lib.ListN.{length-set}
use Rattle.request_format.specs.Format.{obstacles_at, request_bits}
use Rattle.request_format.proofs.Counts.{length_obstacles, obstacles_done, obstacles_next, bits_next, few_obstacles}
use Rattle.table_packing.proofs.Filled.{count_here}
use Rattle.request_reader.proofs.Counts.{count_next, few_points}
use Rattle.request_reader.proofs.Placed.{placed_first, placed_next, placed_last}
use Rattle.request_reader.proofs.reading.put_obstacles.Goals as goal

pub loop-o-init : goal.loop-o-init
unfolding request_bits
loop-o-init c =
    let s = c.args.s.now in
    let n = c.args.obstacles in
    let all = obstacles_at s 510 n in
    let marks = c.args.marks.now in
    let few : n ≤ 32 = omega (arith, few_obstacles all c.requires.counted, length_obstacles s 510 n) in
    let whole : n - 0 ≡ n = omega arith in
    let counted = count_here marks n c.requires.shaped.0 few ∙ sym (length_obstacles s 510 n) in
    let long = length-set marks 0 n ∙ c.requires.shaped.0 in
    (rw whole refl, rw (whole, c.put_count.ensures) (placed_first all _ _ counted long c.requires.shaped.1))

pub loop-o-preserved : goal.loop-o-preserved
loop-o-preserved c =
    let l = c.loop-o in
    let a = c.args in
    let s = a.s.now in
    let n = a.obstacles in
    let p = c.number_at-points.result in
    let count = c.number_at-points.ensures in
    let left = c.loop-o-test.true in
    let all = obstacles_at s 510 n in
    let row : l.o < 32 = omega (arith, few_obstacles all c.requires.counted, length_obstacles s 510 n) in
    let room : l.from + p ≤ 288 =
    omega (arith, few_points all c.requires.counted, l.invariant.1.many, count_next s l.at n l.o left, count) in
    let before = rw (obstacles_next s l.at n l.o p left count) at l.invariant.1 in
    let put = c.put_points.ensures in (
      omega (arith, bits_next s l.at n l.o p left count, l.invariant.0),
      rw (put.marked, put.placed, c.put_ends.ensures, c.put_numbers.ensures) (placed_next s l.at p count before row room),
    )

pub returns : goal.returns
returns c =
    let a = c.args in
    let l = c.loop-o in
    let none = obstacles_done a.s.now l.at a.obstacles l.o c.loop-o-test.false in
    placed_last (rw none at l.invariant.1) (omega (arith, length_obstacles a.s.now 510 a.obstacles))
