-- `hint_walk::walk::with_obstacles` meets its contract: at each turn what the walk from here on adds, the whole one adds.
-- Assumes nothing.
use Rattle.std.proofs.Common.{rules, ◌≡◌, ℕ, ◌≤◌, ◌<◌}
use native.Mathlib.Omega.{arith}
use Rattle.std.specs.Prelude.{Err}
use Rattle.table.specs.Obstacle.{Obstacle}
use Rattle.table.specs.Table.{obstacle_count, obstacle_in, obstacles_in}
use Rattle.hint_walk.proofs.Walking.{obstacles_walked, obstacle_goes_on, obstacle_ends}
use Rattle.hint_walk.proofs.walk.with_obstacles.Goals as goal

pub loop-o-init : goal.loop-o-init
unfolding obstacles_in
loop-o-init c = λ left r a. a

pub returns-in_err-n : goal.returns-in_err-n
returns-in_err-n c =
    let l = c.loop-o in
    let a = c.args in
    let f : ℕ → Obstacle = obstacle_in a.marks.now a.places.now in
    let more : l.o < obstacle_count a.marks.now = omega arith in
    let refused : c.from_residual.result ≡ Err c.in_err-n.field-0.0 = search rules in
    rw refused
    (l.invariant _ _ (obstacle_ends a.agent a.p a.bounds f (obstacle_count a.marks.now) l.o l.n _ more c.in_err-n.ensures))

pub loop-o-preserved : goal.loop-o-preserved
loop-o-preserved c left r rest =
    let l = c.loop-o in
    let a = c.args in
    let f : ℕ → Obstacle = obstacle_in a.marks.now a.places.now in
    let more : l.o < obstacle_count a.marks.now = omega arith in
    l.invariant left r
    (obstacle_goes_on a.agent a.p a.bounds f (obstacle_count a.marks.now) l.o l.n _ more c.in_ok-n.ensures rest)

pub returns : goal.returns
returns c =
    let l = c.loop-o in
    let a = c.args in
    let f : ℕ → Obstacle = obstacle_in a.marks.now a.places.now in
    let done : obstacle_count a.marks.now ≤ l.o = omega arith in
    l.invariant _ _ (obstacles_walked a.agent a.p a.bounds f (obstacle_count a.marks.now) l.o l.n l.hints done)
