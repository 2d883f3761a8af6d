-- `hint_walk::walk::with_obstacle` meets its contract: at each turn what the walk from here on adds, the whole one adds.
-- Assumes nothing.
use Rattle.std.proofs.Common.{rules, ◌≡◌, ℕ}
use Rattle.std.specs.Prelude.{Err}
use Rattle.lent.specs.Listed.{listed_to}
use Rattle.shapes.specs.declared.waypoint.Leg.{Leg}
use Rattle.table.specs.Table.{leg_in, obstacle_in}
use Rattle.hint_list.specs.Adding.{Added}
use Rattle.hint_walk.specs.Walk.{near_leg, near_legs, near_obstacle}
use Rattle.hint_walk.proofs.Walking.{legs_walked, leg_goes_on, leg_ends, obstacle_legs}
use Rattle.hint_walk.proofs.walk.with_obstacle.Goals as goal
use Rattle.hint_walk.proofs.walk.with_obstacle.Goals.{After-first_of-i, After-near_leg}

-- The whole walk is the obstacle's.
obstacles-own : (c : After-first_of-i) →
    let a = c.args in
    let leg : ℕ → Leg = leg_in a.marks.now a.places.now in
    let legs = listed_to leg c.walked_to-last.result c.first_of-i.result in
    near_legs a.agent a.bounds c.other_of-other.result legs a.n ≡
    near_obstacle a.agent a.p a.bounds a.o (obstacle_in a.marks.now a.places.now a.o) a.n
obstacles-own c =
    let a = c.args in
    rw (c.first_of-i.ensures, c.walked_to-last.ensures, c.other_of-other.ensures, c.profile_at.ensures)
    (obstacle_legs a.agent a.p a.bounds a.marks.now a.places.now a.o a.n)

-- What was found with the leg from waypoint i on, by the table's own numbers.
leg-found : (c : After-near_leg) →
    let l = c.loop-i in
    let a = c.args in
    let leg : ℕ → Leg = leg_in a.marks.now a.places.now in
    let found = near_leg a.agent a.bounds c.other_of-other.result (leg l.i) l.m in
    Added found l.m l.hints c.near_leg.new.hints c.near_leg.result
leg-found c = rw c.leg_at-leg.ensures at c.near_leg.ensures

pub returns-in_err-m : goal.returns-in_err-m
returns-in_err-m c =
    let l = c.loop-i in
    let a = c.args in
    let leg : ℕ → Leg = leg_in a.marks.now a.places.now in
    let end = c.walked_to-last.result in
    let found = rw c.in_err-m.was at (leg-found (goal.at.returns-in_err-m c).After-near_leg) in
    let refused : c.from_residual.result ≡ Err c.in_err-m.field-0.0 = search rules in
    rw (refused, ← obstacles-own (goal.at.returns-in_err-m c).After-first_of-i)
    (l.invariant _ _
    (leg_ends a.agent a.bounds c.other_of-other.result leg end l.i l.m _ c.loop-i-test.true found))

pub loop-i-preserved : goal.loop-i-preserved
loop-i-preserved c left r rest =
    let l = c.loop-i in
    let a = c.args in
    let leg : ℕ → Leg = leg_in a.marks.now a.places.now in
    let end = c.walked_to-last.result in
    let more = c.loop-i-test.true in
    let stored = rw c.in_ok-m.was at (leg-found (goal.at.loop-i-preserved c).After-near_leg) in
    l.invariant left r (leg_goes_on a.agent a.bounds c.other_of-other.result leg end l.i l.m _ more stored rest)

pub returns : goal.returns
returns c =
    let l = c.loop-i in
    let a = c.args in
    let leg : ℕ → Leg = leg_in a.marks.now a.places.now in
    let end = c.walked_to-last.result in
    let done = legs_walked a.agent a.bounds c.other_of-other.result leg end l.i l.m l.hints in
    rw (← obstacles-own (goal.at.returns c).After-first_of-i) (l.invariant _ _ (done c.loop-i-test.false))
