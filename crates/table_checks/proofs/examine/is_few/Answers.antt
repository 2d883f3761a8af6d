-- `table_checks::examine::is_few` meets its contract: at each turn, the legs so far and those of the obstacles from
-- o on are all legs; there is no room for more obstacles than there may be.
-- Assumes nothing.
use Rattle.std.proofs.Common.{rules, tests, ◌-◌, ◌≡◌, arith, length, ℕ, List, sym}
use borrow.Author.Tests.{le-leb}
use lib.Ieee.{Float}
use Rattle.table.specs.Obstacle.{legs_of}
use Rattle.table.specs.Examined.{is_few, legs_in_all}
use Rattle.table.proofs.Counting.{legs_done_all, legs_next_all}
use Rattle.table.proofs.Legs.{legs_count}
use Rattle.table.specs.Table.{first_in, end_in, waypoint_in, waypoints_in, obstacle_in, obstacles_in, obstacle_count}
use Rattle.table.proofs.Walking.{few_in_table, obstacles_counted, end_in_room}
use Rattle.table_checks.proofs.examine.is_few.Goals as goal

-- The legs of obstacle o, counted by where its waypoints begin and end.
legs-between : (marks : List ℕ) (places : List Float) (o : ℕ) →
    (end_in marks o - first_in marks o) - 1 ≡ length (legs_of (waypoints_in marks places o))
unfolding waypoints_in
legs-between marks places o = sym (legs_count (waypoint_in marks places) (end_in marks o) (first_in marks o))

pub overflow_add-legs : goal.overflow_add-legs
overflow_add-legs c = omega (arith, end_in_room c.args.marks.now c.loop-o.o, few_in_table c.args.marks.now)

pub loop-o-preserved : goal.loop-o-preserved
loop-o-preserved c =
    let l = c.loop-o in
    let marks = c.args.marks.now in
    let end = end_in_room marks l.o in (
      omega arith,
      λ places.
          let here = legs-between marks places l.o in
          let next = legs_next_all (obstacle_in marks places) (obstacle_count marks) l.o (omega arith) in
          let kept = l.invariant.1 places in
          omega arith,
    )

pub returns : goal.returns
unfolding is_few
returns c places =
    let l = c.loop-o in
    let marks = c.args.marks.now in
    let kept = l.invariant.1 places in
    let none = legs_done_all (obstacle_in marks places) (obstacle_count marks) l.o (omega arith) in
    let count = obstacles_counted marks places in
    let few = few_in_table marks in
    let all : l.legs ≡ legs_in_all (obstacles_in marks places) = omega arith in
    rw (le-leb (length (obstacles_in marks places)) 32 (omega arith)) (search (rules, tests))
