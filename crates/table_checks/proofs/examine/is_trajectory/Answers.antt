-- `table_checks::examine::is_trajectory` meets its contract: what `all` answers is the test of every leg.
-- Assumes nothing.
use Rattle.std.proofs.Common.{rules, tests, ◌-◌, ◌≡◌, sym, ◌∙◌, length, ℕ}
use borrow.Author.Tests.{ne_eqb}
use Rattle.lent.specs.Listed.{listed_to}
use Rattle.lent.proofs.Listed.{length_listed}
use Rattle.lent.proofs.Ranges.{every_from_all}
use Rattle.shapes.specs.Leg.{is_rising}
use Rattle.shapes.specs.declared.waypoint.Waypoint.{Waypoint}
use Rattle.table.specs.Examined.{is_trajectory}
use Rattle.table.proofs.Legs.{legs_up_to}
use Rattle.table.specs.Table.{waypoint_in, leg_in}
use Rattle.table_checks.proofs.examine.is_trajectory.Goals as goal

pub returns-then-len-ne1 : goal.returns-then-len-ne1
unfolding is_trajectory
returns-then-len-ne1 c =
    let a = c.args in
    let w : ℕ → Waypoint = waypoint_in a.marks.now a.places.now in
    let rising = every_from_all is_rising (leg_in a.marks.now a.places.now) (a.to - 1) a.from c.all.ensures.ran (cc) (λ x t q k. search (rules, tests)) in
    let several : length (listed_to w a.to a.from) ≡ 1 → ⊥ = (λ e. c.if-len-ne1.true (c.len.ensures.value ∙ sym (length_listed w (a.to - a.from) a.from) ∙ e)) in
    rw (ne_eqb _ 1 several, ← legs_up_to w a.to a.from) rising

pub returns-else-len-ne1 : goal.returns-else-len-ne1
unfolding is_trajectory
returns-else-len-ne1 c =
    let a = c.args in
    let w : ℕ → Waypoint = waypoint_in a.marks.now a.places.now in
    let single = c.len.ensures.value ∙ sym (length_listed w (a.to - a.from) a.from) in
    rw (← single, c.if-len-ne1.false)
