-- `table_checks::calls::box_of_obstacle` meets its contract: the obstacle is packed and examined as a table of its own, whose box is its.
-- Assumes nothing.
use mathlib.Core.Path.{◌∙◌}
use borrow.Author.Tests.{eq-eqb, ne_eqb, not-false}
use lib.Ieee
use Rattle.floats.proofs.Tests.{found_true, found_false}
use Rattle.table_checks.specs.Asked.{asked_hull}
use Rattle.table_checks.proofs.Alone.{alone_unpacked, alone_shaped, alone_allowed, alone_box}
use Rattle.table_checks.proofs.calls.box_of_obstacle.Goals as goal

pub returns-then-not-pack : goal.returns-then-not-pack
unfolding asked_hull Ieee.of_bits
returns-then-not-pack c =
    let a = c.args in
    let marks = c.pack.new.marks in
    let places = c.pack.new.places in
    rw (alone_unpacked a.p a.times.now a.xs.now a.ys.now marks places c.pack.result c.pack.ensures (c.if-not-pack.true))

pub returns-then-not-is_shaped : goal.returns-then-not-is_shaped
unfolding asked_hull Ieee.of_bits
returns-then-not-is_shaped c =
    let a = c.args in
    let marks = c.pack.new.marks in
    let places = c.pack.new.places in
    let had = not-false c.pack.result c.if-not-pack.false-raw in
    rw (found_false (c.is_shaped.ensures ∙ alone_shaped a.p a.times.now a.xs.now a.ys.now marks places c.pack.result c.pack.ensures had) c.if-not-is_shaped.true-raw)

pub returns-then-not-are_allowed : goal.returns-then-not-are_allowed
unfolding asked_hull Ieee.of_bits
returns-then-not-are_allowed c =
    let a = c.args in
    let marks = c.pack.new.marks in
    let places = c.pack.new.places in
    let had = not-false c.pack.result c.if-not-pack.false-raw in
    let shaped = found_true (c.is_shaped.ensures ∙ alone_shaped a.p a.times.now a.xs.now a.ys.now marks places c.pack.result c.pack.ensures had) c.if-not-is_shaped.false-raw in
    rw (shaped, found_false (c.are_allowed.ensures ∙ alone_allowed a.p a.times.now a.xs.now a.ys.now marks places c.pack.result c.pack.ensures had) c.if-not-are_allowed.true-raw)

pub returns-then-times-eq0 : goal.returns-then-times-eq0
unfolding asked_hull Ieee.of_bits
returns-then-times-eq0 c =
    let a = c.args in
    let marks = c.pack.new.marks in
    let places = c.pack.new.places in
    let had = not-false c.pack.result c.if-not-pack.false-raw in
    let shaped = found_true (c.is_shaped.ensures ∙ alone_shaped a.p a.times.now a.xs.now a.ys.now marks places c.pack.result c.pack.ensures had) c.if-not-is_shaped.false-raw in
    let allowed = found_true (c.are_allowed.ensures ∙ alone_allowed a.p a.times.now a.xs.now a.ys.now marks places c.pack.result c.pack.ensures had) c.if-not-are_allowed.false-raw in
    rw (shaped, allowed, eq-eqb _ _ c.if-times-eq0.true)

pub returns : goal.returns
unfolding asked_hull Ieee.of_bits
returns c =
    let a = c.args in
    let marks = c.pack.new.marks in
    let places = c.pack.new.places in
    let had = not-false c.pack.result c.if-not-pack.false-raw in
    let shaped = found_true (c.is_shaped.ensures ∙ alone_shaped a.p a.times.now a.xs.now a.ys.now marks places c.pack.result c.pack.ensures had) c.if-not-is_shaped.false-raw in
    let allowed = found_true (c.are_allowed.ensures ∙ alone_allowed a.p a.times.now a.xs.now a.ys.now marks places c.pack.result c.pack.ensures had) c.if-not-are_allowed.false-raw in
    rw (shaped, allowed, ne_eqb _ _ c.if-times-eq0.false, c.box_at.ensures, alone_box a.p a.times.now a.xs.now a.ys.now marks places c.pack.result c.pack.ensures had)
