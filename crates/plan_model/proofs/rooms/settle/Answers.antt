-- `plan_model::rooms::settle` meets its contract: 12 where either room is too small, else both are wiped behind their rows.
-- Assumes nothing.
use mathlib.Core.Path.{sym, ◌∙◌}
use native.Mathlib.Omega.{arith}
use lib.ListN.{length}
use Rattle.lent.proofs.Fours.{room_known}
use Rattle.plan_model.specs.Laid.{plan_number, plan_room, action_room_of}
use Rattle.plan_model.proofs.rooms.settle.Goals as goal

pub returns-then-not-has_room : goal.returns-then-not-has_room
unfolding plan_number plan_room action_room_of
returns-then-not-has_room c =
    let short = sym c.has_room.ensures ∙ c.if-not-has_room.true in
    let refused = c.refuse.ensures in
    record {
      number = rw short (refused.number_law ∙ c.from.ensures);
      room = rw short refused.room;
      action_room = rw short refused.action_room;
    }

pub returns-then-not-has_room-2 : goal.returns-then-not-has_room-2
unfolding plan_number plan_room action_room_of
returns-then-not-has_room-2 c =
    let short = sym c.has_room-2.ensures ∙ c.if-not-has_room-2.true in
    let fits = sym c.has_room.ensures ∙ c.if-not-has_room.false in
    let refused = c.refuse-then-not-has_room-2.ensures in
    record {
      number = rw (fits, short) (refused.number_law ∙ c.from-then-not-has_room-2.ensures);
      room = rw (fits, short) refused.room;
      action_room = rw (fits, short) refused.action_room;
    }

pub overflow_mul-heads : goal.overflow_mul-heads
overflow_mul-heads c =
    let a = c.args in
    let fits = sym c.has_room.ensures ∙ c.if-not-has_room.false in
    omega (arith, room_known (length a.paths.now) a.heads fits)

pub overflow_mul-many : goal.overflow_mul-many
overflow_mul-many c =
    let a = c.args in
    let fits = sym c.has_room-2.ensures ∙ c.if-not-has_room-2.false in
    omega (arith, room_known (length a.actions.now) a.many fits)

pub returns : goal.returns
returns c =
    let fits = sym c.has_room.ensures ∙ c.if-not-has_room.false in
    let fits-actions = sym c.has_room-2.ensures ∙ c.if-not-has_room-2.false in
    record {
      number = rw (fits, fits-actions);
      room = rw (fits, fits-actions) c.wipe_from.ensures;
      action_room = rw (fits, fits-actions) c.wipe_from-2.ensures;
    }
