-- `request_reader::calls::plan` meets its contract: for a stream that is no request both rooms are wiped.
-- Assumes nothing.
use mathlib.Core.Path.{sym, ◌∙◌}
use Rattle.lent.specs.Outcome.{number_of, room_of}
use Rattle.plan_model.specs.Laid.{plan_number, plan_room, action_room_of}
use Rattle.request_format.specs.Format.{read_of}
use Rattle.request_reader.specs.Asked.{stream_plan}
use Rattle.request_reader.proofs.calls.plan.Goals as goal

pub returns-then-not-is_request : goal.returns-then-not-is_request
unfolding stream_plan read_of plan_number plan_room action_room_of number_of room_of
returns-then-not-is_request c =
    let actions = c.refuse-then-not-is_request.ensures in
    rw (sym c.is_request.ensures ∙ c.if-not-is_request.true)
    (record { number = actions.number ∙ c.from-then-not-is_request.ensures; room = c.refuse.ensures.room; actions = actions.room })
