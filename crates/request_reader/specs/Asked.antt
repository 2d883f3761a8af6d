-- What `plan` is asked by a stream (RULES 14.17, 5.1).
-- Assumes nothing.
use Rattle.std.specs.Prelude.{ℕ, List}
use Rattle.refusals.specs.Names.{SHAPE}
use Rattle.plan_model.specs.Asked.{asked_plan}
use Rattle.plan_model.specs.Plan.{Plan, Refused}
use Rattle.request_format.specs.Request.{Request, Reading, Of, Malformed}
use Rattle.request_format.specs.Format.{read_of}
use Rattle.request_reader.specs.Table.{request_profile, request_leg, table_of}
use Rattle.refusals.specs.declared.Refusal.TheVariants as Refusals

-- The plan for a request.
unfoldable pub request_plan : Request → Plan
request_plan r = asked_plan (request_profile r.footprint r.follow) (request_leg r) r.budget (table_of r.obstacles)

-- A malformed stream is refused 2 (RULES 14.17).
unfoldable pub stream_plan : List ℕ → Plan
stream_plan s = by (read_of s)
  where
    by : Reading → Plan
    by (Of r) = request_plan r
    by Malformed = Refused Refusals.Shape
