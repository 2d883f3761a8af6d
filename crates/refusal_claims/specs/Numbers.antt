-- The numbers that each call is refused by, out of the table of refusals (RULES, section 4). Those of the call for arrival times
-- stand in `search_claims`.
-- Assumes nothing.
use Rattle.refusals.specs.declared.Refusal.TheVariants as Refusals
use Rattle.refusals.specs.declared.Refusal.{Refusal}

-- One leg of the agent's: where it is at an instant, and its box.
pub data LegRefusal : Refusal → Type 0 where
  -- A value is outside the table of the domain (RULES 4.1).
  Number : LegRefusal Refusals.Number
  -- The leg ends before it starts (RULES 4.3).
  Backward : LegRefusal Refusals.Backward

-- The box of an obstacle.
pub data HullRefusal : Refusal → Type 0 where
  -- A value is outside the table of the domain (RULES 4.1).
  Number : HullRefusal Refusals.Number
  -- The lists do not fit one another, or a count or an order of times is outside the table (RULES 4.2).
  Shape : HullRefusal Refusals.Shape

-- Proximity of two legs, and their conflict.
pub data LegsRefusal : Refusal → Type 0 where
  -- A value is outside the table of the domain (RULES 4.1).
  Number : LegsRefusal Refusals.Number
  -- The obstacle's leg does not end after it starts (RULES 4.2).
  Shape : LegsRefusal Refusals.Shape
  -- The agent's leg ends before it starts (RULES 4.3).
  Backward : LegsRefusal Refusals.Backward
  -- The legs hardly move against each other and yet come nearer or part (RULES 4.5).
  Creep : LegsRefusal Refusals.Creep
  -- One leg begins after the other has ended (RULES 4.6).
  Apart : LegsRefusal Refusals.Apart

-- Whether a segment is safe. The legs that it is held against last at its time, so that none is apart from it.
pub data SegmentRefusal : Refusal → Type 0 where
  -- A value is outside the table of the domain (RULES 4.1).
  Number : SegmentRefusal Refusals.Number
  -- A count or an order of times is (RULES 4.2).
  Shape : SegmentRefusal Refusals.Shape
  -- The agent would end before it starts (RULES 4.3).
  Backward : SegmentRefusal Refusals.Backward
  -- An obstacle's leg creeps (RULES 4.5).
  Creep : SegmentRefusal Refusals.Creep

-- Hints alone.
pub data HintsRefusal : Refusal → Type 0 where
  -- A value is outside the table of the domain (RULES 4.1).
  Number : HintsRefusal Refusals.Number
  -- A count or an order of times is (RULES 4.2).
  Shape : HintsRefusal Refusals.Shape
  -- The agent would end before it starts (RULES 4.3).
  Backward : HintsRefusal Refusals.Backward
  -- The agent's line or that of an obstacle's leg has no direction, or the call is short (RULES 4.4, 4.13).
  NoLine : HintsRefusal Refusals.NoLine
  -- A number of a hint is past what is allowed (RULES 4.7).
  Strayed : HintsRefusal Refusals.Strayed
  -- There would be a 65th hint (RULES 4.10).
  Full : HintsRefusal Refusals.Full

-- One path alone.
pub data PathRefusal : Refusal → Type 0 where
  -- A value is outside the table of the domain, or lent hints are not ranked (RULES 4.1).
  Number : PathRefusal Refusals.Number
  -- A count or an order of times is outside the table (RULES 4.2).
  Shape : PathRefusal Refusals.Shape
  -- The agent would end before it starts (RULES 4.3).
  Backward : PathRefusal Refusals.Backward
  -- The agent's line has no direction, or the call is short (RULES 4.4, 4.13).
  NoLine : PathRefusal Refusals.NoLine
  -- An obstacle's leg creeps along a way that is tested (RULES 4.5).
  Creep : PathRefusal Refusals.Creep
  -- A way that is tested runs backward (RULES 4.6, 5.11, 13.27).
  Apart : PathRefusal Refusals.Apart
  -- An instant or a span of the search is past 2^53 ns (RULES 4.7).
  Strayed : PathRefusal Refusals.Strayed
  -- The search would make one pop more than its budget (RULES 4.11).
  Spent : PathRefusal Refusals.Spent

-- A whole plan: by no other numbers than hints alone, arrival times alone and a path are.
pub data PlanRefusal : Refusal → Type 0 where
  -- A value is outside the table of the domain (RULES 4.1).
  Number : PlanRefusal Refusals.Number
  -- A count or an order of times is outside the table (RULES 4.2).
  Shape : PlanRefusal Refusals.Shape
  -- The agent would end before it starts (RULES 4.3).
  Backward : PlanRefusal Refusals.Backward
  -- The agent's line or that of an obstacle's leg has no direction (RULES 4.4).
  NoLine : PlanRefusal Refusals.NoLine
  -- An obstacle's leg creeps along a way that is tested, or about the goal (RULES 4.5).
  Creep : PlanRefusal Refusals.Creep
  -- A way that is tested runs backward (RULES 4.6, 5.11, 13.27). No plan is known that meets it by the hints of its own.
  Apart : PlanRefusal Refusals.Apart
  -- A number of a hint, or an instant or a span of the search, is past what is allowed (RULES 4.7).
  Strayed : PlanRefusal Refusals.Strayed
  -- The search for arrival times is stuck (RULES 4.8).
  Stuck : PlanRefusal Refusals.Stuck
  -- There would be a 65th hint (RULES 4.10).
  Full : PlanRefusal Refusals.Full
  -- The search for a path would make one pop more than its budget (RULES 4.11).
  Spent : PlanRefusal Refusals.Spent
