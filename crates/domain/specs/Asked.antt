-- What the calls for distances and boxes answer: each examines its own input first (RULES 5.3, 5.4).
-- Assumes nothing.
use Rattle.std.specs.Prelude.{cond, ◌&&◌, [], ◌∷◌, Float}
use Rattle.std.specs.Float.{binary64}
use Rattle.std.specs.Float.Ieee.{to_bits}
use Rattle.lent.specs.Outcome.{Outcome, Gives, Refuses}
use Rattle.shapes.specs.Box.{box_of_leg, overlap}
use Rattle.shapes.specs.Leg.{is_backward}
use Rattle.domain.specs.Domain.{is_profile, is_leg, is_box}
use Rattle.shapes.specs.declared.bounding_box.BoundingBox.{BoundingBox}
use Rattle.shapes.specs.declared.profile.CircularProfile.{CircularProfile}
use Rattle.shapes.specs.declared.waypoint.Leg.{Leg}
use Rattle.std.specs.Prelude.{Bool, Result, Ok, Err, true, false}
use Rattle.refusals.specs.declared.Refusal.{Refusal}
use Rattle.refusals.specs.declared.Refusal.TheVariants as Refusals
use Rattle.refusals.specs.Names.{refusal_number}

-- A distance of two profiles: 1 for their numbers.
unfoldable pub asked_distance : CircularProfile → CircularProfile → Float → Result Float Refusal
asked_distance p q distance = cond (is_profile p && is_profile q) (Ok distance) (Err Refusals.Number)

-- The box of a leg of the agent's: 1 for the numbers, 3 where it runs backward.
unfoldable pub asked_box : CircularProfile → Leg → Result BoundingBox Refusal
asked_box p leg =
    cond (is_profile p && is_leg leg) (cond (is_backward leg) (Err Refusals.Backward) (Ok (box_of_leg p.footprint leg))) (Err Refusals.Number)

-- Whether two boxes overlap: 1 for their bounds.
unfoldable pub asked_overlap : BoundingBox → BoundingBox → Result Bool Refusal
asked_overlap p q = cond (is_box p && is_box q) (Ok (overlap p q)) (Err Refusals.Number)

-- The number and the words of each case (RULES 4.1).
abbrev pub distance_outcome : Result Float Refusal → Outcome
distance_outcome (Ok d) = Gives (to_bits binary64 d ∷ [])
distance_outcome (Err why) = Refuses (refusal_number why)

abbrev pub box_outcome : Result BoundingBox Refusal → Outcome
box_outcome (Ok b) =
    Gives (to_bits binary64 b.left ∷ (to_bits binary64 b.bottom ∷ (to_bits binary64 b.right ∷ (to_bits binary64 b.top ∷ []))))
box_outcome (Err why) = Refuses (refusal_number why)

abbrev pub overlap_outcome : Result Bool Refusal → Outcome
overlap_outcome (Ok false) = Gives (0 ∷ [])
overlap_outcome (Ok true) = Gives (1 ∷ [])
overlap_outcome (Err why) = Refuses (refusal_number why)
