-- What the call for an obstacle's box answers: the obstacle is examined first (RULES 5.1 to 5.3).
-- Assumes nothing.
use Rattle.std.specs.Prelude.{◌&&◌, cond, List, [], ◌∷◌, eqb, length, ℤ, Float}
use Rattle.std.specs.Float.{binary64}
use Rattle.std.specs.Float.Ieee.{to_bits}
use Rattle.refusals.specs.Names.{NUMBER, SHAPE}
use Rattle.lent.specs.Outcome.{Outcome, Gives, Refuses}
use Rattle.lent.specs.Listed.{listed_to}
use Rattle.floats.specs.Constants.{nought}
use Rattle.shapes.specs.declared.profile.CircularProfile.{CircularProfile}
use Rattle.table.specs.Obstacle.{box_of_trajectory}
use Rattle.table.specs.Lent.{Lent, waypoint_listed, obstacles_of}
use Rattle.table.specs.Examined.{is_laid, is_shaped, are_allowed}
use Rattle.std.specs.Prelude.{Result, Ok, Err}
use Rattle.std.specs.Prelude.{Option, Some, None}
use Rattle.refusals.specs.declared.Refusal.{Refusal}
use Rattle.shapes.specs.declared.bounding_box.BoundingBox.{BoundingBox}
use Rattle.refusals.specs.declared.Refusal.TheVariants as Refusals
use Rattle.refusals.specs.Names.{refusal_number}

-- One obstacle as a table of its own; the conflict distance plays no part in its box.
abbrev pub alone : CircularProfile → List ℤ → List Float → List Float → Lent
alone p times xs ys =
    record { starts = 0 ∷ []; numbers = p.footprint ∷ (p.follow ∷ (nought ∷ [])); times = times; xs = xs; ys = ys }

-- 2 for the lists and their times, 1 for the numbers; no box where it has no trajectory (RULES 7.10).
unfoldable pub asked_hull : CircularProfile → List ℤ → List Float → List Float → Result (Option BoundingBox) Refusal
asked_hull p times xs ys =
    cond (is_laid (alone p times xs ys) && is_shaped (obstacles_of (alone p times xs ys)))
    (cond (are_allowed (obstacles_of (alone p times xs ys)))
    (cond (eqb (length times) 0)
    (Ok None)
    (Ok (Some (box_of_trajectory p.footprint (listed_to (waypoint_listed times xs ys) (length times) 0)))))
    (Err Refusals.Number))
    (Err Refusals.Shape)

-- The number and the words of each case: whether there is a box, and its bounds.
abbrev pub hull_outcome : Result (Option BoundingBox) Refusal → Outcome
hull_outcome (Ok (Some b)) =
    Gives (1 ∷ (to_bits binary64 b.left ∷ (to_bits binary64 b.bottom ∷ (to_bits binary64 b.right ∷ (to_bits binary64 b.top ∷ [])))))
hull_outcome (Ok None) = Gives (0 ∷ [])
hull_outcome (Err n) = Refuses (refusal_number n)
