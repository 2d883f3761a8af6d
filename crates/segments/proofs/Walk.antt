-- The walk over obstacles, and over the legs of one: at the end it is clear, past a clear answer it is the rest,
-- and any other answer is its own.
-- Assumes nothing.
use Prim.Native.Nat.{ℕ, ◌+◌, ◌≤◌, ◌<◌}
use mathlib.Core.Path.{◌≡◌, refl, sym, ap, ◌∙◌}
use mathlib.Core.Bool.{Bool, true, false, cond}
use mathlib.Core.List.{List, []}
use lib.Ieee.{Float}
use Rattle.lent.specs.Listed.{listed_to}
use Rattle.lent.proofs.Listed.{listed_done, listed_next}
use Rattle.shapes.specs.Box.{overlap}
use Rattle.shapes.specs.declared.bounding_box.BoundingBox.{BoundingBox}
use Rattle.shapes.specs.declared.waypoint.Leg.{Leg}
use Rattle.times.specs.declared.time.TimePoint.{TimePoint}
use Rattle.proximity.specs.Proximity.{proximity_of, entry_of}
use Rattle.proximity.specs.declared.detect.Proximity.{Proximity}
use Rattle.proximity.specs.declared.detect.Proximity.TheVariants.{Never, Enters, Passes}
use Rattle.conflicts.specs.Conflict.{entered_at, judged, proximity_in_boxes, conflict_of}
use Rattle.conflicts.specs.declared.conflict.Verdict.{Verdict}
use Rattle.conflicts.specs.declared.conflict.Verdict.TheVariants.{Clear, Conflict}
use Rattle.table.specs.Obstacle.{legs_of}
use Rattle.table.specs.Table.{first_in, profile_in, limit_in, box_in, leg_in, waypoints_in, obstacle_in}
use Rattle.table.specs.Walked.{walked_in}
use Rattle.table.proofs.Walking.{legs_walked}
use Rattle.segments.specs.Segment.{leg_verdict, or_else, first_of, obstacle_verdict}
use Rattle.std.specs.Prelude.{Result, Ok, Err, Some, None}
use Rattle.refusals.specs.declared.Refusal.{Refusal}

-- An answer that is not clear: a conflict or a refusal.
abbrev pub Ends : Result Verdict Refusal → Type 0
Ends v = v ≡ Ok Clear → ⊥

-- A refusal is no clear verdict.
pub refusal_ends : (why : Refusal) → Ends (Err why)
refusal_ends why e = cc

ends : (v rest : Result Verdict Refusal) → Ends v → or_else v rest ≡ v
ends (Ok Clear) rest k = absurd (k refl)
ends (Ok Conflict) rest k = refl
ends (Err why) rest k = refl

module _ {A : Type 0} (says : A → Result Verdict Refusal) (f : ℕ → A) (end i : ℕ) where
  pub first_done : end ≤ i → first_of says (listed_to f end i) ≡ Ok Clear
  unfolding first_of
  first_done h = rw (listed_done f end i h)

  pub first_next : i < end → says (f i) ≡ Ok Clear → first_of says (listed_to f end i) ≡ first_of says (listed_to f end (i + 1))
  unfolding first_of
  first_next h e = rw (listed_next f end i h, e)

  pub first_here : (v : Result Verdict Refusal) → Ends v → i < end → v ≡ says (f i) → v ≡ first_of says (listed_to f end i)
  unfolding first_of
  first_here v k h e = sym (ends v (first_of says (listed_to f end (i + 1))) k) ∙ rw (listed_next f end i h, sym e)

-- Where the walk over one obstacle begins, up to the waypoint that `walked_to` gives, it is the obstacle's.
pub obstacle_begins : (agent : Leg) (bounds : BoundingBox) (marks : List ℕ) (places : List Float) (o : ℕ) →
    first_of (leg_verdict agent bounds (profile_in places o).footprint (limit_in places o))
    (listed_to (leg_in marks places) (walked_in bounds marks places o) (first_in marks o)) ≡
    obstacle_verdict agent bounds (obstacle_in marks places o)
unfolding obstacle_verdict first_of
obstacle_begins agent bounds marks places o =
    ap (first_of says) (legs_walked bounds marks places o) ∙ by (overlap bounds (box_in places o))
  where
    says : Leg → Result Verdict Refusal
    says = leg_verdict agent bounds (profile_in places o).footprint (limit_in places o)

    legs : List Leg
    legs = legs_of (waypoints_in marks places o)

    by : (t : Bool) → first_of says (cond t legs []) ≡ cond t (first_of says legs) (Ok Clear)
    by true = refl
    by false = refl

-- The verdict on two legs in their boxes is what the answer of proximity in these makes of it;
pub in_boxes : (agent : Leg) (bounds : BoundingBox) (obstacle : Leg) (other : BoundingBox) (limit : Float) →
    judged limit agent obstacle (proximity_in_boxes agent bounds obstacle other limit) ≡
    conflict_of agent bounds obstacle other limit
unfolding proximity_in_boxes conflict_of
in_boxes agent bounds obstacle other limit = by (overlap bounds other)
  where
    by : (b : Bool) →
        judged limit agent obstacle (cond b (proximity_of limit agent obstacle) (Ok Never)) ≡
        cond b (judged limit agent obstacle (proximity_of limit agent obstacle)) (Ok Clear)
    by true = refl
    by false = refl

-- an answer without an entry is clear, and one with an entry is judged by it.
pub no_entry : (limit : Float) (agent obstacle : Leg) (p : Proximity) →
    entry_of (Ok p) ≡ None → judged limit agent obstacle (Ok p) ≡ Ok Clear
no_entry limit agent obstacle Never e = refl
no_entry limit agent obstacle (Enters t) e = cc
no_entry limit agent obstacle (Passes t u) e = cc

pub with_entry : (limit : Float) (agent obstacle : Leg) (p : Proximity) (t : TimePoint) →
    entry_of (Ok p) ≡ Some t → judged limit agent obstacle (Ok p) ≡ entered_at limit agent obstacle t
with_entry limit agent obstacle Never t e = cc
with_entry limit agent obstacle (Enters u) t e = cc
with_entry limit agent obstacle (Passes u v) t e = cc

-- What a loop that ends at the first answer which is not clear cites.
pub ruleset walk = (first_done, first_next, first_here, obstacle_begins, no_entry, with_entry)
