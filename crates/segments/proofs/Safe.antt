-- What the answer for a segment means: it is clear exactly where no leg is in the way, and a conflict or a refusal is the
-- verdict on some leg (RULES 9.8, 9.9).
-- Assumes nothing.
use mathlib.Core.Path.{◌≡◌, refl, sym, ap, ◌∙◌}
use mathlib.Core.Bool.{Bool, true, false, cond, true≢false}
use mathlib.Core.Logic.{⊎_elim}
use mathlib.Core.List.{List, [], ◌∷◌}
use mathlib.Core.List.Memᴰ
use mathlib.Core.List.{Memᴰ}
use Rattle.shapes.specs.Box.{box_of_leg, overlap}
use Rattle.shapes.specs.declared.bounding_box.BoundingBox.{BoundingBox}
use Rattle.shapes.specs.declared.waypoint.Leg.{Leg}
use Rattle.conflicts.specs.Conflict.{conflict_of}
use Rattle.conflicts.specs.declared.conflict.Verdict.{Verdict}
use Rattle.conflicts.specs.declared.conflict.Verdict.TheVariants.{Clear, Conflict}
use Rattle.table.specs.Obstacle.{Obstacle, legs_of}
use Rattle.segments.specs.Segment.{is_during, leg_verdict, or_else, first_of, obstacle_verdict, segment_of}
use Rattle.std.specs.Prelude.{Result, Ok, Err}
use Rattle.refusals.specs.declared.Refusal.{Refusal}

-- A walk is clear exactly where every answer is,
both_clear : (v rest : Result Verdict Refusal) → or_else v rest ≡ Ok Clear → (v ≡ Ok Clear) × (rest ≡ Ok Clear)
both_clear (Ok Clear) rest e = (refl, e)
both_clear (Ok Conflict) rest e = (e, cc)
both_clear (Err why) rest e = (e, cc)

module _ {A : Type 0} (says : A → Result Verdict Refusal) where
  clear_each : (xs : List A) → first_of says xs ≡ Ok Clear → (x : A) → Memᴰ x xs → says x ≡ Ok Clear
  unfolding first_of
  clear_each [] e x m = absurd (Memᴰ.not-nil m)
  clear_each (y ∷ ys) e x m =
      let here = both_clear (says y) (first_of says ys) e in
      ⊎_elim (λ (s : x ≡ y). ap says s ∙ here.0) (clear_each ys here.1 x) (Memᴰ.cases_cons m)

  clear_all : (xs : List A) → ((x : A) → Memᴰ x xs → says x ≡ Ok Clear) → first_of says xs ≡ Ok Clear
  unfolding first_of
  clear_all [] each = refl
  clear_all (x ∷ xs) each =
      rw (each x (Memᴰ.head refl)) (clear_all xs (λ y m. each y (Memᴰ.tail m)))

  -- and any other answer of a walk is that of an element.
  record Said (xs : List A) (v : Result Verdict Refusal) : Type 0 where
    pub by : A
    pub member : Memᴰ by xs
    pub said : says by ≡ v

  said : (xs : List A) (v : Result Verdict Refusal) → (v ≡ Ok Clear → ⊥) → first_of says xs ≡ v → Said xs v
  unfolding first_of
  said [] v other e = absurd (other (sym e))
  said (x ∷ xs) v other e = case (says x) refl e (said xs v other)
    where
      here : (w : Result Verdict Refusal) → says x ≡ w → w ≡ v → Said (x ∷ xs) v
      here w f e = record { by = x; member = Memᴰ.head refl; said = f ∙ e }

      later : Said xs v → Said (x ∷ xs) v
      later s = record { by = s.by; member = Memᴰ.tail s.member; said = s.said }

      case : (w : Result Verdict Refusal) → says x ≡ w → or_else w (first_of says xs) ≡ v → (first_of says xs ≡ v → Said xs v) → Said (x ∷ xs) v
      case (Ok Clear) f e rest = later (rest e)
      case (Ok Conflict) f e rest = here (Ok Conflict) f e
      case (Err why) f e rest = here (Err why) f e

module _ (agent : Leg) (bounds : BoundingBox) where
  -- A leg of an obstacle that is looked at: its obstacle's box overlaps the agent's, and it is among the agent's times.
  pub record Met (os : List Obstacle) (o : Obstacle) (leg : Leg) : Type 0 where
    pub obstacle : Memᴰ o os
    pub overlaps : overlap bounds o.bounds ≡ true
    pub leg_of : Memᴰ leg (legs_of o.waypoints)
    pub during : is_during agent leg ≡ true

  -- The verdict on the two.
  abbrev pub verdict_on : Obstacle → Leg → Result Verdict Refusal
  verdict_on o leg = conflict_of agent bounds leg (box_of_leg o.profile.footprint leg) o.limit

  abbrev pub AllClear : List Obstacle → Type 0
  AllClear os = (o : Obstacle) (leg : Leg) → Met os o leg → verdict_on o leg ≡ Ok Clear

  -- A segment is clear only where every such leg is,
  pub clear_legs : (os : List Obstacle) → segment_of agent bounds os ≡ Ok Clear → AllClear os
  unfolding segment_of obstacle_verdict leg_verdict
  clear_legs os e o leg m =
      let says : Leg → Result Verdict Refusal = leg_verdict agent bounds o.profile.footprint o.limit in
      let own = clear_each (obstacle_verdict agent bounds) os e o m.obstacle in
      let walked = rw m.overlaps at own in
      rw m.during at (clear_each says (legs_of o.waypoints) walked leg m.leg_of)

  -- and there it is.
  pub legs_clear : (os : List Obstacle) → AllClear os → segment_of agent bounds os ≡ Ok Clear
  unfolding segment_of obstacle_verdict leg_verdict
  legs_clear os all =
      clear_all
      (obstacle_verdict agent bounds)
      os
      (λ o m. gate (overlap bounds o.bounds) (λ over.
      clear_all
      (leg_verdict agent bounds o.profile.footprint o.limit)
      (legs_of o.waypoints)
      (λ leg l. gate (is_during agent leg) (λ during.
      all o leg (record { obstacle = m; overlaps = over; leg_of = l; during = during })))))
    where
      gate : (t : Bool) {v : Result Verdict Refusal} → (t ≡ true → v ≡ Ok Clear) → cond t v (Ok Clear) ≡ Ok Clear
      gate true e = e refl
      gate false e = refl

  -- Else its answer is the verdict on such a leg.
  pub record Found (os : List Obstacle) (v : Result Verdict Refusal) : Type 0 where
    pub obstacle : Obstacle
    pub leg : Leg
    pub met : Met os obstacle leg
    pub verdict : verdict_on obstacle leg ≡ v

  found : (os : List Obstacle) (v : Result Verdict Refusal) → (v ≡ Ok Clear → ⊥) → segment_of agent bounds os ≡ v → Found os v
  unfolding segment_of obstacle_verdict leg_verdict
  found os v other e =
      let s = said (obstacle_verdict agent bounds) os v other e in
      let o = s.by in
      let over = passed (overlap bounds o.bounds) _ s.said in
      let says : Leg → Result Verdict Refusal = leg_verdict agent bounds o.profile.footprint o.limit in
      let l = said says (legs_of o.waypoints) v other over.1 in
      let at = passed (is_during agent l.by) _ l.said in
      record {
        obstacle = o;
        leg = l.by;
        met = record { obstacle = s.member; overlaps = over.0; leg_of = l.member; during = at.0 };
        verdict = at.1;
      }
    where
      passed : (t : Bool) (w : Result Verdict Refusal) → cond t w (Ok Clear) ≡ v → (t ≡ true) × (w ≡ v)
      passed true w e = (refl, e)
      passed false w e = absurd (other (sym e))

  pub in_conflict : (os : List Obstacle) → segment_of agent bounds os ≡ Ok Conflict → Found os (Ok Conflict)
  in_conflict os = found os (Ok Conflict) (λ e. true≢false cc)

  pub refused : (os : List Obstacle) (why : Refusal) → segment_of agent bounds os ≡ Err why → Found os (Err why)
  refused os why = found os (Err why) (λ e. true≢false cc)
