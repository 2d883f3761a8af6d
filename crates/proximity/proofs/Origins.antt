-- How an answer of proximity came about: in each of its cases, what is known of the range, the quadratic and the instants.
-- Assumes nothing.
use mathlib.Core.Path.{◌≡◌, refl}
use mathlib.Core.Logic.{◌⊎◌, inl, inr}
use mathlib.Core.Bool.{Bool, true, false, cond}
use lib.Signed.{◌<ℤ◌}
use lib.Ieee
use lib.Ieee.{Float, is_nan}
use Rattle.floats.proofs.Relations.{◌≼◌}
use Rattle.floats.specs.Constants.{nought}
use Rattle.floats.specs.Compare.{larger_of, size_of}
use Rattle.floats.specs.Quadratic.{radicand, lower, upper}
use Rattle.floats.specs.Constants.{hundred_millionth, ten_thousandth}
use Rattle.floats.proofs.Tests.{passed, failed}
use Rattle.floats.proofs.Preorder.{left_known}
use Rattle.floats.proofs.Strict.{not-lt→le}
use Rattle.floats.proofs.Larger.{larger_not_below}
use Rattle.times.specs.Time.{span_between, instant_after_seconds, seconds_of, with_span, with_instant}
use Rattle.times.specs.declared.time.TimePoint.{TimePoint}
use Rattle.times.specs.declared.time.Duration.{Duration}
use Rattle.times.proofs.Answers.{span_made}
use Rattle.times.proofs.Spans.{Since, since_itself, since_after}
use Rattle.root.specs.Root.{root_of, with_root}
use Rattle.shapes.specs.Leg.{holds}
use Rattle.shapes.specs.declared.waypoint.Leg.{Leg}
use Rattle.motions.specs.Quadratic.{meeting_from, with_meeting}
use Rattle.proximity.specs.Range.{range_start, range_end, is_short, is_near, near_by, near_at, or_at_end, short_range}
use Rattle.proximity.specs.Proximity.{without_motion, passage, by_roots, long_range, proximity_of}
use Rattle.motions.specs.declared.quadratic.Quadratic.{Quadratic}
use Rattle.proximity.specs.declared.detect.Proximity.{Proximity}
use Rattle.proximity.specs.declared.detect.Proximity.TheVariants.{Never, Enters, Passes}
use Rattle.proximity.proofs.Holding.{missed_backward}
use Rattle.proximity.proofs.Short.{Long}
use Rattle.proximity.proofs.Moving.{Strays, Motioned, there, outside, adrift, motion, Met, both, missed, astray, met}
use Rattle.std.specs.Prelude.{Result, Ok, Err}
use Rattle.times.specs.declared.time.Strayed.{Strayed}
use Rattle.root.specs.declared.nearest.NoRoot.{NoRoot}
use Rattle.std.specs.Prelude.{Option}
use Rattle.motions.specs.declared.motion.State.{State}
use Rattle.refusals.specs.declared.Refusal.{Refusal}
use Rattle.refusals.specs.declared.Refusal.TheVariants as Refusals

-- ---- Whether two legs are near at an instant (RULES 8.7).

pub data Near (agent obstacle : Leg) (t : TimePoint) : Result Proximity Refusal → Type 0 where
  near : holds agent t ≡ true → holds obstacle t ≡ true → Near agent obstacle t (Ok (Enters t))
  far : Near agent obstacle t (Ok Never)
  untold : Strays agent t ⊎ Strays obstacle t → Near agent obstacle t (Err Refusals.Strayed)

pub near_at_law : (limit : Float) (agent obstacle : Leg) (t : TimePoint) → Near agent obstacle t (near_at limit agent obstacle t)
unfolding near_at
near_at_law limit agent obstacle t = by (motion agent t) (motion obstacle t)
  where
    if_near : (b : Bool) → holds agent t ≡ true → holds obstacle t ≡ true →
        Near agent obstacle t (cond b (Ok (Enters t)) (Ok Never))
    if_near true h k = near h k
    if_near false h k = far

    by : {m n : Result (Option State) Strayed} → Motioned agent t m → Motioned obstacle t n →
        Near agent obstacle t (near_by limit m n t)
    by (there {s = p} h) (there {s = q} k) = if_near (is_near limit p.place q.place) h.holding k.holding
    by (there h) (outside k) = far
    by (there h) (adrift k) = untold (inr k)
    by (outside h) (there k) = far
    by (outside h) (outside k) = far
    by (outside h) (adrift k) = untold (inr k)
    by (adrift h) n = untold (inl h)

-- ---- The answer.

-- An instant that the quadratic led to.
pub record Reached (limit : Float) (agent obstacle : Leg) (t : TimePoint) : Type 0 where
  pub long : Long agent obstacle
  pub quadratic : Quadratic
  pub meets : meeting_from limit agent obstacle (range_start agent obstacle) ≡ Ok quadratic
  pub since : Since (range_start agent obstacle) t

pub data Origin (limit : Float) (agent obstacle : Leg) : Result Proximity Refusal → Type 0 where
  nothing : Origin limit agent obstacle (Ok Never)
  at_end : {t : TimePoint} → (t ≡ range_start agent obstacle) ⊎ (t ≡ range_end agent obstacle) →
      holds agent t ≡ true → holds obstacle t ≡ true → Origin limit agent obstacle (Ok (Enters t))
  enters : {t : TimePoint} → Reached limit agent obstacle t → Origin limit agent obstacle (Ok (Enters t))
  passes : {t u : TimePoint} → Reached limit agent obstacle t → Reached limit agent obstacle u →
      Origin limit agent obstacle (Ok (Passes t u))
  rootless : Origin limit agent obstacle (Err Refusals.Number)
  creeping : Origin limit agent obstacle (Err Refusals.Creep)
  apart : Long agent obstacle → (range_end agent obstacle).0 <ℤ (range_start agent obstacle).0 →
      Origin limit agent obstacle (Err Refusals.Apart)
  lost : Origin limit agent obstacle (Err Refusals.Strayed)

exit_not_below : (x w : Float) → Ieee.lt x nought ≡ false → Ieee.le x w ≡ true → nought ≼ x
exit_not_below x w e f = not-lt→le x nought (left_known x w (passed f)) (unfold is_nan in tt) (failed e)

module _ (limit : Float) (agent obstacle : Leg) where
  abbrev t0 : TimePoint
  t0 = range_start agent obstacle

  abbrev t1 : TimePoint
  t1 = range_end agent obstacle

  abbrev From : Result Proximity Refusal → Type 0
  From = Origin limit agent obstacle

  -- Where the range is not short and has its quadratic, an instant given from its start on is reached.
  abbrev Leads : Type 0
  Leads = (t : TimePoint) → Since t0 t → Reached limit agent obstacle t

  of_passage : Leads → (w first last : Float) → From (passage t0 w first last)
  unfolding passage
  of_passage reached w first last =
      by (Ieee.lt last nought) (Ieee.lt w first) (instant_after_seconds t0 (larger_of nought first)) (Ieee.le last w)
      (instant_after_seconds t0 last) refl refl refl refl
    where
      by : (a b : Bool) (x : Result TimePoint Strayed) (c : Bool) (y : Result TimePoint Strayed) →
          Ieee.lt last nought ≡ a → instant_after_seconds t0 (larger_of nought first) ≡ x →
          Ieee.le last w ≡ c → instant_after_seconds t0 last ≡ y →
          From (cond a (Ok Never) (cond b (Ok Never) (with_instant (Err Refusals.Strayed) x (λ t.
          cond c (with_instant (Err Refusals.Strayed) y (λ u. Ok (Passes t u))) (Ok (Enters t))))))
      by true b x c y f g h k = nothing
      by false true x c y f g h k = nothing
      by false false (Err _) c y f g h k = lost
      by false false (Ok t) false y f g h k = enters (reached t (since_after _ g (larger_not_below first)))
      by false false (Ok t) true (Err _) f g h k = lost
      by false false (Ok t) true (Ok u) f g h k =
          passes (reached t (since_after _ g (larger_not_below first))) (reached u (since_after _ k (exit_not_below last w f h)))

  of_crossing : Leads → (q : Quadratic) → From (by_roots t0 t1 q)
  unfolding by_roots
  of_crossing reached q =
      let r = radicand q.a q.b q.c in by (Ieee.lt r nought) (root_of r) (span_between t0 t1)
    where
      by : (b : Bool) (x : Result Float NoRoot) (y : Result Duration Strayed) →
          From (cond b (Ok Never) (with_root (Err Refusals.Number) x (λ s. with_span (Err Refusals.Strayed) y (λ w.
          passage t0 (seconds_of w.0) (lower q.a q.b s) (upper q.a q.b s)))))
      by true x y = nothing
      by false (Err _) y = rootless
      by false (Ok s) (Err _) = lost
      by false (Ok s) (Ok w) = of_passage reached (seconds_of w.0) (lower q.a q.b s) (upper q.a q.b s)

  of_long : Long agent obstacle → From (long_range limit agent obstacle t0 t1)
  unfolding long_range
  of_long long = by refl (met limit agent obstacle t0)
    where
      stood : (a b : Bool) → Leads → From (cond a (cond b (Ok (Enters t0)) (Ok Never)) (Err Refusals.Creep))
      stood true true reached = enters (reached t0 (since_itself t0 (span_made t1 t0 long.width long.given).first))
      stood true false reached = nothing
      stood false b reached = creeping

      moved : (b : Bool) (q : Quadratic) → Leads → From (cond b (without_motion t0 q) (by_roots t0 t1 q))
      moved true q reached = stood (Ieee.lt (size_of q.b) ten_thousandth) (Ieee.le q.c nought) reached
      moved false q reached = of_crossing reached q

      by : {m : Result Quadratic Refusal} → meeting_from limit agent obstacle t0 ≡ m → Met limit agent obstacle t0 m →
          From (with_meeting Err m (λ q. cond (Ieee.lt q.a hundred_millionth) (without_motion t0 q) (by_roots t0 t1 q)))
      by e (both {q} m) =
          moved (Ieee.lt q.a hundred_millionth) q (λ t since. record { long = long; quadratic = q; meets = e; since = since })
      by e (missed h) = apart long (missed_backward agent obstacle h)
      by e (astray h) = lost

  of_short : From (short_range limit agent obstacle t0 t1)
  unfolding short_range
  of_short = by (near_at_law limit agent obstacle t0) (near_at_law limit agent obstacle t1)
    where
      by : {p q : Result Proximity Refusal} → Near agent obstacle t0 p → Near agent obstacle t1 q → From (or_at_end p q)
      by (near h k) n = at_end (inl refl) h k
      by far (near h k) = at_end (inr refl) h k
      by far far = nothing
      by far (untold h) = lost
      by (untold h) n = lost

  pub origin : Origin limit agent obstacle (proximity_of limit agent obstacle)
  unfolding proximity_of
  origin = by (span_between t1 t0) refl
    where
      ranged : (d : Duration) (b : Bool) → span_between t1 t0 ≡ Ok d → is_short d ≡ b →
          From (cond b (short_range limit agent obstacle t0 t1) (long_range limit agent obstacle t0 t1))
      ranged d true e h = of_short
      ranged d false e h = of_long (record { width = d; given = e; not_short = h })

      by : (x : Result Duration Strayed) → span_between t1 t0 ≡ x → From (with_span (Err Refusals.Strayed) x (λ d.
          cond (is_short d) (short_range limit agent obstacle t0 t1) (long_range limit agent obstacle t0 t1)))
      by (Ok d) e = ranged d (is_short d) e refl
      by (Err _) e = lost
