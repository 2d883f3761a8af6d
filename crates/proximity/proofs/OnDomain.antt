-- Of legs and a limit that a call accepts, proximity is refused by 5 or 6 only, by 6 only where the range ends before it begins,
-- and its entry and its exit lie in order in the range (RULES 8.9, 8.13, 8.17 to 8.20).
-- Assumes nothing.
use mathlib.Core.Path.{◌≡◌, refl}
use mathlib.Core.Logic.{◌⊎◌, inl, inr}
use mathlib.Core.Bool.{Bool, true, false, cond}
use lib.Signed.{◌≤ℤ◌, ◌<ℤ◌, ≤ℤ_refl}
use lib.Ieee.{Float, lt, le, is_nan}
use Rattle.motions.specs.Quadratic.{with_meeting}
use Rattle.floats.proofs.Relations.{◌≼◌}
use Rattle.floats.specs.Constants.{nought}
use Rattle.floats.proofs.Magnitude.{Within}
use Rattle.floats.specs.Compare.{larger_of, size_of}
use Rattle.floats.specs.Quadratic.{radicand}
use Rattle.floats.proofs.Largest.{widest}
use Rattle.floats.specs.Constants.{hundred_millionth, ten_thousandth}
use Rattle.floats.proofs.Tests.{passed, failed}
use Rattle.floats.proofs.Preorder.{left_known, right_known}
use Rattle.floats.proofs.Strict.{not-lt→le}
use Rattle.floats.proofs.Larger.{larger_has, larger_not_below}
use Rattle.times.specs.Time.{seconds_of}
use Rattle.times.specs.declared.time.TimePoint.{TimePoint}
use Rattle.times.proofs.Cut.{nanoseconds_of}
use Rattle.times.proofs.Integers.{sum_mono, difference_not_below}
use Rattle.times.proofs.Seconds.{seconds_known, seconds_not_below, nanoseconds_mono}
use Rattle.times.proofs.Spans.{span_from}
use Rattle.domain.specs.Domain.{is_time, is_limit, is_leg}
use Rattle.shapes.specs.declared.waypoint.Leg.{Leg}
use Rattle.domain.proofs.Within.{time_exact, limit_within}
use Rattle.proximity.specs.Range.{range_start, range_end, is_short, near_at, or_at_end, short_range}
use Rattle.proximity.specs.Proximity.{without_motion, passage, by_roots, long_range, proximity_of}
use Rattle.proximity.specs.Asked.{legs_examined, asked_proximity}
use Rattle.proximity.specs.declared.detect.Proximity.{Proximity}
use Rattle.proximity.specs.declared.detect.Proximity.TheVariants.{Never, Enters, Passes}
use Rattle.proximity.proofs.Holding.{in_range, missed_backward}
use Rattle.proximity.proofs.Short.{Long}
use Rattle.proximity.proofs.Moving.{Strays, never_strays, Met, both, missed, astray, met, range_in_order}
use Rattle.proximity.proofs.Origins.{Near, near, far, untold, near_at_law}
use Rattle.proximity.proofs.Placed.{Accepted, accepted, range_start_time, range_end_time, fine}
use Rattle.proximity.proofs.Arrivals.{times_given, arrives}
use Rattle.proximity.proofs.Roots.{Posed, sound, root_is_given, ordered}
use Rattle.std.specs.Prelude.{Result, Ok, Err}
use Rattle.refusals.specs.declared.Refusal.{Refusal}
use Rattle.motions.specs.declared.quadratic.Quadratic.{Quadratic}
use Rattle.refusals.specs.declared.Refusal.TheVariants as Refusals

-- The entry and the exit of an answer lie in order from t0 to t1; it is refused by 5, or by 6 where t1 is before t0.
abbrev pub InRange : TimePoint → TimePoint → Result Proximity Refusal → Type 0
InRange t0 t1 (Ok Never) = Unit
InRange t0 t1 (Ok (Enters t)) = (t0.0 ≤ℤ t.0) × (t.0 ≤ℤ t1.0)
InRange t0 t1 (Ok (Passes t u)) = (t0.0 ≤ℤ t.0) × (t.0 ≤ℤ u.0) × (u.0 ≤ℤ t1.0)
InRange t0 t1 (Err why) = (why ≡ Refusals.Creep) ⊎ ((why ≡ Refusals.Apart) × (t1.0 <ℤ t0.0))

-- ---- Parts of an answer.

-- Whichever way a test goes.
either_in_range : (t0 t1 : TimePoint) (b : Bool) (x y : Result Proximity Refusal) →
    (b ≡ true → InRange t0 t1 x) → (b ≡ false → InRange t0 t1 y) → InRange t0 t1 (cond b x y)
either_in_range t0 t1 true x y h k = h refl
either_in_range t0 t1 false x y h k = k refl

else_in_range : (t0 t1 : TimePoint) (x y : Result Proximity Refusal) → InRange t0 t1 x → InRange t0 t1 y →
    InRange t0 t1 (or_at_end x y)
else_in_range t0 t1 (Ok Never) y h k = k
else_in_range t0 t1 (Ok (Enters t)) y h k = h
else_in_range t0 t1 (Ok (Passes t u)) y h k = h
else_in_range t0 t1 (Err why) y h k = h

passage_in_range : (t0 t1 : TimePoint) (first last : Float) →
    is_time t0 ≡ true → is_time t1 ≡ true → t0.0 ≤ℤ t1.0 → first ≼ last →
    InRange t0 t1 (passage t0 (seconds_of (span_from t0 t1).0) first last)
unfolding passage
passage_in_range t0 t1 first last start end in_order roots =
    let w = (span_from t0 t1).0 in
    let s = larger_of nought first in
    either_in_range t0 t1 (lt last nought) _ _ (λ p. tt) (λ p.
    either_in_range t0 t1 (lt (seconds_of w) first) _ _ (λ q. tt) (λ q.
    let past : nought ≼ last = not-lt→le last nought (right_known first last roots) (unfold is_nan in tt) (failed p) in
    let begun : first ≼ seconds_of w = not-lt→le (seconds_of w) first (seconds_known w) (left_known first last roots) (failed q) in
    let not_below = seconds_not_below w (difference_not_below t0.0 t1.0 in_order) in
    let most = larger_has (λ z. z ≼ seconds_of w) nought first not_below begun in
    let enter = arrives start end in_order (larger_not_below first) most in
    rw enter.given (either_in_range t0 t1 (le last (seconds_of w)) _ _ (λ e.
    let exit = arrives start end in_order past (passed e) in
    let longer = nanoseconds_mono s last (larger_has (λ z. z ≼ last) nought first past roots) in
    rw exit.given (enter.not_before, sum_mono t0.0 (nanoseconds_of s) (nanoseconds_of last) longer, exit.not_after))
    (λ e. (enter.not_before, enter.not_after)))))

module _ {agent obstacle : Leg} (a : Accepted agent) (b : Accepted obstacle) where
  abbrev t0 : TimePoint
  t0 = range_start agent obstacle

  abbrev t1 : TimePoint
  t1 = range_end agent obstacle

  abbrev In : Result Proximity Refusal → Type 0
  In = InRange t0 t1

  start : is_time t0 ≡ true
  start = range_start_time a b

  end : is_time t1 ≡ true
  end = range_end_time a b

  neither_strays : (t : TimePoint) → is_time t ≡ true → Strays agent t ⊎ Strays obstacle t → ⊥
  neither_strays t h (inl s) = never_strays (times_given _ _ a.start_time a.end_time) (time_exact t h) s
  neither_strays t h (inr s) = never_strays (times_given _ _ b.start_time b.end_time) (time_exact t h) s

  -- ---- A short range: an instant that both legs hold lies in it.

  near_in_range : (limit : Float) (t : TimePoint) → is_time t ≡ true → In (near_at limit agent obstacle t)
  near_in_range limit t h = by (near_at_law limit agent obstacle t)
    where
      by : {p : Result Proximity Refusal} → Near agent obstacle t p → In p
      by (near h k) = in_range agent obstacle h k
      by far = tt
      by (untold s) = absurd (neither_strays t h s)

  -- ---- A range that is not short.

  long_in_range : {limit : Float} → Within widest limit → Long agent obstacle → In (long_range limit agent obstacle t0 t1)
  unfolding long_range by_roots
  long_in_range {limit} limited long = by (met limit agent obstacle t0)
    where
      by : {m : Result Quadratic Refusal} → Met limit agent obstacle t0 m →
          In (with_meeting Err m (λ q. cond (lt q.a hundred_millionth) (without_motion t0 q) (by_roots t0 t1 q)))
      by (missed h) = inr (refl, missed_backward agent obstacle h)
      by (astray s) = absurd (neither_strays t0 start s)
      by (both {q} m) =
          let posed : Posed limit agent obstacle q = record {
            agent_placed = a.placed;
            obstacle_placed = b.placed;
            limit_within = limited;
            long = long;
            meeting = m;
          } in
          let in_order = range_in_order m in
          either_in_range t0 t1 (lt q.a hundred_millionth) _ _ (λ f.
          either_in_range t0 t1 (lt (size_of q.b) ten_thousandth) _ _ (λ g.
          either_in_range t0 t1 (le q.c nought) _ _ (λ k. (≤ℤ_refl t0.0, in_order)) (λ k. tt))
          (λ g. inl refl)) (λ f.
          either_in_range t0 t1 (lt (radicand q.a q.b q.c) nought) _ _ (λ g. tt) (λ g.
          let root = root_is_given (sound posed) g in
          let roots = passed (ordered (sound posed) f root.1) in
          rw (root.1, times_given t0 t1 start end) (passage_in_range t0 t1 _ _ start end in_order roots)))

  -- ---- The answer.

  pub answer_in_range : {limit : Float} → Within widest limit →
      InRange (range_start agent obstacle) (range_end agent obstacle) (proximity_of limit agent obstacle)
  unfolding proximity_of short_range
  answer_in_range {limit} limited =
      let spanned = times_given t1 t0 end start in
      rw spanned (either_in_range t0 t1 (is_short (span_from t1 t0)) _ _
      (λ e.
      else_in_range t0 t1 (near_at limit agent obstacle t0) (near_at limit agent obstacle t1)
      (near_in_range limit t0 start) (near_in_range limit t1 end))
      (λ e. long_in_range limited (record { width = span_from t1 t0; given = spanned; not_short = e })))

pub proximity_in_range : (limit : Float) (agent obstacle : Leg) →
    is_limit limit ≡ true → is_leg agent ≡ true → is_leg obstacle ≡ true →
    InRange (range_start agent obstacle) (range_end agent obstacle) (proximity_of limit agent obstacle)
proximity_in_range limit agent obstacle l a b =
    answer_in_range (accepted agent a) (accepted obstacle b) (limit_within limit l)

-- So of the call, where it found nothing wrong with what it was handed (RULES 5.1).
pub asked_in_range : (limit : Float) (agent obstacle : Leg) → legs_examined limit agent obstacle ≡ Ok tt →
    InRange (range_start agent obstacle) (range_end agent obstacle) (asked_proximity limit agent obstacle)
unfolding asked_proximity
asked_in_range limit agent obstacle e =
    let f = fine limit agent obstacle e in
    rw e (answer_in_range f.agent_accepted f.obstacle_accepted f.limit_within)
