-- On the domain's table a leg's scale is refused by 4 alone, and a graded hint's reach is finite (RULES 3.9, 11.1 to 11.4).
-- Assumes nothing.
use mathlib.Core.Path.{◌≡◌, refl, subst}
use mathlib.Core.Bool.{Bool, true, false, not, cond}
use lib.IntN.{pos}
use lib.Ieee
use lib.Ieee.{Float, binary64, add, sub, mul, div, neg, lt, le, is_nan, of_bits}
use Rattle.std.specs.Prelude.{Result, Ok, Err}
use Rattle.refusals.specs.declared.Refusal.{Refusal}
use Rattle.refusals.specs.declared.Refusal.TheVariants as Refusals
use Rattle.floats.proofs.Relations.{Finite}
use Rattle.floats.proofs.Magnitude.{Within}
use Rattle.floats.specs.Compare.{is_between}
use Rattle.floats.specs.Constants.{hundred_millionth}
use Rattle.floats.proofs.Tests.{passed, failed, is_true}
use Rattle.floats.proofs.Strict.{not-lt→le}
use Rattle.floats.proofs.NotANumber.{finite_known}
use Rattle.floats.proofs.Bounds.{within_known, within_finite, within_of_bounds, within_le, within_lower, within_upper}
use Rattle.times.specs.Time.{is_exact, span_between, seconds_of, span_of_seconds, with_span, strayed}
use Rattle.times.specs.declared.time.Strayed.{Strayed}
use Rattle.times.specs.declared.time.Duration.{Duration}
use Rattle.times.proofs.Exact.{both}
use Rattle.times.proofs.Answers.{span_of_seconds_exact}
use Rattle.times.proofs.Spans.{span_from}
use Rattle.root.proofs.Size.{Fine}
use Rattle.shapes.specs.Leg.{place_of}
use Rattle.domain.specs.Domain.{is_waypoint, is_leg}
use Rattle.shapes.specs.Vector.{vector_difference, divided, dot_of}
use Rattle.shapes.specs.declared.vector.Vector.{Vector}
use Rattle.shapes.specs.declared.waypoint.Leg.{Leg}
use Rattle.shapes.specs.declared.waypoint.Waypoint.{Waypoint}
use Rattle.domain.proofs.Within.{ten_thousand, leg_start, leg_end, waypoint_time, waypoint_x, waypoint_y, coordinate_at_most}
use Rattle.domain.proofs.Vectors.{Spans, spans_le, spans_difference, spans_divided, within_dot_of}
use Rattle.proximity.proofs.Arrivals.{times_given}
use Rattle.line_proximity.proofs.OnDomain.{Normed, norm_given, steepest}
use Rattle.hint_list.specs.Hint.{is_within_million, is_placed}
use Rattle.hint_list.specs.declared.hint.WaitHint.{WaitHint}
use Rattle.hint_ranking.specs.Ranked.{is_known}
use Rattle.hint_words.specs.Lent.{is_finite}
use Rattle.hint_list.specs.declared.hint.RankedHint.{RankedHint}
use Rattle.hints.specs.Contour.{scale_of, contour_of, grade_of}
use Rattle.hints.specs.declared.contour.Scale.{Scale}

-- ---- The scale of a leg.

-- A start within 10^4, and a direction within 2^41 (RULES 3.2, 11.1).
pub record Bounded (scale : Scale) : Type 0 where
  pub from_within : Spans ten_thousand scale.from
  pub direction_within : Spans steepest scale.direction

-- A scale is such a one, and a refusal is 4 (RULES 4.4, 11.1).
abbrev pub Scaled : Result Scale Refusal → Type 0
Scaled (Ok scale) = Bounded scale
Scaled (Err why) = why ≡ Refusals.NoLine

unless_short : (short : Bool) (s : Result Scale Refusal) → (short ≡ false → Scaled s) → Scaled (cond short (Err Refusals.NoLine) s)
unless_short true s h = refl
unless_short false s h = h refl

waypoint_spans : (w : Waypoint) → is_waypoint w ≡ true → Spans ten_thousand (place_of w)
unfolding place_of
waypoint_spans w e =
    record {
      x_within = coordinate_at_most w.x (waypoint_x w e);
      y_within = coordinate_at_most w.y (waypoint_y w e);
    }

module _ (leg : Leg) (e : is_leg leg ≡ true) where
  abbrev way : Vector
  way = vector_difference (place_of leg.end) (place_of leg.start)

  from_spans : Spans ten_thousand (place_of leg.start)
  from_spans = waypoint_spans leg.start (leg_start leg e)

  -- 2 * 10^4 m, the most from place to place.
  way_spans : Spans (add binary64 ten_thousand ten_thousand) way
  unfolding Ieee.of_int
  way_spans = spans_difference (waypoint_spans leg.end (leg_end leg e)) from_spans tt tt

  way_normed : Normed way
  unfolding Ieee.of_int add mul
  way_normed = norm_given way way_spans tt tt tt

  -- By a length that is not below 1e-8.
  direction_spans : {n : Float} → Fine n → lt n hundred_millionth ≡ false → Spans steepest (divided way n)
  unfolding Ieee.of_int add div of_bits
  direction_spans {n} f long =
      let least = not-lt→le n hundred_millionth (finite_known n f.is_finite_law) (unfold is_nan in tt) (failed long) in
      spans_le steepest (spans_divided hundred_millionth n way_spans least f.is_finite_law tt tt) (unfold le in tt)

  lasts : span_between leg.start.time leg.end.time ≡ Ok (span_from leg.start.time leg.end.time)
  lasts =
      let start = waypoint_time leg.start (leg_start leg e) in
      let end = waypoint_time leg.end (leg_end leg e) in
      times_given leg.start.time leg.end.time start end

  -- A leg of the table is refused neither 1 nor 7, whichever way its times go (RULES 4.1, 4.4, 4.7, 11.1).
  pub scale_given : Scaled (scale_of leg)
  unfolding scale_of
  scale_given =
      rw (way_normed.given, lasts)
      (unless_short (lt way_normed.length hundred_millionth) _ (λ long.
      record { from_within = from_spans; direction_within = direction_spans way_normed.fine long }))

-- ---- The grade of a hint.

-- What is known of a ranked hint: it holds h, its contour is in reach, and its reach is finite, so no NaN (RULES 3.9, 4.7, 11.8).
pub record Measured (h : WaitHint) (r : RankedHint) : Type 0 where
  pub same_hint : r.hint ≡ h
  pub contour_exact : is_exact r.contour.0 ≡ true
  pub reach_finite : Finite r.reach
  pub reach_known : is_known r ≡ true
  pub reach_in_table : is_finite r.reach ≡ true

abbrev Graded : WaitHint → Result RankedHint Strayed → Type 0
Graded h (Ok r) = Measured h r
Graded h (Err _) = Unit

spanning_graded : (h : WaitHint) (s : Result Duration Strayed) (go : Duration → Result RankedHint Strayed) →
    ((d : Duration) → s ≡ Ok d → Graded h (go d)) → Graded h (with_span strayed s go)
spanning_graded h (Ok d) go k = k d refl
spanning_graded h (Err _) go k = tt

-- A contour is made of seconds, so it was held against the reach (RULES 11.4).
contour_given : (speed wait reach : Float) (d : Duration) → contour_of speed wait reach ≡ Ok d → is_exact d.0 ≡ true
unfolding contour_of
contour_given speed wait reach d = by (lt hundred_millionth speed)
  where
    late : Float
    late = sub binary64 wait (div binary64 reach speed)

    by : (b : Bool) → cond b (span_of_seconds late) (span_of_seconds wait) ≡ Ok d → is_exact d.0 ≡ true
    by true e = span_of_seconds_exact late d e
    by false e = span_of_seconds_exact wait d e

-- 10^6, the most of a hint's coordinate (RULES 4.7).
abbrev million : Float
million = Ieee.of_int binary64 (pos 1000000)

placed_spans : (p : Vector) → is_placed p ≡ true → Spans million p
unfolding is_placed is_within_million is_between
placed_spans p e =
    let held = both (is_within_million p.x) (is_within_million p.y) e in
    record { x_within = within p.x held.0; y_within = within p.y held.1 }
  where
    within : (x : Float) → is_within_million x ≡ true → Within million x
    within x h =
        let ends = both (le (neg million) x) (le x million) h in
        within_of_bounds million x (passed ends.0) (passed ends.1)

-- The largest double.
abbrev most : Float
most = of_bits binary64 0x7fef_ffff_ffff_ffff

-- From a start within 10^4 to a place within 10^6, along a direction within 2^41 (RULES 11.2).
reach_within : {scale : Scale} (p : Vector) →
    Bounded scale → is_placed p ≡ true → Within most (dot_of (vector_difference p scale.from) scale.direction)
unfolding Ieee.of_int add mul of_bits
reach_within {scale} p m e =
    let off = spans_difference (placed_spans p e) m.from_within tt tt in
    within_le most (within_dot_of off m.direction_within tt tt tt) (unfold le in tt)

graded : {scale : Scale} (h : WaitHint) → Bounded scale → is_placed h.place ≡ true → Graded h (grade_of scale h)
unfolding grade_of is_finite is_between
graded {scale} h m e =
    let reach = dot_of (vector_difference h.place scale.from) scale.direction in
    let within = reach_within h.place m e in
    spanning_graded h (span_between scale.start h.until) _ (λ d _.
    spanning_graded h (contour_of scale.speed (seconds_of d.0) reach) _ (λ contour given.
    record {
      same_hint = refl;
      contour_exact = contour_given scale.speed (seconds_of d.0) reach contour given;
      reach_finite = within_finite within (unfold of_bits in tt);
      reach_known = is_true (not (is_nan reach)) (within_known within);
      reach_in_table = rw (is_true (le (neg most) reach) (within_lower within), is_true (le reach most) (within_upper within));
    }))

-- All that holds of a hint within 10^6 that the scale of a leg of the table graded (RULES 4.7, 10.42, 11.1 to 11.4).
pub grade_measured : (leg : Leg) {scale : Scale} (h : WaitHint) {r : RankedHint} → is_leg leg ≡ true → scale_of leg ≡ Ok scale →
    is_placed h.place ≡ true → grade_of scale h ≡ Ok r → Measured h r
grade_measured leg h legal by placed given =
    subst (Graded h) given (graded h (subst Scaled by (scale_given leg legal)) placed)
