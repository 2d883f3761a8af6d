-- On the domain's table no run, norm, direction, course or stay is refused, and a course's numbers are finite (RULES 3.1 to 3.8).
-- Assumes nothing.
use mathlib.Core.Path.{◌≡◌, refl, subst}
use mathlib.Core.Bool.{Bool, true, false, cond}
use Prim.Native.Nat.{zero, suc}
use native.Mathlib.Omega.{arith}
use lib.Dec.{T, le→leb}
use lib.IntN.{ℤ, pos, negsuc, ◌-ℤ◌, +ℤ_idr, +ℤ_comm, -ℤ-+ℤ_cancel}
use lib.Signed.{lt_z, ◌≤ℤ◌, le_z_yes, lt_z_yes, ≤ℤ_refl, clash_ℤ}
use lib.Ieee
use lib.Ieee.{Float, fin, binary64, add, mul, div, lt, le, is_nan, of_bits}
use lib.Ieee.Fits.{add-fits}
use Rattle.floats.proofs.Relations.{◌≼◌, ◌≺◌, Finite}
use Rattle.floats.specs.Constants.{nought}
use Rattle.floats.proofs.Magnitude.{Within}
use Rattle.floats.specs.Compare.{smaller_of}
use Rattle.floats.specs.Quadratic.{radicand}
use Rattle.floats.proofs.Largest.{widest}
use Rattle.floats.specs.Constants.{hundred_millionth}
use Rattle.floats.proofs.Tests.{passed, failed}
use Rattle.floats.proofs.Strict.{lt→le, not-lt→le}
use Rattle.floats.proofs.NotANumber.{finite_known}
use Rattle.floats.proofs.Bounds.{within_finite, within_mul, within_sub}
use Rattle.floats.proofs.Meeting.{two_within, four_within}
use Rattle.times.specs.Time.{seconds_of}
use Rattle.times.proofs.Answers.{span_made}
use Rattle.times.proofs.Integers.{sum_mono}
use Rattle.times.proofs.Seconds.{seconds_mono, seconds_finite}
use Rattle.times.proofs.Spans.{span_from}
use Rattle.root.specs.Root.{IsRoot}
use Rattle.root.proofs.Given.{root_given}
use Rattle.root.proofs.Meets.{meets}
use Rattle.root.proofs.Size.{Fine, root_fine}
use Rattle.shapes.specs.Leg.{place_of, is_rising}
use Rattle.domain.specs.Domain.{is_time, is_place, is_limit, is_waypoint, is_leg}
use Rattle.shapes.specs.Vector.{vector_difference, divided, dot_of}
use Rattle.shapes.specs.declared.vector.Vector.{Vector}
use Rattle.shapes.specs.declared.waypoint.Leg.{Leg}
use Rattle.shapes.specs.declared.waypoint.Waypoint.{Waypoint}
use Rattle.domain.proofs.Within as L
use Rattle.domain.proofs.Vectors as P
use Rattle.domain.proofs.Vectors.{Spans, Swift}
use Rattle.proximity.proofs.Arrivals.{times_given}
use Rattle.line_proximity.specs.Stationary.{stationary_proximity}
use Rattle.courses.specs.Norm.{norm_of, direction_of}
use Rattle.line_proximity.specs.NearLine.{across_quadratic, outlasting, ended_by, past_end, spell_of, near_line}
use Rattle.courses.specs.Course.{run_of, course_of}
use Rattle.line_proximity.specs.Asked.{is_stay}
use Rattle.courses.specs.declared.course.Run.{Run}
use Rattle.courses.specs.declared.course.Course.{Course}
use Rattle.line_proximity.proofs.StationaryGiven.{Ordered, stationary_ordered}
use Rattle.std.specs.Prelude.{Result, Ok, Err}
use Rattle.root.specs.declared.nearest.NoRoot.{NoRoot}
use Rattle.std.specs.Prelude.{Option, Some, None}
use Rattle.refusals.specs.declared.Refusal.{Refusal}

-- ---- A leg in motion.

-- Its times, places and velocity are in the table, and it lasts 1 ns or more (RULES 3.1, 3.2, 3.8, 10.7, 10.14).
pub record Steady (run : Run) : Type 0 where
  pub start_time : is_time run.start ≡ true
  pub end_time : is_time run.end ≡ true
  pub from_place : is_place run.from ≡ true
  pub to_place : is_place run.to ≡ true
  pub lasts : seconds_of (pos 1) ≼ run.seconds
  pub seconds_finite : Finite run.seconds
  pub swift : Swift run.velocity

-- It is given, and such a one.
pub record Runs (leg : Leg) : Type 0 where
  pub run : Run
  pub ran : run_of leg ≡ Ok run
  pub steady : Steady run

-- From a whole number to a larger one it is 1 or more.
above_zero : (z : ℤ) → (z ≤ℤ pos 0 → ⊥) → pos 1 ≤ℤ z
above_zero (pos zero) h = absurd (h (≤ℤ_refl (pos 0)))
above_zero (pos (suc n)) h = le_z_yes (le→leb 1 (suc n) (omega arith))
above_zero (negsuc n) h = absurd (h (le_z_yes tt))

rises_by_one : (a b : ℤ) → T (lt_z a b) → pos 1 ≤ℤ (b -ℤ a)
rises_by_one a b h =
    above_zero (b -ℤ a) (λ k.
    clash_ℤ (lt_z_yes h) (rw (+ℤ_comm a (b -ℤ a), -ℤ-+ℤ_cancel b a, +ℤ_idr) at (sum_mono a (b -ℤ a) (pos 0) k)))

waypoint_place : (w : Waypoint) → is_waypoint w ≡ true → is_place (place_of w) ≡ true
unfolding is_place place_of
waypoint_place w e = rw (L.waypoint_x w e, L.waypoint_y w e)

-- A leg of the table that rises is never refused 7 (RULES 3.6, 4.7, 10.7).
pub leg_runs : (leg : Leg) → is_leg leg ≡ true → is_rising leg ≡ true → Runs leg
unfolding run_of is_rising
leg_runs leg e rising =
    let start = L.leg_start leg e in
    let end = L.leg_end leg e in
    let start_time = L.waypoint_time leg.start start in
    let end_time = L.waypoint_time leg.end end in
    let from = waypoint_place leg.start start in
    let to = waypoint_place leg.end end in
    let d = span_from leg.start.time leg.end.time in
    let given = times_given leg.start.time leg.end.time start_time end_time in
    let lasts = seconds_mono (pos 1) d.0 (rises_by_one leg.start.time.0 leg.end.time.0 (passed rising)) in
    let finite = seconds_finite d.0 (span_made leg.start.time leg.end.time d given).result in
    record {
      run = record {
        start = leg.start.time;
        end = leg.end.time;
        from = place_of leg.start;
        to = place_of leg.end;
        seconds = seconds_of d.0;
        velocity = divided (vector_difference (place_of leg.end) (place_of leg.start)) (seconds_of d.0);
      };
      ran = rw given;
      steady = record {
        start_time = start_time;
        end_time = end_time;
        from_place = from;
        to_place = to;
        lasts = lasts;
        seconds_finite = finite;
        swift = P.velocity_swift (place_of leg.start) (place_of leg.end) (seconds_of d.0) from to lasts finite;
      };
    }

-- ---- Lengths.

-- The norm is given, finite and 0 or more (RULES 2.13).
pub record Normed (v : Vector) : Type 0 where
  pub length : Float
  pub given : norm_of v ≡ Ok length
  pub fine : Fine length

-- Where the squares of the bound have a finite sum.
pub norm_given : {c : Float} (v : Vector) → Spans c v →
    Finite c → Finite (mul binary64 c c) → Finite (add binary64 (mul binary64 c c) (mul binary64 c c)) → Normed v
unfolding norm_of dot_of
norm_given v h C M A =
    let d = dot_of v v in
    let root = root_given d (within_finite (P.within_dot_of h h C C M) A) (P.dot_of_not_below v h) in
    let fits = add-fits binary64 (mul binary64 v.x v.x) (mul binary64 v.y v.y) in
    record {
      length = root.0;
      given = root.1;
      fine = root_fine d root.0 (subst (IsRoot d) root.1 (meets d fits));
    }

-- Of a velocity of the table (RULES 3.8, 10.2).
pub swift_normed : {v : Vector} → Swift v → Normed v
unfolding add mul
swift_normed {v} h = norm_given v (P.swift_spans h) tt tt tt

-- ---- Directions.

-- 2^41: a coordinate of a direction, 2 * 10^4 m over a length above 1e-8 (RULES 2.14, 3.2).
abbrev pub steepest : Float
steepest = fin false 1 (pos 41)

-- 2 * 10^4 m, the most from place to place.
abbrev longest_way : Float
longest_way = add binary64 L.ten_thousand L.ten_thousand

module _ (p q : Vector) (hp : is_place p ≡ true) (hq : is_place q ≡ true) where
  way_spans : Spans longest_way (vector_difference q p)
  unfolding Ieee.of_int
  way_spans = P.spans_difference (P.place_spans q hq) (P.place_spans p hp) tt tt

  way_normed : Normed (vector_difference q p)
  unfolding Ieee.of_int add mul
  way_normed = norm_given (vector_difference q p) way_spans tt tt tt

  direction_spans : {n : Float} → Fine n → hundred_millionth ≺ n → Spans steepest (divided (vector_difference q p) n)
  unfolding Ieee.of_int add div of_bits
  direction_spans {n} f above =
      P.spans_le steepest (P.spans_divided hundred_millionth n way_spans (lt→le hundred_millionth n above) f.is_finite_law tt tt) (unfold le in tt)

-- Never a refusal, and a direction within the bound.
abbrev pub Directed : Result (Option Vector) NoRoot → Type 0
Directed (Ok (Some u)) = Spans steepest u
Directed (Ok None) = Unit
Directed (Err _) = ⊥

-- Of a leg in motion (RULES 2.14, 10.10).
pub direction_given : (run : Run) → Steady run → Directed (direction_of (vector_difference run.to run.from))
unfolding direction_of
direction_given run h =
    let n = way_normed run.from run.to h.from_place h.to_place in
    rw n.given (by n.fine _ refl)
  where
    by : {n : Float} → Fine n → (b : Bool) → lt hundred_millionth n ≡ b →
        Directed (cond b (Ok (Some (divided (vector_difference run.to run.from) n))) (Ok None))
    by f true e = direction_spans run.from run.to h.from_place h.to_place f (passed e)
    by f false e = tt

-- ---- Courses.

-- Longer than 1e-8, on the run of the leg, with all numbers finite (RULES 10.1, 10.2).
pub record Charted (leg : Leg) (c : Course) : Type 0 where
  pub ran : run_of leg ≡ Ok c.run
  pub steady : Steady c.run
  pub direction_within : Spans steepest c.direction
  pub long : hundred_millionth ≺ c.distance
  pub length_fine : Fine c.distance
  pub speed_fine : Fine c.speed

-- Never a refusal, and a course such a one.
abbrev pub Headed : Leg → Result (Option Course) Refusal → Type 0
Headed leg (Ok (Some c)) = Charted leg c
Headed leg (Ok None) = Unit
Headed leg (Err _) = ⊥

-- A leg of the table that rises is refused neither 1 nor 7 (RULES 4.1, 4.7, 10.1, 10.2).
pub course_given : (leg : Leg) → is_leg leg ≡ true → is_rising leg ≡ true → Headed leg (course_of leg)
unfolding course_of
course_given leg e rising =
    let n = way_normed from to from_place to_place in
    let r = leg_runs leg e rising in
    let s = swift_normed r.steady.swift in
    rw (n.given, r.ran, s.given) (by n r s _ refl)
  where
    from : Vector
    from = place_of leg.start

    to : Vector
    to = place_of leg.end

    from_place : is_place from ≡ true
    from_place = waypoint_place leg.start (L.leg_start leg e)

    to_place : is_place to ≡ true
    to_place = waypoint_place leg.end (L.leg_end leg e)

    by : (n : Normed (vector_difference to from)) (r : Runs leg) (s : Normed r.run.velocity) (b : Bool) → lt hundred_millionth n.length ≡ b →
        let u = divided (vector_difference to from) n.length in
        Headed leg (cond b (Ok (Some (record { run = r.run; direction = u; distance = n.length; speed = s.length }))) (Ok None))
    by n r s true f =
        record {
          ran = r.ran;
          steady = r.steady;
          direction_within = direction_spans from to from_place to_place n.fine (passed f);
          long = passed f;
          length_fine = n.fine;
          speed_fine = s.fine;
        }
    by n r s false f = tt

-- ---- Stays near a place.

-- Never a refusal.
abbrev pub Answered : Result (Option (Float × Float)) NoRoot → Type 0
Answered (Ok (Some (t, u))) = Unit
Answered (Ok None) = Unit
Answered (Err _) = ⊥

-- Of places, a velocity and a limit of the table (RULES 10.37 to 10.39).
pub stationary_answered : (r p0 v : Vector) (limit : Float) →
    is_place r ≡ true → is_place p0 ≡ true → Swift v → is_limit limit ≡ true → Answered (stationary_proximity r p0 v limit)
unfolding is_stay
stationary_answered r p0 v limit hr hp hv hl =
    answered (stationary_proximity r p0 v limit)
    (stationary_ordered r p0 v limit (rw (hr, hp, hv.x_speed, hv.y_speed, hl)))
  where
    answered : (s : Result (Option (Float × Float)) NoRoot) → Ordered s → Answered s
    answered (Ok (Some (t, u))) h = tt
    answered (Ok None) h = tt
    answered (Err _) h = h

-- About a place, on a leg in motion from its start (RULES 10.24, 10.28).
pub run_stationary_answered : {run : Run} (r : Vector) (limit : Float) →
    Steady run → is_place r ≡ true → is_limit limit ≡ true → Answered (stationary_proximity r run.from run.velocity limit)
run_stationary_answered {run} r limit h hr hl =
    stationary_answered r run.from run.velocity limit hr h.from_place h.swift hl

-- ---- Stays near a line.

-- Whichever way a test goes.
either : (b : Bool) (x y : Result (Option (Float × Float)) NoRoot) → (b ≡ true → Answered x) → (b ≡ false → Answered y) → Answered (cond b x y)
either true x y h k = h refl
either false x y h k = k refl

-- The radicand is finite, as every part of it is (RULES 10.30, 10.32).
across_finite : {q u p0 v : Vector} {limit : Float} →
    Spans L.ten_thousand q → Spans steepest u → Spans L.ten_thousand p0 → Spans L.swiftest v → Within widest limit →
    let k = across_quadratic q u p0 v limit in Finite (radicand k.a k.b k.c)
unfolding across_quadratic Ieee.of_int add mul
across_finite hq hu hp hv hl =
    let alpha = P.spans_difference hv (P.spans_scaled hu (P.within_dot_of hv hu tt tt tt) tt tt) tt tt in
    let k = P.within_dot_of (P.spans_difference hp hq tt tt) hu tt tt tt in
    let beta = P.spans_difference (P.spans_difference hp (P.spans_scaled hu k tt tt) tt tt) hq tt tt in
    let a = P.within_dot_of alpha alpha tt tt tt in
    let b = within_mul binary64 two_within (P.within_dot_of alpha beta tt tt tt) tt tt in
    let c = within_sub binary64 (P.within_dot_of beta beta tt tt tt) hl tt tt in
    let bb = within_mul binary64 b b tt tt in
    let four-ac = within_mul binary64 (within_mul binary64 four_within a tt tt) c tt tt in
    within_finite (within_sub binary64 bb four-ac tt tt) tt

ended_answered : (s : Result (Option (Float × Float)) NoRoot) (begin end : Float) → Answered s → Answered (ended_by s begin end)
ended_answered (Ok (Some (t, u))) begin end h = tt
ended_answered (Ok None) begin end h = tt
ended_answered (Err _) begin end h = h

spell_answered : (r u p0 v : Vector) (dt limit first last : Float) →
    Answered (stationary_proximity r p0 v limit) → Answered (spell_of r u p0 v dt limit first last)
unfolding spell_of past_end
spell_answered r u p0 v dt limit first last h =
    let end = smaller_of last dt in
    either (lt dt first) _ _ (λ e. tt) (λ e.
    either (lt end nought) _ _ (λ f. tt) (λ f.
    either (outlasting r u p0 v end) _ _ (λ g. ended_answered (stationary_proximity r p0 v limit) first end h) (λ g. tt)))

-- Of places and a limit of the table, a direction within its bound and 1 ns or more (RULES 10.29 to 10.36).
pub near_line_answered : (q r u p0 pf : Vector) (dt limit : Float) →
    is_place q ≡ true → is_place r ≡ true → Spans steepest u → is_place p0 ≡ true → is_place pf ≡ true →
    seconds_of (pos 1) ≼ dt → Finite dt → is_limit limit ≡ true → Answered (near_line q r u p0 pf dt limit)
unfolding near_line
near_line_answered q r u p0 pf dt limit hq hr hu hp hpf least f hl =
    let v = divided (vector_difference pf p0) dt in
    let k = across_quadratic q u p0 v limit in
    let d = radicand k.a k.b k.c in
    let fast = P.velocity_swift p0 pf dt hp hpf least f in
    let finite =
    across_finite (P.place_spans q hq) hu (P.place_spans p0 hp) (P.swift_spans fast) (L.limit_within limit hl) in
    either (lt k.a hundred_millionth) _ _ (λ e. tt) (λ e.
    either (lt d nought) _ _ (λ g. tt) (λ g.
    let root = root_given d finite (not-lt→le d nought (finite_known d finite) (unfold is_nan in tt) (failed g)) in
    rw root.1 (spell_answered r u p0 v dt limit _ _ (stationary_answered r p0 v limit hr hp fast hl))))

-- Of a leg in motion near the line of another (RULES 10.9, 10.11).
pub run_near_line_answered : {line run : Run} {u : Vector} (limit : Float) →
    Steady line → Spans steepest u → Steady run → is_limit limit ≡ true →
    Answered (near_line line.from line.to u run.from run.to run.seconds limit)
run_near_line_answered {line} {run} {u} limit g hu h hl =
    near_line_answered line.from line.to u run.from run.to run.seconds limit
    g.from_place g.to_place hu h.from_place h.to_place h.lasts h.seconds_finite hl
