-- On the domain's table a hint's instant is in reach, and of the parts only the crossing is refused, by 4 or 7 (RULES 4.4, 4.7).
-- Assumes nothing.
use mathlib.Core.Path.{◌≡◌, refl}
use mathlib.Core.Logic.{◌⊎◌, inl, inr}
use mathlib.Core.Bool.{Bool, true, false, cond}
use Rattle.std.proofs.Common.{Option, Some, None}
use lib.Signed.{lt_z}
use lib.Ieee.{Float, le}
use Rattle.floats.specs.Constants.{nought}
use Rattle.times.specs.Time.{is_exact, span_of_seconds, instant_after, instant_after_seconds, with_instant}
use Rattle.times.specs.declared.time.TimePoint.{TimePoint}
use Rattle.times.proofs.Answers.{instant_made}
use Rattle.domain.specs.Domain.{is_place, is_limit}
use Rattle.shapes.specs.Vector.{vector_difference}
use Rattle.shapes.specs.declared.vector.Vector.{Vector}
use Rattle.shapes.specs.declared.waypoint.Leg.{Leg}
use Rattle.domain.proofs.Within.{time_exact}
use Rattle.domain.proofs.Vectors.{Spans}
use Rattle.courses.specs.Norm.{direction_of}
use Rattle.line_proximity.specs.NearLine.{near_line}
use Rattle.line_proximity.specs.Stationary.{stationary_proximity}
use Rattle.courses.specs.declared.course.Course.{Course}
use Rattle.courses.specs.declared.course.Run.{Run}
use Rattle.line_proximity.proofs.OnDomain.{Steady, Charted, Directed, Answered, steepest}
use Rattle.line_proximity.proofs.OnDomain.{direction_given, run_stationary_answered, run_near_line_answered}
use Rattle.hint_waits.specs.Parts.{staying, agent_after}
use Rattle.hint_waits.specs.Crossing.{before_crossing, directed, beside_line, crossing_wait}
use Rattle.hint_waits.specs.Standing.{first_begin, near_ends, standing_wait}
use Rattle.hint_waits.specs.Oncoming.{oncoming_wait}
use Rattle.std.specs.Prelude.{Result, Ok, Err}
use Rattle.times.specs.declared.time.Strayed.{Strayed}
use Rattle.times.specs.declared.time.Duration.{Duration}
use Rattle.std.specs.Prelude.{Option, Some, None}
use Rattle.root.specs.declared.nearest.NoRoot.{NoRoot}
use Rattle.refusals.specs.declared.Refusal.{Refusal}
use Rattle.refusals.specs.declared.Refusal.TheVariants as Refusals

-- A hint until an instant in reach, nothing, or a refusal that may be (RULES 4.7).
abbrev pub Waited : (Refusal → Type 0) → Result (Option (Vector × TimePoint)) Refusal → Type 0
Waited may (Ok (Some (p, t))) = is_exact t.0 ≡ true
Waited may (Ok None) = Unit
Waited may (Err why) = may why

-- None may be.
abbrev pub NeverRefused : Refusal → Type 0
NeverRefused _ = ⊥

-- No direction of the leg, or an instant past the reach (RULES 4.4, 4.7, 10.10, 10.12).
abbrev pub NoLineOrStrayed : Refusal → Type 0
NoLineOrStrayed why = (why ≡ Refusals.NoLine) ⊎ (why ≡ Refusals.Strayed)

-- ---- Parts of an answer.

module _ (may : Refusal → Type 0) where
  -- Whichever way a test goes.
  either_waited : (b : Bool) (x y : Result (Option (Vector × TimePoint)) Refusal) → Waited may x → Waited may y → Waited may (cond b x y)
  either_waited true x y h k = h
  either_waited false x y h k = k

  staying_waited : (s : Result (Option (Float × Float)) NoRoot) (go : Float → Float → Result (Option (Vector × TimePoint)) Refusal) →
      Answered s → ((t u : Float) → Waited may (go t u)) → Waited may (staying s go)
  staying_waited (Ok (Some (t, u))) go a h = h t u
  staying_waited (Ok None) go a h = tt
  staying_waited (Err _) go a h = absurd a

reaching_waited : (i : Result TimePoint Strayed) (go : TimePoint → Result (Option (Vector × TimePoint)) Refusal) →
    ((t : TimePoint) → i ≡ Ok t → Waited NoLineOrStrayed (go t)) → Waited NoLineOrStrayed (with_instant (Err Refusals.Strayed) i go)
reaching_waited (Ok t) go h = h t refl
reaching_waited (Err _) go h = inr refl

directed_waited : (d : Result (Option Vector) NoRoot) (go : Vector → Result (Option (Vector × TimePoint)) Refusal) →
    Directed d → ((u : Vector) → Spans steepest u → Waited NoLineOrStrayed (go u)) → Waited NoLineOrStrayed (directed d go)
directed_waited (Ok (Some u)) go a h = h u a
directed_waited (Ok None) go a h = inl refl
directed_waited (Err _) go a h = absurd a

-- An instant that seconds put after another was held against the reach (RULES 10.12).
after_exact : (t : TimePoint) (s : Float) (u : TimePoint) → instant_after_seconds t s ≡ Ok u → is_exact u.0 ≡ true
unfolding instant_after_seconds
after_exact t s u e = by (span_of_seconds s) refl
  where
    by : (x : Result Duration Strayed) → span_of_seconds s ≡ x → is_exact u.0 ≡ true
    by (Ok d) q = let after : instant_after t d ≡ Ok u = rw q at e in (instant_made t d u after).result
    by (Err _) q = cc (rw q at e)

before_waited : (agent : Course) (leg : Run) (wait end : Float) → Waited NoLineOrStrayed (before_crossing agent leg wait end)
unfolding before_crossing
before_waited agent leg wait end =
    either_waited NoLineOrStrayed (le nought wait) _ _
    (reaching_waited (instant_after_seconds leg.start end) _ (λ until e.
    reaching_waited (instant_after_seconds agent.run.start wait) _ (λ arrival _.
    either_waited NoLineOrStrayed (lt_z until.0 arrival.0) (Ok None) (Ok (Some (agent_after agent wait, until)))
    tt
    (after_exact leg.start end until e))))
    tt

-- ---- The parts of a leg.

-- Of the agent's course, a leg in motion and a limit of the table (RULES 3.4, 10.6).
module _ {own : Leg} {agent : Course} {leg : Run} (limit : Float)
    (h : Charted own agent) (g : Steady leg) (hl : is_limit limit ≡ true) where
  beside_waited : (end : Float) → Waited NoLineOrStrayed (beside_line agent leg limit end)
  unfolding beside_line
  beside_waited end =
      directed_waited (direction_of (vector_difference leg.to leg.from)) _ (direction_given leg g) (λ u hu.
      let near = near_line leg.from leg.to u agent.run.from agent.run.to agent.run.seconds limit in
      staying_waited NoLineOrStrayed near _ (run_near_line_answered limit g hu h.steady hl) (λ wait _.
      before_waited agent leg wait end))

  -- The crossing is refused by 4 or 7 alone (RULES 10.9 to 10.13).
  pub crossing_waited : Waited NoLineOrStrayed (crossing_wait agent leg limit)
  unfolding crossing_wait
  crossing_waited =
      let near = near_line agent.run.from agent.run.to agent.direction leg.from leg.to leg.seconds limit in
      staying_waited NoLineOrStrayed near _ (run_near_line_answered limit h.steady h.direction_within g hl) (λ _ end.
      beside_waited end)

  until_end : is_exact leg.end.0 ≡ true
  until_end = time_exact leg.end g.end_time

  ends_waited : (first second : Float) → Waited NeverRefused (Ok (near_ends agent leg first second))
  unfolding near_ends
  ends_waited first second = by (first_begin first second) refl
    where
      by : (b : Option Float) → first_begin first second ≡ b → Waited NeverRefused (Ok (near_ends agent leg first second))
      by (Some wait) e = rw e until_end
      by None e = rw e tt

  -- Standing is never refused (RULES 10.24 to 10.27).
  pub standing_waited : Waited NeverRefused (standing_wait agent leg limit)
  unfolding standing_wait
  standing_waited =
      let near : Vector → Result (Option (Float × Float)) NoRoot = λ r. stationary_proximity r agent.run.from agent.run.velocity limit in
      let answered : (r : Vector) → is_place r ≡ true → Answered (near r) =
      λ r place. run_stationary_answered r limit h.steady place hl in
      staying_waited NeverRefused (near leg.from) _ (answered leg.from g.from_place) (λ first _.
      staying_waited NeverRefused (near leg.to) _ (answered leg.to g.to_place) (λ second _.
      ends_waited first second))

  -- Oncoming is never refused (RULES 10.28).
  pub oncoming_waited : Waited NeverRefused (oncoming_wait agent leg limit)
  unfolding oncoming_wait
  oncoming_waited =
      let near = stationary_proximity leg.to agent.run.from agent.run.velocity limit in
      staying_waited NeverRefused near _ (run_stationary_answered leg.to limit h.steady g.to_place hl) (λ wait _.
      either_waited NeverRefused (le nought wait) (Ok (Some (agent_after agent wait, leg.end))) (Ok None) until_end tt)
