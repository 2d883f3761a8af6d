-- When two legs come within a limit and when they leave it (RULES, section 8).
-- Assumes nothing.
use Rattle.std.specs.Prelude.{cond, [], ◌∷◌, Float}
use Rattle.std.specs.Float.Ieee
use Rattle.lent.specs.Outcome.{Outcome, Gives, Refuses}
use Rattle.floats.specs.Constants.{nought}
use Rattle.floats.specs.Compare.{larger_of, size_of}
use Rattle.floats.specs.Quadratic.{radicand, lower, upper}
use Rattle.floats.specs.Constants.{hundred_millionth, ten_thousandth}
use Rattle.number_words.specs.Word.{word_of}
use Rattle.times.specs.Time.{span_between, instant_after_seconds, seconds_of, with_span, with_instant}
use Rattle.times.specs.declared.time.TimePoint.{TimePoint}
use Rattle.root.specs.Root.{root_of, with_root}
use Rattle.shapes.specs.declared.waypoint.Leg.{Leg}
use Rattle.motions.specs.Quadratic.{meeting_from, with_meeting}
use Rattle.proximity.specs.Range.{range_start, range_end, is_short, short_range}
use Rattle.motions.specs.declared.quadratic.Quadratic.{Quadratic}
use Rattle.proximity.specs.declared.detect.Proximity.{Proximity}
use Rattle.proximity.specs.declared.detect.Proximity.TheVariants.{Never, Enters, Passes}
use Rattle.std.specs.Prelude.{Result, Ok, Err}
use Rattle.refusals.specs.declared.Refusal.{Refusal}
use Rattle.std.specs.Prelude.{Option, Some, None}
use Rattle.refusals.specs.declared.Refusal.TheVariants as Refusals
use Rattle.refusals.specs.Names.{refusal_number}

-- ---- A range that is not short.

-- a below 1e-8: refused 5 where b is 1e-4 or more in size, else near from t0 on where c is at most 0 (RULES 8.12 to 8.14).
abbrev pub without_motion : TimePoint → Quadratic → Result Proximity Refusal
without_motion t0 q =
    cond (Ieee.lt (size_of q.b) ten_thousandth) (cond (Ieee.le q.c nought) (Ok (Enters t0)) (Ok Never)) (Err Refusals.Creep)

-- What the roots give in a range of w seconds (RULES 8.17 to 8.19): nothing where the upper one is below 0 or the lower one past
-- the width; else the entry, 0 for a root below it, and the exit where its root is at most the width.
unfoldable pub passage : TimePoint → Float → Float → Float → Result Proximity Refusal
passage t0 w first last =
    cond (Ieee.lt last nought)
    (Ok Never)
    (cond (Ieee.lt w first)
    (Ok Never)
    (with_instant (Err Refusals.Strayed) (instant_after_seconds t0 (larger_of nought first)) (λ enter.
    cond (Ieee.le last w)
    (with_instant (Err Refusals.Strayed) (instant_after_seconds t0 last) (λ exit. Ok (Passes enter exit)))
    (Ok (Enters enter)))))

-- A negative radicand gives nothing; else the roots decide (RULES 8.15 to 8.17).
unfoldable pub by_roots : TimePoint → TimePoint → Quadratic → Result Proximity Refusal
by_roots t0 t1 q =
    let r = radicand q.a q.b q.c in
    cond (Ieee.lt r nought)
    (Ok Never)
    (with_root (Err Refusals.Number) (root_of r) (λ s.
    with_span (Err Refusals.Strayed) (span_between t0 t1) (λ w.
    passage t0 (seconds_of w.0) (lower q.a q.b s) (upper q.a q.b s))))

unfoldable pub long_range : Float → Leg → Leg → TimePoint → TimePoint → Result Proximity Refusal
long_range limit agent obstacle t0 t1 =
    with_meeting Err (meeting_from limit agent obstacle t0) (λ q.
    cond (Ieee.lt q.a hundred_millionth) (without_motion t0 q) (by_roots t0 t1 q))

-- ---- The answer.

-- The span from the range's end to its start is worked out before anything else (RULES 8.5, 8.6).
unfoldable pub proximity_of : Float → Leg → Leg → Result Proximity Refusal
proximity_of limit agent obstacle =
    let t0 = range_start agent obstacle in
    let t1 = range_end agent obstacle in
    with_span (Err Refusals.Strayed) (span_between t1 t0) (λ d.
    cond (is_short d) (short_range limit agent obstacle t0 t1) (long_range limit agent obstacle t0 t1))

-- The entry of an answer that has one (RULES 8.20).
abbrev pub entry_of : Result Proximity Refusal → Option TimePoint
entry_of (Ok Never) = None
entry_of (Ok (Enters t)) = Some t
entry_of (Ok (Passes t u)) = Some t
entry_of (Err why) = None

-- The number and the words of each case: how many instants there are, and they (RULES 8.20).
abbrev pub proximity_outcome : Result Proximity Refusal → Outcome
proximity_outcome (Ok Never) = Gives (0 ∷ [])
proximity_outcome (Ok (Enters t)) = Gives (1 ∷ (word_of t.0 ∷ []))
proximity_outcome (Ok (Passes t u)) = Gives (2 ∷ (word_of t.0 ∷ (word_of u.0 ∷ [])))
proximity_outcome (Err why) = Refuses (refusal_number why)
