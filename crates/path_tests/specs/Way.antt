-- Whether a way is safe (RULES 13.3).
-- Assumes nothing.
use Rattle.std.specs.Prelude.{List}
use Rattle.shapes.specs.Box.{box_of_leg}
use Rattle.shapes.specs.declared.profile.CircularProfile.{CircularProfile}
use Rattle.shapes.specs.declared.waypoint.Leg.{Leg}
use Rattle.shapes.specs.declared.waypoint.Waypoint.{Waypoint}
use Rattle.conflicts.specs.declared.conflict.Verdict.{Verdict}
use Rattle.conflicts.specs.declared.conflict.Verdict.TheVariants as J
use Rattle.table.specs.Obstacle.{Obstacle}
use Rattle.segments.specs.Segment.{segment_of}
use Rattle.path_search.specs.declared.trial.Trial.{Trial}
use Rattle.path_search.specs.declared.trial.Trial.TheVariants as T
use Rattle.std.specs.Prelude.{Result, Ok, Err}
use Rattle.refusals.specs.declared.Refusal.{Refusal}

-- A verdict as a test: a clear segment passes it.
abbrev pub trial_of : Result Verdict Refusal → Result Trial Refusal
trial_of (Ok J.Clear) = Ok T.Passed
trial_of (Ok J.Conflict) = Ok T.Failed
trial_of (Err n) = Err n

-- The segment from one waypoint to another, in the box of the agent's footprint (RULES 9.7).
unfoldable pub way_of : CircularProfile → List Obstacle → Waypoint → Waypoint → Result Trial Refusal
way_of p os from to =
    let leg : Leg = record { start = from; end = to } in
    trial_of (segment_of leg (box_of_leg p.footprint leg) os)

-- What follows a test that is passed; else that test's own end (RULES 5.8).
abbrev pub next : Result Trial Refusal → (Unit {0} → Result Trial Refusal) → Result Trial Refusal
next (Ok T.Passed) go = go tt
next (Ok T.Failed) go = Ok T.Failed
next (Err n) go = Err n

unfoldable pub both_ways : CircularProfile → List Obstacle → Waypoint → Waypoint → Waypoint → Result Trial Refusal
both_ways p os from via to = next (way_of p os from via) (λ _. way_of p os via to)
