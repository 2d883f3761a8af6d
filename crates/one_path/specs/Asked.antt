-- What the call for one path alone answers: its input is examined first (RULES 4.13, 5.1 to 5.7).
-- Assumes nothing.
use Rattle.std.specs.Prelude.{ℕ, cond, ◌&&◌, List, [], ◌∷◌, ◌++◌, length}
use Rattle.lent.specs.Outcome.{Outcome, Gives, Refuses}
use Rattle.lent.specs.Rows.{words_in}
use Rattle.number_words.specs.Word.{word_of}
use Rattle.times.specs.declared.time.TimePoint.{TimePoint}
use Rattle.domain.specs.Domain.{is_time}
use Rattle.shapes.specs.Leg.{is_brief}
use Rattle.shapes.specs.declared.profile.CircularProfile.{CircularProfile}
use Rattle.shapes.specs.declared.waypoint.Leg.{Leg}
use Rattle.table.specs.Lent.{Lent, obstacles_of}
use Rattle.table.specs.Obstacle.{Obstacle}
use Rattle.table.specs.Examined.{agent_examined}
use Rattle.hint_ranking.specs.Hints as R
use Rattle.hint_ranking.specs.Hints.{Ranked}
use Rattle.hint_words.specs.Lent.{lent_hints}
use Rattle.hint_list.specs.declared.hint.RankedHint.{RankedHint}
use Rattle.hints.specs.Contour.{scale_of}
use Rattle.hints.specs.declared.contour.Scale.{Scale}
use Rattle.path_tests.specs.declared.trip.Trip.{Trip}
use Rattle.path_actions.specs.Action.{action_rows}
use Rattle.domain.specs.Beside.{is_budget, with_numbers, with_lent}
use Rattle.one_path.specs.Path.{Sought, Path, Missing, Refused, path_for}
use Rattle.std.specs.Prelude.{Result, Ok, Err}
use Rattle.refusals.specs.declared.Refusal.{Refusal}
use Rattle.refusals.specs.declared.Refusal.TheVariants as Refusals
use Rattle.refusals.specs.Names.{refusal_number}

-- The trip at the speed along the agent's line (RULES 13.2).
abbrev pub trip_of : CircularProfile → Leg → Scale → Trip
trip_of p agent scale = record { profile = p; leg = agent; speed = scale.speed }

-- 4 for the agent's line, then the path.
unfoldable pub lone_path : CircularProfile → Leg → TimePoint → ℕ → List RankedHint → List Obstacle → Sought
lone_path p agent arrival budget hints os = by (scale_of agent)
  where
    by : Result Scale Refusal → Sought
    by (Ok scale) = path_for (trip_of p agent scale) os hints budget arrival
    by (Err n) = Refused n

-- The agent, the table, the budget, the arrival time and the lent hints are examined; then 4 for a duration under 10 ns.
unfoldable pub asked_path : CircularProfile → Leg → TimePoint → ℕ → List ℕ → Lent → Sought
asked_path p agent arrival budget words lent = by (lent_hints (length lent.starts) words)
  where
    beside : Result Unit Refusal
    beside = with_numbers (is_budget budget && is_time arrival) (agent_examined p agent lent)

    examined : Result Unit Refusal → List RankedHint → Sought
    examined (Ok tt) hints = cond (is_brief agent) (Refused Refusals.NoLine) (lone_path p agent arrival budget hints (obstacles_of lent))
    examined (Err n) hints = Refused n

    by : Ranked → Sought
    by (R.Of hints) = examined beside hints
    by (R.Refused why) = examined (with_lent (refusal_number why) beside) []

-- Its words, in rows of four: whether there is a path, its pops, its hold and its count of actions; then they.
unfoldable pub path_outcome : Sought → Outcome
path_outcome (Path actions pops hold) =
    Gives ((1 ∷ (pops ∷ (word_of hold.0 ∷ (length actions ∷ [])))) ++ words_in (action_rows actions))
path_outcome (Missing pops) = Gives (0 ∷ (pops ∷ (0 ∷ (0 ∷ []))))
path_outcome (Refused n) = Refuses (refusal_number n)
