-- What the worked examples are about: an agent that goes from (0, 0) along the x-axis at 1 m/s, and one cart of its own kind on one
-- leg (RULES, Words and signs).
-- Assumes nothing.
use Rattle.std.specs.Prelude.{ℕ, ◌+◌, ◌*◌, [], ◌∷◌, pos, ◌-ℤ◌, Float}
use Rattle.std.specs.Float.Ieee
use Rattle.std.specs.Float.{binary64}
use Rattle.refusals.specs.Names.{refusal_number}
use Rattle.floats.specs.Constants.{nought}
use Rattle.times.specs.declared.time.Duration.{Duration}
use Rattle.times.specs.declared.time.TimePoint.{TimePoint}
use Rattle.shapes.specs.Box.{box_of_leg}
use Rattle.shapes.specs.declared.profile.CircularProfile.{CircularProfile}
use Rattle.shapes.specs.declared.waypoint.Leg.{Leg}
use Rattle.shapes.specs.declared.waypoint.Waypoint.{Waypoint}
use Rattle.hint_list.specs.Hints.{Hints, Of, Refused}
use Rattle.hint_list.specs.declared.hint.WaitHint.{WaitHint}
use Rattle.hint_list.specs.declared.hint.RankedHint.{RankedHint}
use Rattle.hint_ranking.specs.Hints.{Ranked}
use Rattle.table.specs.Lent.{Lent, lent_of, obstacles_of}
use Rattle.hint_walk.specs.Walk.{hints_of}
use Rattle.hints.specs.Asked.{asked_hints}

-- ---- Numbers.

abbrev pub metres : ℕ → Float
metres n = Ieee.of_int binary64 (pos n)

abbrev pub metres_back : ℕ → Float
metres_back n = Ieee.of_int binary64 (pos 0 -ℤ pos n)

-- So many eighths of a metre.
abbrev pub eighths : ℕ → Float
eighths n = Ieee.div binary64 (metres n) (metres 8)

-- The instant so many milliseconds after the start, and the spans so long and so much below zero.
abbrev pub at : ℕ → TimePoint
at ms = record { 0 = pos (ms * 1_000_000) }

abbrev pub lasting : ℕ → Duration
lasting ms = record { 0 = pos (ms * 1_000_000) }

abbrev pub early : ℕ → Duration
early ms = record { 0 = pos 0 -ℤ pos (ms * 1_000_000) }

-- ---- Questions.

-- A cart of such a footprint. Two of a kind keep twice as much, D, and follow at twice D (RULES 7.2, 7.4).
abbrev pub kind : Float → CircularProfile
kind footprint = record { footprint = footprint; follow = nought }

-- Half a metre: D is 1 and F is 2.
abbrev pub small : CircularProfile
small = kind (eighths 4)

-- Five eighths of a metre: D is 1.25.
abbrev pub middling : CircularProfile
middling = kind (eighths 5)

-- Two and a half metres: D is 5.
abbrev pub large : CircularProfile
large = kind (eighths 20)

-- At such a place after so many seconds.
abbrev pub on : Float → Float → ℕ → Waypoint
on x y s = record { time = at (s * 1_000); x = x; y = y }

-- The agent's leg of so many metres, begun after so many seconds.
abbrev pub agent : ℕ → ℕ → Leg
agent m s = record { start = on nought nought s; end = on (metres m) nought (s + m) }

-- The table of one cart on one leg.
abbrev pub table : CircularProfile → Waypoint → Waypoint → Lent
table p w v =
    lent_of (0 ∷ []) (p.footprint ∷ (p.follow ∷ (metres 1 ∷ [])))
    (w.time.0 ∷ (v.time.0 ∷ [])) (w.x ∷ (v.x ∷ [])) (w.y ∷ (v.y ∷ []))

-- What the walk of rule 10.3 finds for an agent on its leg and a cart of its kind that goes from one waypoint to another,
abbrev pub walked : CircularProfile → Leg → Waypoint → Waypoint → Hints
walked p leg w v = hints_of p leg (box_of_leg p.footprint leg) (obstacles_of (table p w v))

-- the number that it is refused by, 0 where it is not (RULES, section 4),
abbrev pub walk_number : Hints → ℕ
walk_number (Of hints) = 0
walk_number (Refused why) = refusal_number why

-- and what the call for hints answers.
abbrev pub asked : CircularProfile → Leg → Waypoint → Waypoint → Ranked
asked p leg w v = asked_hints p leg (table p w v)

-- ---- Answers.

-- To wait so far along the way until so many milliseconds, for the one cart.
abbrev pub hint : Float → ℕ → WaitHint
hint x ms = record { place = record { x = x; y = nought }; until = at ms; obstacle = 0 }

-- The same with its contour. The reach is the way from (0, 0).
abbrev pub ranked_at : Duration → Float → ℕ → RankedHint
ranked_at contour x ms = record { contour = contour; reach = x; hint = hint x ms }
