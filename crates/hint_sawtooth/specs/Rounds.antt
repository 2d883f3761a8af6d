-- The rounds of a chase (RULES 10.22, 10.23).
-- Assumes nothing.
use Rattle.std.specs.Prelude.{ℕ, zero, suc, ◌-◌, true, false, cond, not, ◌||◌, Float, Result, Ok, Err}
use Rattle.std.specs.Int.Signed.{lt_z}
use Rattle.std.specs.Float.Ieee
use Rattle.std.specs.Float.{binary64}
use Rattle.refusals.specs.declared.Refusal.TheVariants as Refusals
use Rattle.times.specs.Time.{earlier_of, instant_of_seconds, strayed}
use Rattle.times.specs.declared.time.TimePoint.{TimePoint}
use Rattle.shapes.specs.Vector.{vector_sum, scaled}
use Rattle.courses.specs.declared.course.Course.{Course}
use Rattle.courses.specs.declared.course.Run.{Run}
use Rattle.hint_list.specs.Hints.{Hints, Refused, one_hint, found_then}
use Rattle.hint_list.specs.declared.hint.WaitHint.{WaitHint}
use Rattle.hint_chasing.specs.declared.chase.Chase.{Chase}
use Rattle.hint_sawtooth.specs.declared.rounds.Stride.{Stride}
use Rattle.hint_sawtooth.specs.declared.rounds.Round.{Round}
use Rattle.hint_sawtooth.specs.declared.rounds.Round.TheVariants.{Next, Last}
use Rattle.times.specs.declared.time.Strayed.{Strayed}

-- Steps 1 to 5 of a round from s metres and t seconds, then step 6, which cuts it at the end of the line.
unfoldable pub stride_of : Course → Chase → Float → Float → Stride
stride_of agent chase s t =
    let there = Ieee.add binary64 chase.ahead (Ieee.mul binary64 chase.aligned (Ieee.sub binary64 t chase.since)) in
    let catching = Ieee.div binary64 (Ieee.sub binary64 (Ieee.sub binary64 there s) chase.gap) chase.closing in
    let s1 = Ieee.add binary64 s (Ieee.mul binary64 agent.speed catching) in
    let t1 = Ieee.add binary64 t (Ieee.add binary64 catching chase.rest) in
    let back = Ieee.div binary64 (Ieee.sub binary64 s1 agent.distance) agent.speed in
    cond (Ieee.le agent.distance s1)
    (record { s = agent.distance; t = Ieee.sub binary64 t1 back; ended = true })
    (record { s = s1; t = t1; ended = false })

-- Steps 7 to 9: the hint, and whether it is the last.
unfoldable pub round_of : Course → Run → Chase → ℕ → Float → Float → Result Round Strayed
round_of agent leg chase obstacle s t = by (stride_of agent chase s t)
  where
    hint_at : Float → TimePoint → WaitHint
    hint_at m tp =
        record {
          place = vector_sum agent.run.from (scaled agent.direction m);
          until = earlier_of tp leg.end;
          obstacle = obstacle;
        }

    stopped : Stride → Result TimePoint Strayed → Result Round Strayed
    stopped to (Ok tp) =
        cond (to.ended || not (lt_z tp.0 leg.end.0))
        (Ok (Last (hint_at to.s tp)))
        (Ok (Next (hint_at to.s tp) to.s to.t))
    stopped to (Err _) = strayed

    by : Stride → Result Round Strayed
    by to = stopped to (instant_of_seconds to.t)

-- After a round behind n hints: its hint is stored, and unless it was the last the rounds go on from where it ended.
abbrev pub after_round : ℕ → Result Round Strayed → (ℕ → Float → Float → Hints) → Hints
after_round n (Ok (Next h s t)) go = found_then n (one_hint n h) (λ m. go m s t)
after_round n (Ok (Last h)) go = one_hint n h
after_round n (Err _) go = Refused Refusals.Strayed

-- The rounds from s metres and t seconds on behind n hints, with room for so many more: each stores a hint or is refused, and with
-- no room left it is refused 10 (RULES 10.23).
unfoldable pub rounds_in : ℕ → Course → Run → Chase → ℕ → ℕ → Float → Float → Hints
rounds_in zero agent leg chase obstacle n s t =
    after_round n (round_of agent leg chase obstacle s t) (λ m s1 t1. Refused Refusals.Full)
rounds_in (suc room) agent leg chase obstacle n s t =
    after_round n (round_of agent leg chase obstacle s t) (rounds_in room agent leg chase obstacle)

abbrev pub rounds_from : Course → Run → Chase → ℕ → ℕ → Float → Float → Hints
rounds_from agent leg chase obstacle n s t = rounds_in (64 - n) agent leg chase obstacle n s t
