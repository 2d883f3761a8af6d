-- The marked examples of document 01, P1 to P10, in one table (RULES, section 16), each of the call itself. They hold: `marked` of
-- proofs/Marked.
-- Assumes nothing.
use Rattle.std.specs.Prelude.{ℕ, ◌*◌, ◌≡◌, List, [], ◌∷◌, ◌++◌, map, pos, Float}
use Rattle.std.specs.Float.{binary64}
use Rattle.std.specs.Float.Ieee.{of_bits}
use Rattle.lent.specs.Outcome.{Refuses}
use Rattle.times.specs.declared.time.Duration.{Duration}
use Rattle.times.specs.declared.time.TimePoint.{TimePoint}
use Rattle.shapes.specs.Distance.{critical_distance_squared}
use Rattle.shapes.specs.declared.profile.CircularProfile.{CircularProfile}
use Rattle.shapes.specs.declared.waypoint.Leg.{Leg}
use Rattle.shapes.specs.declared.waypoint.Waypoint.{Waypoint}
use Rattle.proximity.specs.Asked.{asked_proximity}
use Rattle.proximity.specs.Proximity.{proximity_outcome}
use Rattle.proximity.specs.declared.detect.Proximity.TheVariants as P
use Rattle.conflicts.specs.Asked.{asked_conflict}
use Rattle.conflicts.specs.declared.conflict.Verdict.TheVariants as J
use Rattle.table.specs.Lent.{Lent, lent_of}
use Rattle.hint_ranking.specs.Hints as R
use Rattle.hints.specs.Asked.{asked_hints}
use Rattle.arrival_search.specs.Search as A
use Rattle.arrival_times.specs.Asked.{asked_arrivals}
use Rattle.arrival_times.specs.Words.{arrivals_outcome}
use Rattle.path_actions.specs.declared.action.SafeAction.TheVariants.{Move, Wait}
use Rattle.plan_model.specs.Asked.{asked_plan}
use Rattle.plan_model.specs.Laid.{plan_number, plan_room, action_room_of}
use Rattle.plan_model.specs.Plan.{Plan, Planned, Refused}
use Rattle.request_format.specs.Crossing.{crossing_stream}
use Rattle.texts.specs.Letters.{bytes_of}
use Rattle.reply.specs.Text.{stream_text}
use Rattle.std.specs.Prelude.{Result, Ok, Err}
use Rattle.refusals.specs.declared.Refusal.{Refusal}
use Rattle.refusals.specs.declared.Refusal.TheVariants as Refusals

-- ---- Numbers.

abbrev zero : Float
zero = of_bits binary64 0x0000_0000_0000_0000

abbrev half : Float
half = of_bits binary64 0x3fe0_0000_0000_0000

abbrev one : Float
one = of_bits binary64 0x3ff0_0000_0000_0000

abbrev three : Float
three = of_bits binary64 0x4008_0000_0000_0000

abbrev minus_three : Float
minus_three = of_bits binary64 0xc008_0000_0000_0000

abbrev four : Float
four = of_bits binary64 0x4010_0000_0000_0000

abbrev five : Float
five = of_bits binary64 0x4014_0000_0000_0000

abbrev minus_five : Float
minus_five = of_bits binary64 0xc014_0000_0000_0000

abbrev ten : Float
ten = of_bits binary64 0x4024_0000_0000_0000

-- 1.09 and 0.59, each as the double nearest to it.
abbrev little : Float
little = of_bits binary64 0x3ff1_70a3_d70a_3d71

abbrev less : Float
less = of_bits binary64 0x3fe2_e147_ae14_7ae1

-- ---- Questions.

-- The instant so many milliseconds after the start.
abbrev at : ℕ → TimePoint
at ms = record { 0 = pos (ms * 1_000_000) }

-- The span of so many milliseconds.
abbrev lasting : ℕ → Duration
lasting ms = record { 0 = pos (ms * 1_000_000) }

abbrev on : Float → Float → ℕ → Waypoint
on x y ms = record { time = at ms; x = x; y = y }

-- From one place to another, from the start to such an instant.
abbrev way : Float → Float → Float → Float → ℕ → Leg
way x y u v ms = record { start = on x y 0; end = on u v ms }

-- The agent standing at (0, 0) until then.
abbrev stay : ℕ → Leg
stay = way zero zero zero zero

-- A footprint of half a metre, so that two carts keep a distance of 1.
abbrev cart : CircularProfile
cart = record { footprint = half; follow = zero }

-- The place (0, 0), asked for from such an instant on, in P1 to P5.
abbrev here : ℕ → Waypoint
here = on zero zero

-- The table of one such cart that drives along the line y = 0 by way of these waypoints.
abbrev other : List Waypoint → Lent
other ws = lent_of (0 ∷ []) (half ∷ (zero ∷ (one ∷ []))) (map (λ w. w.time.0) ws) (map (λ w. w.x) ws) (map (λ w. w.y) ws)

abbrev passing : Lent
passing = other (on minus_three zero 0 ∷ (on three zero 6_000 ∷ []))

abbrev stopping : Lent
stopping = other (on minus_three zero 0 ∷ (on zero zero 3_000 ∷ []))

abbrev turning : Lent
turning = other (on three zero 0 ∷ (on one zero 2_000 ∷ (on three zero 4_000 ∷ [])))

-- The way of the agent in P8 and P10, and the cart that it meets in each.
abbrev ahead : Leg
ahead = way zero zero ten zero 10_000

abbrev oncoming : Leg
oncoming = way ten zero zero zero 10_000

abbrev crossing : Lent
crossing =
    lent_of (0 ∷ []) (half ∷ (zero ∷ (one ∷ []))) (pos 0 ∷ (pos 10_000_000_000 ∷ [])) (five ∷ (five ∷ [])) (minus_five ∷ (five ∷ []))

-- The agent of P10 with 9 ns for its way.
abbrev brief : Leg
brief = record { start = on zero zero 0; end = record { time = record { 0 = pos 9 }; x = ten; y = zero } }

-- P10, with a budget (RULES 16.11).
abbrev pub plan_with : ℕ → Plan
plan_with budget = asked_plan cart ahead budget crossing

-- ---- Answers.

-- The plan of P10: to (4, 0) by 4 s, waiting there for the cart until 6 s, and on to the goal by 12 s.
abbrev pub crossing_plan : Plan
crossing_plan =
    Planned 1 1 1
    (record {
      arrival = at 10_000;
      pops = 1;
      hold = lasting 2_000;
      actions = Move (on four zero 4_000) ∷ (Wait 0 (at 6_000) ∷ (Move (on ten zero 12_000) ∷ []));
    } ∷ [])

-- A refusal stands by its name and, as it is handed out, by its number (RULES, section 4).
pub record Marked : Type 0 where
  -- The limit is 1 (RULES, section 16).
  pub limit : critical_distance_squared cart cart ≡ one
  -- A cart that passes is near from 2 s to 4 s: listed are the time asked for and its exit (RULES 16.1).
  pub p1_near : asked_proximity one (stay 6_000) (way minus_three zero three zero 6_000) ≡ Ok (P.Passes (at 2_000) (at 4_000))
  pub p1 : asked_arrivals cart (here 0) passing ≡ A.Answered (at 0 ∷ (at 4_000 ∷ [])) 2
  -- Asked while it is near, its exit (RULES 16.2).
  pub p2 : asked_arrivals cart (here 3_000) passing ≡ A.Answered (at 4_000 ∷ []) 2
  -- A cart that stops at the place: the time asked for (RULES 16.3).
  pub p3 : asked_arrivals cart (here 0) stopping ≡ A.Answered (at 0 ∷ []) 2
  -- Asked while it is near, none (RULES 16.4).
  pub p4 : asked_arrivals cart (here 2_500) stopping ≡ A.Answered [] 2
  -- A cart that touches the clearance and turns away leaves the search stuck (RULES 16.5).
  pub p5 : asked_arrivals cart (here 0) turning ≡ A.Refused Refusals.Stuck
  pub p5_number : arrivals_outcome (asked_arrivals cart (here 0) turning) ≡ Refuses 8
  -- A cart that creeps away over the limit is refused (RULES 16.6),
  pub p6 : asked_proximity one (stay 1_000_000) (way one zero little zero 1_000_000) ≡ Err Refusals.Creep
  pub p6_number : proximity_outcome (asked_proximity one (stay 1_000_000) (way one zero little zero 1_000_000)) ≡ Refuses 5
  -- and one that creeps within it stays near (RULES 16.7).
  pub p7 : asked_proximity one (stay 1_000_000) (way half zero less zero 1_000_000) ≡ Ok (P.Enters (at 0))
  -- Two carts that drive at one another are in conflict (RULES 16.8).
  pub p8_near : asked_proximity one ahead oncoming ≡ Ok (P.Passes (at 4_500) (at 5_500))
  pub p8 : asked_conflict cart ahead cart oncoming one ≡ (Ok J.Conflict)
  -- A cart that touches the clearance and drives on is not (RULES 16.9).
  pub p9_near : asked_proximity one (stay 6_000) (way minus_three one three one 6_000) ≡ Ok (P.Passes (at 3_000) (at 3_000))
  pub p9 : asked_conflict cart (stay 6_000) cart (way minus_three one three one 6_000) one ≡ (Ok J.Clear)
  -- Crossing has one hint (RULES 16.10),
  pub p10_hints : asked_hints cart ahead crossing ≡
      R.Of (record {
        contour = lasting 2_000;
        reach = four;
        hint = record { place = record { x = four; y = zero }; until = at 6_000; obstacle = 0 };
      } ∷ [])
  -- and one path (RULES 16.11),
  pub p10 : plan_with 4_096 ≡ crossing_plan
  -- handed over in these words, four for a line (RULES 15.1 to 15.4),
  pub p10_number : plan_number (plan_with 4_096) 8 12 ≡ 0
  pub p10_paths : plan_room (plan_with 4_096) 8 12 ≡
      1 ∷ (1 ∷ (1 ∷ (1 ∷ (10_000_000_000 ∷ (1 ∷ (2_000_000_000 ∷ (3 ∷ [])))))))
  pub p10_actions : action_room_of (plan_with 4_096) 8 12 ≡
      1 ∷ (4_000_000_000 ∷ (0x4010_0000_0000_0000 ∷ (0 ∷
      (2 ∷ (0 ∷ (6_000_000_000 ∷ (0 ∷
      (1 ∷ (12_000_000_000 ∷ (0x4024_0000_0000_0000 ∷ (0 ∷ [])))))))))))
  -- and printed, from the bytes of its stream, in these lines (RULES 16.11);
  pub p10_printed : stream_text crossing_stream ≡
      bytes_of "ok 1 1 1 1\n" ++
      (bytes_of "path 10000000000 1 2000000000\n" ++
      (bytes_of "move 4000000000 4010000000000000 0000000000000000\n" ++
      (bytes_of "wait 0 6000000000\n" ++ bytes_of "move 12000000000 4024000000000000 0000000000000000\n")))
  -- without a pop it is refused (RULES 13.21).
  pub p10_spent : plan_with 0 ≡ Refused Refusals.Spent
  pub p10_spent_number : plan_number (plan_with 0) 8 12 ≡ 11
  -- The same way in 9 ns is one Move (RULES 13.4, 15.9).
  pub p10_brief : asked_plan cart brief 4_096 crossing ≡
      Planned 0 0 0 (record { arrival = record { 0 = pos 9 }; pops = 0; hold = lasting 0; actions = Move brief.end ∷ [] } ∷ [])
