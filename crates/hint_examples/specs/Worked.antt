-- Hints worked out on paper, for each part of the search: following, its rounds, standing, oncoming, and the cut of rule 10.35. They
-- hold: `worked` of proofs/Worked. The Rust gives the same for each (`oracle/planner/tests/worked.rs`).
-- Assumes nothing.
use Rattle.std.specs.Prelude.{◌≡◌, [], ◌∷◌}
use Rattle.refusals.specs.declared.Refusal.TheVariants as Refusals
use Rattle.floats.specs.Constants.{nought}
use Rattle.hint_list.specs.Hints.{Of, Refused}
use Rattle.hint_ranking.specs.Hints as R
use Rattle.hint_examples.specs.Floor.{metres, metres_back, eighths, lasting, early, small, middling, large, on, agent}
use Rattle.hint_examples.specs.Floor.{walked, walk_number, asked, hint, ranked_at}

-- In the working v is the agent's speed of 1, w the cart's along the way (aligned), u the agent's direction (1, 0). Nothing on the
-- agent's own line goes across it, so that a of rule 10.31 is 0 and there is no crossing hint.

-- Following (RULES 10.16 to 10.21).
pub record Following : Type 0 where
  -- A cart ahead that goes half as fast: w = 4 / 8 = 0.5. It is first seen at s0 = 4, at t = 0 (10.16). s0 is above F = 2, and so
  -- is s0 - v * 0 (10.20), so s = 0 (10.21). interval = 2 / 0.5 = 4. Round 1: obs_s = 4, ds = 4, delta = (4 - 1) / 0.5 = 6, s = 6,
  -- t = 6 + 4 = 10. The leg is over at 8 s: wait at 6 m until 8 s.
  pub half_as_fast : walked small (agent 10 0) (on (metres 4) nought 0) (on (metres 8) nought 8) ≡ Of (hint (metres 6) 8_000 ∷ [])
  -- Its contour is 8 - 6 / 1 = 2 s (11.4).
  pub half_as_fast_ranked : asked small (agent 10 0) (on (metres 4) nought 0) (on (metres 8) nought 8) ≡
      R.Of (ranked_at (lasting 2_000) (metres 6) 8_000 ∷ [])
  -- A cart within the follow distance: s0 = 1.5, w = 4 / 8 = 0.5. t = (2 - 1.5) / 0.5 = 1: wait at the start until 1 s (10.19).
  -- Round 1: obs_s = 1.5 + 0.5 * 1 = 2, ds = 2, delta = (2 - 1) / 0.5 = 2, s = 2, t = 1 + (2 + 4) = 7. Round 2: obs_s = 1.5 + 3.5
  -- = 5, ds = 3, delta = 4, s = 6, t = 7 + (4 + 4) = 15, past the leg's end at 8 s.
  pub within_follow_distance : walked small (agent 10 0) (on (eighths 12) nought 0) (on (eighths 44) nought 8) ≡
      Of (hint nought 1_000 ∷ (hint (metres 2) 7_000 ∷ (hint (metres 6) 8_000 ∷ [])))
  -- The contours are 1 - 0, 7 - 2 and 8 - 6, so the last hint stands second (11.6).
  pub within_follow_distance_ranked : asked small (agent 10 0) (on (eighths 12) nought 0) (on (eighths 44) nought 8) ≡
      R.Of
      (ranked_at (lasting 1_000) nought 1_000 ∷
      (ranked_at (lasting 2_000) (metres 6) 8_000 ∷ (ranked_at (lasting 5_000) (metres 2) 7_000 ∷ [])))
  -- A cart that sets out when the agent has caught up: s0 = 4, t = 3, w = 2 / 4 = 0.5. s0 - v * 3 = 1 is within F, so x = (4 - 2) / 1
  -- = 2 and s = 2: wait at 2 m until 3 s (10.20). Round 1: obs_s = 4, ds = 2, delta = (2 - 1) / 0.5 = 2, s = 4, t = 3 + (2 + 4) = 9,
  -- past the leg's end at 7 s.
  pub caught_up : walked small (agent 10 0) (on (metres 4) nought 3) (on (metres 6) nought 7) ≡
      Of (hint (metres 2) 3_000 ∷ (hint (metres 4) 7_000 ∷ []))
  -- A cart that set out 2 s before the agent: dq = (3 + 0.5 * 2) - 0, so s0 = 4, at t = 2 (10.16), and s = 0 (10.21). But t_obs is
  -- the leg's start, 0 (10.18), so round 1 counts the 2 s again: obs_s = 4 + 0.5 * 2 = 5, ds = 5, delta = (5 - 1) / 0.5 = 8, s = 8,
  -- t = 2 + (8 + 4) = 14, past the leg's end at 8 s.
  pub set_out_before : walked small (agent 10 2) (on (metres 3) nought 0) (on (metres 7) nought 8) ≡ Of (hint (metres 8) 8_000 ∷ [])
  -- A cart as fast as the agent: w = 4 / 4 = 1, and v <= w (10.15).
  pub as_fast : walked small (agent 10 0) (on (metres 4) nought 0) (on (metres 8) nought 4) ≡ Of []
  -- A cart at the agent's start: dq . dq = 0.25 is below D * D = 1 (10.17).
  pub at_the_start : walked small (agent 10 0) (on (eighths 4) nought 0) (on (eighths 36) nought 8) ≡ Of []
  -- A cart behind the agent: s0 = -2 (10.17).
  pub behind : walked small (agent 10 0) (on (metres_back 2) nought 0) (on (metres 2) nought 8) ≡ Of []

-- The sawtooth (RULES 10.22, 10.23).
pub record Chases : Type 0 where
  -- A chase until the cart is gone: w = 12 / 24 = 0.5, s0 = 4, interval = 4. Round 1 ends at s = 6, t = 10, as above. Round 2: obs_s
  -- = 4 + 5 = 9, ds = 3, delta = (3 - 1) / 0.5 = 4, s = 10, t = 10 + (4 + 4) = 18. Round 3: obs_s = 13, ds = 3, delta = 4, s = 14,
  -- t = 26, past the leg's end at 24 s; the way is 16 m long.
  pub until_gone : walked small (agent 16 0) (on (metres 4) nought 0) (on (metres 16) nought 24) ≡
      Of (hint (metres 6) 10_000 ∷ (hint (metres 10) 18_000 ∷ (hint (metres 14) 24_000 ∷ [])))
  -- The contours are 10 - 6, 18 - 10 and 24 - 14.
  pub until_gone_ranked : asked small (agent 16 0) (on (metres 4) nought 0) (on (metres 16) nought 24) ≡
      R.Of
      (ranked_at (lasting 4_000) (metres 6) 10_000 ∷
      (ranked_at (lasting 8_000) (metres 10) 18_000 ∷ (ranked_at (lasting 10_000) (metres 14) 24_000 ∷ [])))
  -- A chase to the end of the way, 8 m: the rounds are the same, but s = 10 in round 2 is past the end. t goes back by (10 - 8) / 1
  -- to 16, and s is 8.
  pub to_the_end : walked small (agent 8 0) (on (metres 4) nought 0) (on (metres 14) nought 20) ≡
      Of (hint (metres 6) 10_000 ∷ (hint (metres 8) 16_000 ∷ []))
  -- A chase of more hints than are kept: round n ends at s = 4 n + 2, t = 8 n + 2. After 64 of them the agent is at 258 m of 1,000 at
  -- 514 s of 1,000, and the 65th is refused 10 (10.43).
  pub too_many : walked small (agent 1_000 0) (on (metres 4) nought 0) (on (metres 504) nought 1_000) ≡ Refused Refusals.Full
  pub too_many_number : walk_number (walked small (agent 1_000 0) (on (metres 4) nought 0) (on (metres 504) nought 1_000)) ≡ 10

-- Standing (RULES 10.24 to 10.27).
pub record Standing : Type 0 where
  -- A cart that stands on the way at 5 m: m = (-5, 0), a = 1, b = -10, c = 25 - 1 = 24, radicand 100 - 96 = 4, begin (10 - 2) / 2 = 4
  -- for both ends.
  pub on_the_way : walked small (agent 10 0) (on (metres 5) nought 0) (on (metres 5) nought 6) ≡ Of (hint (metres 4) 6_000 ∷ [])
  pub on_the_way_ranked : asked small (agent 10 0) (on (metres 5) nought 0) (on (metres 5) nought 6) ≡
      R.Of (ranked_at (lasting 2_000) (metres 4) 6_000 ∷ [])
  -- One that stands a metre behind the agent: m = (1, 0), b = 2, c = 0, radicand 4, begin (-2 - 2) / 2 = -2 (10.25).
  pub stands_behind : walked small (agent 10 0) (on (metres_back 1) nought 0) (on (metres_back 1) nought 6) ≡ Of []
  -- One that stands a metre beyond the goal: m = (-11, 0), b = -22, c = 120, radicand 484 - 480 = 4, begin (22 - 2) / 2 = 10, the goal.
  pub beyond_the_goal : walked small (agent 10 0) (on (metres 11) nought 0) (on (metres 11) nought 6) ≡
      Of (hint (metres 10) 6_000 ∷ [])
  -- One that stands 0.75 m beside the way, with D = 1.25: m = (-5, -0.75), c = 25.5625 - 1.5625 = 24, so again begin 4.
  pub beside_the_way : walked middling (agent 10 0) (on (metres 5) (eighths 6) 0) (on (metres 5) (eighths 6) 6) ≡
      Of (hint (metres 4) 6_000 ∷ [])
  -- One that draws from there onto the way in 12 s, at 0.0625 m/s. Crossing: a = 0.00390625, b = 2 * (-0.0625 * 0.75) = -0.09375,
  -- c = 0.5625 - 1.5625 = -1, radicand 0.0087890625 + 0.015625 = 0.15625 squared, end (0.09375 + 0.15625) / 0.0078125 = 32, at most 12
  -- (10.34); the agent is near its line from (10 - 2.5) / 2 = 3.75 on (10.11). Standing: begins 4 and 5 - 1.25 = 3.75, the smaller
  -- (10.26). So twice the same hint.
  pub draws_onto_the_way : walked middling (agent 10 0) (on (metres 5) (eighths 6) 0) (on (metres 5) nought 12) ≡
      Of (hint (eighths 30) 12_000 ∷ (hint (eighths 30) 12_000 ∷ []))
  -- One that leaves the way sideways at 0.5 m/s. Crossing: a = 0.25, b = 0, c = -1, end (0 + 1) / 0.5 = 2; the agent is near its line
  -- from 4 s on, too late (10.13). Standing: of its end m = (-5, -4), c = 40, radicand 100 - 160, Nothing (10.24).
  pub leaves_the_way : walked small (agent 10 0) (on (metres 5) nought 0) (on (metres 5) (metres 4) 8) ≡ Of []

-- Oncoming (RULES 10.28).
pub record Oncoming : Type 0 where
  -- A cart that comes to meet the agent and is gone at 5 m after 5 s: w = -1, begin 4, as of one that stands there.
  pub comes_to_meet : walked small (agent 10 0) (on (metres 10) nought 0) (on (metres 5) nought 5) ≡ Of (hint (metres 4) 5_000 ∷ [])
  pub comes_to_meet_ranked : asked small (agent 10 0) (on (metres 10) nought 0) (on (metres 5) nought 5) ≡
      R.Of (ranked_at (lasting 1_000) (metres 4) 5_000 ∷ [])
  -- One that comes a metre past the agent's start: begin -2.
  pub comes_past : walked small (agent 10 0) (on (metres 10) nought 0) (on (metres_back 1) nought 11) ≡ Of []
  -- One that comes and turns off, by (-4, 3) in 1 s. Crossing: a = 9, b = 0, c = -1, end 6 / 18 s; the agent is near its line where
  -- 0.6 * (9 - t) = 1, after 7 s, too late (10.13). Oncoming: m = (-5, -3), b = -10, c = 33, radicand 100 - 132, Nothing.
  pub turns_off : walked small (agent 10 0) (on (metres 9) nought 0) (on (metres 5) (metres 3) 1) ≡ Of []
  -- One that was gone at 4 m a second before the agent set out, though it went the agent's way (10.15): begin 4 - 1 = 3, until the
  -- leg's end at 2 s. Its contour is (2 - 3) - 3 / 1 = -4 s.
  pub gone_before : walked small (agent 10 3) (on (metres 2) nought 0) (on (metres 4) nought 2) ≡ Of (hint (metres 3) 2_000 ∷ [])
  pub gone_before_ranked : asked small (agent 10 3) (on (metres 2) nought 0) (on (metres 4) nought 2) ≡
      R.Of (ranked_at (early 4_000) (metres 3) 2_000 ∷ [])

-- Past the end of the line (RULES 10.35), with D = 5. Here v is the cart's velocity, as in rule 10.30.
pub record PastEnd : Type 0 where
  -- A cart across the goal, 16 m, that goes on beyond it: v = (3, 4), at the goal after 2 s. Q: a = 16, b = 2 * (4 * -8) = -64, c = 64 - 25
  -- = 39, radicand 4,096 - 2,496 = 1,600, end (64 + 40) / 32 = 3.25. It is past the goal at x = 6 / 3 = 2. S about the goal: m = (-6,
  -- -8), a = 25, b = -100, c = 75, radicand 10,000 - 7,500 = 2,500, end (100 + 50) / 50 = 3, which is before: 3. So until 8 + 3 = 11 s.
  -- The agent is near its line where 0.8 * (16 - t) = 5, at 9.75. The cart is the faster one (10.15).
  pub goes_on_beyond : walked large (agent 16 0) (on (metres 10) (metres_back 8) 8) (on (metres 22) (metres 8) 12) ≡
      Of (hint (eighths 78) 11_000 ∷ [])
  pub goes_on_beyond_ranked : asked large (agent 16 0) (on (metres 10) (metres_back 8) 8) (on (metres 22) (metres 8) 12) ≡
      R.Of (ranked_at (lasting 1_250) (eighths 78) 11_000 ∷ [])
  -- One that comes from beyond it: v = (-3, 4), at the goal after 3 s, end 3 + 1.25, and no cut, since v . u is below 0: until 7 + 4.25 =
  -- 11.25 s. Oncoming: m = (-10, -8), c = 164 - 25 = 139, radicand 400 - 556, Nothing.
  pub comes_from_beyond : walked large (agent 16 0) (on (metres 25) (metres_back 12) 7) (on (metres 10) (metres 8) 12) ≡
      Of (hint (eighths 78) 11_250 ∷ [])

-- All of them.
pub record Worked : Type 0 where
  pub following : Following
  pub chases : Chases
  pub standing : Standing
  pub oncoming : Oncoming
  pub past_end : PastEnd
