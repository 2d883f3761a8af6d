-- What is claimed of every plan holds of every call (RULES 13.1, 13.4 to 13.6, 13.20 to 13.24).
-- Assumes nothing.
use Prim.Native.Nat.{ℕ, ◌≤◌}
use mathlib.Core.Path.{◌≡◌, sym, ◌∙◌}
use mathlib.Core.Bool.{false}
use mathlib.Core.List.{List, Memᴰ}
use native.Mathlib.Omega.{arith}
use Rattle.times.specs.declared.time.TimePoint.{TimePoint}
use Rattle.shapes.specs.Leg.{is_brief}
use Rattle.shapes.specs.declared.profile.CircularProfile.{CircularProfile}
use Rattle.shapes.specs.declared.waypoint.Leg.{Leg}
use Rattle.table.specs.Examined.{agent_examined}
use Rattle.table.specs.Lent.{Lent, obstacles_of}
use Rattle.table.specs.Obstacle.{Obstacle}
use Rattle.hint_list.specs.declared.hint.RankedHint.{RankedHint}
use Rattle.arrival_search.specs.Search as A
use Rattle.arrival_search.specs.Sweeps.{Rising}
use Rattle.arrival_search.proofs.Lists.{all_map, all_members}
use Rattle.arrival_search.proofs.Theorems as Theorems
use Rattle.arrival_legs.specs.Watched.{view_at, watched_all, arrivals_at}
use Rattle.path_tests.specs.declared.trip.Trip.{Trip}
use Rattle.plan_model.specs.Plan.{Path, trip_of}
use Rattle.plan_model.specs.Plan.{plan_of}
use Rattle.plan_claims.specs.Origin as O
use Rattle.plan_claims.specs.Origin.{Origin}
use Rattle.plan_claims.specs.Whole.{InTurn, Sound, direct, waiting, Long, Whole}
use Rattle.plan_claims.proofs.Calls.{hints_alone, arrivals_alone}
use Rattle.plan_claims.proofs.Driven.{driven}
use Rattle.plan_claims.proofs.FirstArrival.{first_arrival}
use Rattle.plan_claims.proofs.InTurn.{Given, in_turn, few, all_arrivals, rise, all_given}
use Rattle.plan_claims.proofs.Made.{Made, made, examined}
use Rattle.plan_claims.proofs.Origin.{origin}
use Rattle.plan_claims.proofs.Searched.{few_pops}
use Rattle.std.specs.Prelude.{Ok}

-- ---- One path.

module _ (trip : Trip) (os : List Obstacle) (hints : List RankedHint) (budget : ℕ) (q : Path) where
  pub path_pops : Given trip os hints budget q → q.pops ≤ budget
  path_pops e = by (origin trip os hints budget q.arrival e)
    where
      by : Origin trip os hints budget q.arrival q.actions q.pops q.hold → q.pops ≤ budget
      by (O.direct passed actions pops hold) = omega arith
      by (O.along first links blocked found made) = rw found at (few_pops trip os hints budget first)

  pub path_sound : Given trip os hints budget q → Sound trip os q
  path_sound e = by (origin trip os hints budget q.arrival e)
    where
      by : Origin trip os hints budget q.arrival q.actions q.pops q.hold → Sound trip os q
      by (O.direct passed actions pops hold) = direct passed actions pops hold
      by (O.along first links blocked found made) =
          waiting (driven trip os hints budget first found made)
          (λ w obstacle end rest same. first_arrival trip os hints budget q.arrival (rw same at e))

-- ---- A whole plan.

-- The times that the search lists rise (RULES D3b).
times_rise : (p : CircularProfile) (agent : Leg) (os : List Obstacle) {list : List TimePoint} {sweeps : ℕ} →
    arrivals_at p agent.end os ≡ A.Answered list sweeps → Rising list
unfolding arrivals_at
times_rise p agent os = Theorems.rising (view_at agent.end) (watched_all p os) agent.end.time

module _ (p : CircularProfile) (agent : Leg) (budget : ℕ) (lent : Lent) where
  long_claims : {hints times sweeps : ℕ} {ps : List Path} → is_brief agent ≡ false → agent_examined p agent lent ≡ (Ok tt) →
      Made p agent budget (obstacles_of lent) hints times sweeps ps → Long p agent budget lent hints times sweeps ps
  long_claims {ps = ps} lasts fine m =
      let os = obstacles_of lent in
      let trip : Trip = trip_of p agent m.scale in
      let hints : List RankedHint = m.found in
      let turn : InTurn trip os hints budget m.list ps = in_turn trip os hints budget m.list ps m.paths in
      let given = all_given trip os hints budget turn in
      record {
        scale = m.scale;
        line = m.line;
        found = hints;
        hinted = hints_alone p agent lent fine lasts ∙ m.unrefused;
        hint_count = m.hint_count;
        list = m.list;
        arrivals = arrivals_alone p agent lent fine ∙ m.arrivals;
        time_count = m.time_count;
        in_turn = turn;
        few_paths = omega (arith, few trip os hints budget turn, m.time_count);
        listed =
            all_arrivals trip os hints budget (λ t. Memᴰ t m.list) turn
            (all_members (λ t. Memᴰ t m.list) m.list (λ t there. there));
        rising = rise trip os hints budget turn (times_rise p agent os m.arrivals);
        few_pops = all_map (Given trip os hints budget) (λ q. q.pops ≤ budget) (path_pops trip os hints budget) ps given;
        sound = all_map (Given trip os hints budget) (Sound trip os) (path_sound trip os hints budget) ps given;
      }

  pub whole : Whole p agent budget lent
  unfolding plan_of
  whole =
      record {
        short = λ brief e. sym (rw brief at (examined p agent budget lent e).1);
        long = λ lasts e.
            let x = examined p agent budget lent e in
            long_claims lasts x.0 (made p agent budget (obstacles_of lent) (rw lasts at x.1));
      }
