-- All that the agent drives in a path by way of hints was tested and is safe (RULES 13.3, 13.10, 13.16, 13.23).
-- Assumes nothing.
use Prim.Native.Nat.{ℕ}
use mathlib.Core.Path.{◌≡◌, sym, ap}
use mathlib.Core.List.{List, [], ◌∷◌}
use Rattle.std.specs.Prelude.{Option}
use lib.ListN.{get_or}
use Rattle.times.specs.declared.time.Duration.{Duration}
use Rattle.shapes.specs.declared.waypoint.Waypoint.{Waypoint}
use Rattle.table.specs.Obstacle.{Obstacle}
use Rattle.hint_list.specs.declared.hint.WaitHint.{WaitHint}
use Rattle.hint_list.specs.Words.{blank_ranked}
use Rattle.hint_list.specs.declared.hint.RankedHint.{RankedHint}
use Rattle.path_search.specs.Answer.{Way}
use Rattle.path_tests.specs.Travel.{hint_waypoint}
use Rattle.path_tests.specs.declared.trip.Trip.{Trip}
use Rattle.path_chains.specs.Trying.{stop_in, to_parent, starts_at, reaches, chain_from}
use Rattle.path_actions.specs.Built.{Of, built, hints_at, unheld}
use Rattle.path_actions.specs.declared.action.SafeAction.{SafeAction}
use Rattle.plan_claims.specs.Driven.{stayed_till, SafeFrom}
use Rattle.plan_claims.proofs.Chain.{Leads, begun}
use Rattle.plan_claims.proofs.Parts.{Stop, SafeStop, stop, arrived, reached_there, end_passed, start_passed, goal_passed}
use Rattle.plan_claims.proofs.Searched.{safe_way}

module _ (trip : Trip) (os : List Obstacle) (hints : List RankedHint) where
  abbrev Safe : Waypoint → List SafeAction → Type 0
  Safe = SafeFrom trip os

  abbrev hint_at : ℕ → WaitHint
  hint_at i = (get_or hints i blank_ranked).hint

  -- A stop of the path, and what is driven behind it.
  safe_stop : {from : Waypoint} {h : WaitHint} {hs : List WaitHint} {actions : List SafeAction} {hold : Duration} →
      (s : Stop trip from h hs actions hold) → SafeStop trip os from s.arrival h → Safe (hint_waypoint h) s.rest →
      Safe from actions
  unfolding hint_waypoint
  safe_stop {from} {h} s safe rest =
      let stands : hint_waypoint h ≡ stayed_till s.arrival h.until =
      ap (λ (v : Waypoint). stayed_till v h.until) (sym (reached_there trip.speed from h.place s.reached)) in
      rw s.same (safe.way, (rw stands at safe.wait, rw stands at rest))

  -- From a hint by way of others to the goal.
  safe_behind : (i : ℕ) (l : List ℕ) (start : Duration) {actions : List SafeAction} {hold : Duration} →
      Leads (to_parent trip os hints) (starts_at trip os hints) (reaches hints) i l →
      built trip (stop_in hints i) start (hints_at hints l) ≡ Of actions hold → Safe (stop_in hints i) actions
  unfolding hints_at to_parent stop_in
  safe_behind i [] start goal made =
      let a = arrived trip (stop_in hints i) start made in
      rw a.same (goal_passed trip os (stop_in hints i) goal a.reached)
  safe_behind i (j ∷ l) start leads made =
      let s = stop trip (stop_in hints i) start (hint_at j) (hints_at hints l) made in
      safe_stop s (end_passed trip os (stop_in hints i) (hint_at j) leads.0 s.reached)
      (safe_behind j l s.sum leads.1 s.behind)

  -- From the start along a chain that was found.
  pub driven : (budget : ℕ) (first : Option ℕ) {links : List ℕ} {pops : ℕ} {actions : List SafeAction} {hold : Duration} →
      chain_from trip os hints budget first ≡ Way links pops →
      built trip trip.leg.start unheld (hints_at hints links) ≡ Of actions hold →
      SafeFrom trip os trip.leg.start actions
  unfolding chain_from hints_at starts_at stop_in
  driven budget first {links} {pops} found made =
      let b = begun (to_parent trip os hints) (starts_at trip os hints) (reaches hints)
      (safe_way trip os hints budget first found) in
      let h : WaitHint = hint_at b.first in
      let s = stop trip trip.leg.start unheld h (hints_at hints b.rest) (rw b.links at made) in
      safe_stop s (start_passed trip os h b.started s.reached).safe
      (safe_behind b.first b.rest s.sum b.leads s.behind)
