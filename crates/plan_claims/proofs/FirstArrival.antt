-- In a path by way of hints the first arrival is not after the end of its wait (RULES 13.24).
-- Assumes nothing.
use Prim.Native.Nat.{ℕ}
use mathlib.Core.Path.{◌≡◌}
use mathlib.Core.Bool.{true≢false}
use mathlib.Core.List.{List, ◌∷◌}
use Rattle.std.specs.Prelude.{Option}
use lib.ListN.{get_or}
use lib.Signed.{◌≤ℤ◌, lt_z_no}
use Rattle.floats.proofs.Tests.{failed}
use Rattle.times.specs.declared.time.Duration.{Duration}
use Rattle.times.specs.declared.time.TimePoint.{TimePoint}
use Rattle.shapes.specs.declared.waypoint.Waypoint.{Waypoint}
use Rattle.table.specs.Obstacle.{Obstacle}
use Rattle.hint_list.specs.declared.hint.WaitHint.{WaitHint}
use Rattle.hint_list.specs.Words.{blank_ranked}
use Rattle.hint_list.specs.declared.hint.RankedHint.{RankedHint}
use Rattle.path_search.specs.Answer.{Way}
use Rattle.path_tests.specs.declared.trip.Trip.{Trip}
use Rattle.path_chains.specs.Trying.{stop_in, to_parent, starts_at, reaches, chain_from}
use Rattle.path_actions.specs.Built.{Of, built, hints_at, unheld}
use Rattle.path_actions.specs.declared.action.SafeAction.{SafeAction}
use Rattle.path_actions.specs.declared.action.SafeAction.TheVariants.{Move, Wait}
use Rattle.one_path.specs.Path.{Path, path_for}
use Rattle.plan_claims.specs.Origin.{Origin, direct, along}
use Rattle.plan_claims.proofs.Chain.{begun}
use Rattle.plan_claims.proofs.Origin.{origin}
use Rattle.plan_claims.proofs.Parts.{stop, start_passed}
use Rattle.plan_claims.proofs.Searched.{safe_way}

module _ (trip : Trip) (os : List Obstacle) (hints : List RankedHint) (budget : ℕ)
    {w : Waypoint} {obstacle : ℕ} {end : TimePoint} {rest : List SafeAction} where
  along_chain : {hold : Duration} {pops : ℕ} (first : Option ℕ) (links : List ℕ) →
      chain_from trip os hints budget first ≡ Way links pops →
      built trip trip.leg.start unheld (hints_at hints links) ≡
      Of (Move w ∷ (Wait obstacle end ∷ rest)) hold →
      w.time.0 ≤ℤ end.0
  unfolding hints_at starts_at stop_in
  along_chain {hold} first links found made =
      let b = begun (to_parent trip os hints) (starts_at trip os hints) (reaches hints)
      (safe_way trip os hints budget first found) in
      let h : WaitHint = (get_or hints b.first blank_ranked).hint in
      let s = stop trip trip.leg.start unheld h (hints_at hints b.rest) (rw b.links at made) in
      let reached : s.arrival ≡ w = cc s.same in
      let until : h.until ≡ end = cc s.same in
      let in_time : s.arrival.time.0 ≤ℤ h.until.0 =
      lt_z_no (failed (start_passed trip os h b.started s.reached).in_time) in
      rw (reached, until) at in_time

  pub first_arrival : (arrival : TimePoint) {pops : ℕ} {hold : Duration} →
      path_for trip os hints budget arrival ≡ Path (Move w ∷ (Wait obstacle end ∷ rest)) pops hold → w.time.0 ≤ℤ end.0
  first_arrival arrival e = by (origin trip os hints budget arrival e)
    where
      by : {pops : ℕ} {hold : Duration} →
          Origin trip os hints budget arrival (Move w ∷ (Wait obstacle end ∷ rest)) pops hold → w.time.0 ≤ℤ end.0
      by (direct passed actions pops hold) = absurd (true≢false (cc actions))
      by (along first links blocked found made) = along_chain first links found made
