-- How many actions are built: two for each hint, and the last move (RULES 13.23).
-- Assumes nothing.
use Prim.Native.Nat.{ℕ, ◌+◌, ◌*◌}
use mathlib.Core.Path.{◌≡◌, refl}
use mathlib.Core.List.{List, [], ◌∷◌, map}
use native.Mathlib.Omega.{arith}
use lib.ListN.{length, get_or, length-append, length-map}
use Rattle.times.specs.Time.{with_span}
use Rattle.times.specs.declared.time.Duration.{Duration}
use Rattle.shapes.specs.Leg.{place_of}
use Rattle.shapes.specs.declared.waypoint.Waypoint.{Waypoint}
use Rattle.hint_list.specs.declared.hint.WaitHint.{WaitHint}
use Rattle.hint_list.specs.Words.{blank_ranked}
use Rattle.hint_list.specs.declared.hint.RankedHint.{RankedHint}
use Rattle.path_tests.specs.Travel.{hint_waypoint, reached_from, with_reached}
use Rattle.path_tests.specs.declared.trip.Trip.{Trip}
use Rattle.path_actions.specs.Built.{Built, Of, Refused, in_front, and_on}
use Rattle.path_actions.specs.Built.{hold_after, stopped, ended, built, hints_at, unheld}
use Rattle.path_actions.specs.declared.action.SafeAction.{SafeAction}
use Rattle.std.specs.Prelude.{Result, Ok, Err}
use Rattle.times.specs.Time.{strayed}
use Rattle.times.specs.declared.time.Strayed.{Strayed}
use Rattle.refusals.specs.declared.Refusal.{Refusal}
use Rattle.refusals.specs.declared.Refusal.TheVariants as Refusals

-- So many actions, where it is no refusal.
abbrev pub Counts : ℕ → Built → Type 0
Counts n (Of actions hold) = length actions ≡ n
Counts n (Refused k) = Unit {0}

reaching_counts : (n : ℕ) (r : Result Waypoint Refusal) (go : Waypoint → Built) →
    ((w : Waypoint) → Counts n (go w)) → Counts n (with_reached Refused r go)
reaching_counts n (Ok w) go h = h w
reaching_counts n (Err k) go h = tt

spanning_counts : (n : ℕ) (s : Result Duration Strayed) (go : Duration → Built) →
    ((d : Duration) → Counts n (go d)) → Counts n (with_span (Refused Refusals.Strayed) s go)
spanning_counts n (Ok d) go h = h d
spanning_counts n (Err _) go h = tt

before_counts : (done : List SafeAction) (n : ℕ) (b : Built) → Counts n b → Counts (length done + n) (in_front done b)
before_counts done n (Of actions hold) h = omega (arith, length-append done actions)
before_counts done n (Refused k) h = tt

on_counts : (n m : ℕ) (b : Built) (go : Duration → Built) →
    Counts n b → ((d : Duration) → Counts m (go d)) → Counts (n + m) (and_on b go)
on_counts n m (Of actions hold) go h g = rw (← h) (before_counts actions m (go hold) (g hold))
on_counts n m (Refused k) go h g = tt

pub stopped_counts : (trip : Trip) (from : Waypoint) (h : WaitHint) (hold : Duration) →
    Counts 2 (stopped trip from h hold)
unfolding stopped
stopped_counts trip from h hold =
    reaching_counts 2 (reached_from trip.speed from h.place) _ (λ w.
    spanning_counts 2 (hold_after hold w.time h.until) _ (λ sum. refl))

ended_counts : (trip : Trip) (from : Waypoint) (hold : Duration) → Counts 1 (ended trip from hold)
unfolding ended
ended_counts trip from hold = reaching_counts 1 (reached_from trip.speed from (place_of trip.leg.end)) _ (λ w. refl)

built_counts : (trip : Trip) (from : Waypoint) (hold : Duration) (hints : List WaitHint) →
    Counts (2 * length hints + 1) (built trip from hold hints)
unfolding built
built_counts trip from hold [] = ended_counts trip from hold
built_counts trip from hold (h ∷ hs) =
    let next : Duration → Built = λ sum. built trip (hint_waypoint h) sum hs in
    let all : 2 + (2 * length hs + 1) ≡ 2 * length (h ∷ hs) + 1 = omega arith in
    rw (← all)
    (on_counts 2 (2 * length hs + 1) (stopped trip from h hold) next (stopped_counts trip from h hold)
    (λ sum. built_counts trip (hint_waypoint h) sum hs))

-- Along a chain.
pub chain_counts : (trip : Trip) (hints : List RankedHint) (links : List ℕ) →
    Counts (2 * length links + 1) (built trip trip.leg.start unheld (hints_at hints links))
unfolding hints_at
chain_counts trip hints links =
    let stops : List WaitHint = map (λ i. (get_or hints i blank_ranked).hint) links in
    let same : length stops ≡ length links = length-map links (λ i. (get_or hints i blank_ranked).hint) in
    rw (← same) (built_counts trip trip.leg.start unheld stops)
