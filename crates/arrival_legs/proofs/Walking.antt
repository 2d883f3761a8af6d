-- How the walks over an obstacle's legs go: a leg at a time, up to its last waypoint.
-- Assumes nothing.
use Prim.Native.Nat.{ℕ, zero, suc, ◌+◌, ◌-◌, ◌≤◌, ◌<◌}
use mathlib.Core.Path.{◌≡◌, refl, sym, ap, ◌∙◌}
use mathlib.Core.Bool.{Bool, true, false, cond, ◌&&◌}
use mathlib.Core.List.{List, [], ◌∷◌}
use native.Mathlib.Omega.{arith}
use lib.Signed.{lt_z}
use lib.Ieee.{Float}
use Rattle.lent.specs.Listed.{listed, listed_to}
use Rattle.lent.proofs.Listed.{listed_done, listed_next}
use Rattle.times.specs.declared.time.TimePoint.{TimePoint}
use Rattle.shapes.specs.declared.waypoint.Leg.{Leg}
use Rattle.shapes.specs.declared.waypoint.Waypoint.{Waypoint}
use Rattle.table.specs.Table.{waypoint_in}
use lib.IntN.{pos}
use Rattle.times.specs.Time.{instant_after, later_of}
use Rattle.times.specs.declared.time.Strayed.{Strayed}
use Rattle.refusals.specs.declared.Refusal.TheVariants as Refusals
use Rattle.arrival_search.specs.Legs.{left_at}
use Rattle.arrival_search.specs.Legs as S
use Rattle.arrival_search.specs.declared.turn.Adjustment.{Adjustment}
use Rattle.arrival_search.specs.Search.{View, looked, pushed_out, or_next, finish, last, says, exits}
use Rattle.arrival_search.specs.Search.{flee, look, adjust, next_at, next_in, next}
use Rattle.arrival_search.specs.declared.turn.Adjustment.TheVariants as A
use Rattle.arrival_legs.specs.Watched.{Watched, watched, watched_legs, ends_near, view_at}
use Rattle.arrival_legs.specs.Table.{ending_of}
use Rattle.arrival_legs.specs.Track.{tracked_from}
use Rattle.arrival_legs.specs.declared.track.Track.{Track}
use Rattle.std.specs.Prelude.{Result, Ok, Err}
use Rattle.refusals.specs.declared.Refusal.{Refusal}
use Rattle.std.specs.Prelude.{Option, Some, None}

-- ---- The legs from leg i on, up to the waypoint at `end`.

module _ (limit : Float) (f : ℕ → Leg) (end : ℕ) where
  abbrev legs_from : ℕ → List Watched
  legs_from i = watched_legs limit (listed_to f end i)

  watched_done : (i : ℕ) → end ≤ i → legs_from i ≡ []
  unfolding watched_legs
  watched_done i h = rw (listed_done f end i h)

  watched_next : (i : ℕ) → i < end → legs_from i ≡ watched limit (f i) ∷ legs_from (i + 1)
  unfolding watched_legs
  watched_next i h = rw (listed_next f end i h)

  module _ (v : View Watched) (c : TimePoint) (i : ℕ) where
    -- Violated: what the leg says decides, and the rest may be asked (RULES 12.8, 12.9).
    pub flee_next : (e : TimePoint) → i < end → flee v c e (legs_from i) ≡
        looked (exits v c (watched limit (f i))) (λ _. flee v c e (legs_from (i + 1))) (λ _. flee v c e (legs_from (i + 1)))
    unfolding flee
    flee_next e h = rw (watched_next i h)

    -- At the end the finish decides (RULES 12.10).
    pub flee_done : (e : TimePoint) → end ≤ i → flee v c e (legs_from i) ≡ cond (lt_z c.0 e.0) (Ok (A.Pushed e)) (Ok A.Lost)
    unfolding flee
    flee_done e h = rw (watched_done i h)

    -- Not violated: what the leg says decides, and the rest may be asked, for a violation or for an exit (RULES 12.7).
    pub look_next : (e : TimePoint) → i < end → look v c e (legs_from i) ≡
        looked (says v c (watched limit (f i))) (λ _. look v c e (legs_from (i + 1))) (λ _. flee v c e (legs_from (i + 1)))
    unfolding look
    look_next e h = rw (watched_next i h)

    -- At the end there was no violation.
    pub look_done : (e : TimePoint) → end ≤ i → look v c e (legs_from i) ≡ Ok A.Quiet
    unfolding look
    look_done e h = rw (watched_done i h)

    -- The candidate that may follow is what the leg gives, or what the rest does (RULES 12.15).
    pub next_next : (e : Result (Option TimePoint) Refusal) → i < end → next_in v c e (legs_from i) ≡
        or_next (next_at v c (watched limit (f i))) (λ _. next_in v c e (legs_from (i + 1)))
    unfolding next_in
    next_next e h = rw (watched_next i h)

    -- At the end it is what the finish gives (RULES 12.16).
    pub next_done : (e : Result (Option TimePoint) Refusal) → end ≤ i → next_in v c e (legs_from i) ≡ e
    unfolding next_in
    next_done e h = rw (watched_done i h)

    -- An obstacle without legs gives none.
    pub next_none : end ≤ i → next v c (legs_from i) ≡ Ok None
    unfolding next
    next_none h = rw (watched_done i h)

-- ---- An obstacle with the waypoints w finishes at the last of them.

-- The time of a track's last waypoint.
abbrev pub finish_in : Track → List ℕ → List Float → TimePoint
finish_in track marks places = (waypoint_in marks places track.last).time

module _ (g : Waypoint) (limit : Float) (w : ℕ → Waypoint) where
  abbrev leg : ℕ → Leg
  leg i = record { start = w i; end = w (i + 1) }

  -- The n legs after leg i.
  abbrev rest : ℕ → ℕ → List Watched
  rest n i = watched_legs limit (listed leg n (suc i))

  abbrev finish_from : ℕ → ℕ → TimePoint
  finish_from n i = finish (view_at g) (watched limit (leg i)) (rest n i)

  further : (n i : ℕ) → suc i + suc n ≡ i + suc (suc n)
  further n i = omega arith

  finish_is : (n i : ℕ) → finish_from n i ≡ (w (i + suc n)).time
  unfolding watched_legs listed
  finish_is zero i = refl
  finish_is (suc n) i = rw (further n i) at (finish_is n (suc i))

  -- The finish is the last waypoint's time, and the last leg ends at its place.
  ending_is : (c : TimePoint) (n i : ℕ) →
      let given : Result (Option TimePoint) Refusal = cond
      (lt_z c.0 (finish_from n i).0 && (view_at g).ends_near (last (view_at g) (watched limit (leg i)) (rest n i)))
      (Ok (Some (finish_from n i))) (Ok None) in
      given ≡ Ok (ending_of g limit (w (i + suc n)) c)
  unfolding watched_legs listed ending_of
  ending_is c zero i = by (lt_z c.0 (w (i + 1)).time.0 && ends_near g limit (w (i + 1)))
    where
      by : (b : Bool) → let given : Result (Option TimePoint) Refusal = cond b (Ok (Some (w (i + 1)).time)) (Ok None) in
          given ≡ Ok (cond b (Some (w (i + 1)).time) None)
      by true = refl
      by false = refl
  ending_is c (suc n) i = rw (further n i) at (ending_is c n (suc i))

  module _ (c : TimePoint) (end from : ℕ) where
    abbrev legs : ℕ → List Watched
    legs n = watched_legs limit (listed leg n from)

    -- The walk that takes the last waypoint's time for the finish is the obstacle's (RULES 12.5, 12.10).
    pub adjust_begins : look (view_at g) c (w end).time (legs (end - from)) ≡ adjust (view_at g) c (legs (end - from))
    unfolding look adjust watched_legs listed
    adjust_begins = by (end - from) refl
      where
        by : (n : ℕ) → end - from ≡ n → look (view_at g) c (w end).time (legs n) ≡ adjust (view_at g) c (legs n)
        by zero e = refl
        by (suc n) e =
            let same : from + suc n ≡ end = omega arith in
            let finishes : finish_from n from ≡ (w end).time = finish_is n from ∙ ap (λ k. (w k).time) same in
            ap (λ (t : TimePoint). look (view_at g) c t (legs (suc n))) (sym finishes)

    -- The walk that ends with what the last waypoint gives is the obstacle's (RULES 12.15, 12.16).
    pub next_begins : from < end →
        next_in (view_at g) c (Ok (ending_of g limit (w end) c)) (legs (end - from)) ≡ next (view_at g) c (legs (end - from))
    unfolding next_in next watched_legs listed
    next_begins h = by (end - from) refl
      where
        by : (n : ℕ) → end - from ≡ n →
            next_in (view_at g) c (Ok (ending_of g limit (w end) c)) (legs n) ≡ next (view_at g) c (legs n)
        by zero e = absurd (omega arith)
        by (suc n) e = let same : from + suc n ≡ end = omega arith in
            ap (λ (x : Result (Option TimePoint) Refusal). next_in (view_at g) c x (legs (suc n)))
            (ap (λ (k : ℕ). Ok (ending_of g limit (w k) c)) (sym same) ∙ sym (ending_is c n from))

-- So a track's walks begin as the definitions do.
module _ (place : Waypoint) (track : Track) (marks : List ℕ) (places : List Float) (c : TimePoint) where
  abbrev tracked : List Watched
  tracked = tracked_from track marks places track.first

  pub look_begins : look (view_at place) c (finish_in track marks places) tracked ≡ adjust (view_at place) c tracked
  look_begins = adjust_begins place track.limit (waypoint_in marks places) c track.last track.first

  pub following_begins : track.first < track.last →
      next_in (view_at place) c (Ok (ending_of place track.limit (waypoint_in marks places track.last) c)) tracked ≡
      next (view_at place) c tracked
  following_begins = next_begins place track.limit (waypoint_in marks places) c track.last track.first

-- An exit while violated: what it says is the answer, and no leg more is asked.
pub exit_relieves : (c exit : TimePoint) (go flee : Unit {0} → Result Adjustment Refusal) →
    let said = left_at c exit (instant_after exit (record { 0 = pos 10_000 })) in
    looked said go flee ≡ pushed_out c exit
unfolding pushed_out
exit_relieves c exit go flee = by (instant_after exit (record { 0 = pos 10_000 }))
  where
    tested : (b : Bool) →
        let said = cond b (S.Refused Refusals.Late) (S.Out (later_of exit c)) in
        looked said go flee ≡ looked said (λ _. Ok A.Lost) (λ _. Ok A.Lost)
    tested true = refl
    tested false = refl

    by : (at : Result TimePoint Strayed) →
        looked (left_at c exit at) go flee ≡ looked (left_at c exit at) (λ _. Ok A.Lost) (λ _. Ok A.Lost)
    by (Ok late) = tested (lt_z late.0 c.0)
    by (Err _) = refl

-- ---- What the walks cite.

pub ruleset fleeing = (flee_next, flee_done, exit_relieves)

pub ruleset looking = (look_begins, look_next, look_done)

pub ruleset following = (following_begins, next_next, next_done, next_none)
