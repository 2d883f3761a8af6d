-- The search for safe arrival times (RULES, section 12). An obstacle is the list of its legs, empty without a trajectory.
-- Assumes nothing.
use Rattle.std.specs.Prelude.{ℕ, zero, suc, ◌+◌, Bool, true, false, cond, ◌&&◌, List, [], ◌∷◌, ◌++◌, pos, length}
use Rattle.std.specs.Int.Signed.{lt_z}
use Rattle.times.specs.Time.{instant_after}
use Rattle.times.specs.declared.time.TimePoint.{TimePoint}
use Rattle.proximity.specs.declared.detect.Proximity.{Proximity}
use Rattle.arrival_search.specs.Legs.{Says, meets, left_at, relieved, follows, sooner}
use Rattle.arrival_search.specs.Legs as S
use Rattle.arrival_search.specs.declared.turn.Adjustment.{Adjustment}
use Rattle.arrival_search.specs.declared.turn.Adjustment.TheVariants as A
use Rattle.arrival_search.specs.declared.turn.Swept.{Swept}
use Rattle.arrival_search.specs.declared.turn.Swept.TheVariants as W
use Rattle.arrival_search.specs.declared.turn.Turn.{Turn}
use Rattle.arrival_search.specs.declared.turn.Turn.TheVariants as T
use Rattle.std.specs.Prelude.{Result, Ok, Err}
use Rattle.refusals.specs.declared.Refusal.{Refusal}
use Rattle.std.specs.Prelude.{Option, Some, None}
use Rattle.refusals.specs.declared.Refusal.TheVariants as Refusals

-- What is asked of a leg: when it begins and ends, how near it comes to the place (RULES 12.2), and whether it ends within the
-- limit (RULES 12.16).
pub record View (Leg : Type 0) : Type 0 where
  pub start : Leg → TimePoint
  pub end : Leg → TimePoint
  pub near : Leg → Result Proximity Refusal
  pub ends_near : Leg → Bool

-- The list and the count of sweeps, or a refusal. `Unfinished` is never the answer: `finished` of proofs/Theorems.
pub data Searched : Type 0 where
  Answered : List TimePoint → ℕ → Searched
  Refused : Refusal → Searched
  Unfinished : Searched

-- ---- Going on. What comes next is handed over as a function, so that a definition computes no more than it needs.

-- With the next leg, or with the search for an exit.
abbrev pub looked : Says → (Unit {0} → Result Adjustment Refusal) → (Unit {0} → Result Adjustment Refusal) →
    Result Adjustment Refusal
looked S.Pass go flee = go tt
looked S.Clear go flee = Ok A.Quiet
looked S.Held go flee = flee tt
looked (S.Out t) go flee = Ok (A.Pushed t)
looked (S.Refused why) go flee = Err why

-- With no leg more, once an exit is found while violated: what it says is the obstacle's answer (RULES 12.9).
unfoldable pub pushed_out : TimePoint → TimePoint → Result Adjustment Refusal
pushed_out c exit = looked (left_at c exit (instant_after exit (record { 0 = pos 10_000 }))) (λ _. (Ok A.Lost)) (λ _. (Ok A.Lost))

abbrev pub or_next : Result (Option TimePoint) Refusal → (Unit {0} → Result (Option TimePoint) Refusal) →
    Result (Option TimePoint) Refusal
or_next (Ok None) go = go tt
or_next (Ok (Some t)) go = Ok (Some t)
or_next (Err why) go = Err why

-- With the next obstacle, the best so far in hand.
abbrev pub found : Result (Option TimePoint) Refusal → Result (Option TimePoint) Refusal →
    (Result (Option TimePoint) Refusal → Result (Option TimePoint) Refusal) → Result (Option TimePoint) Refusal
found (Ok None) best go = go best
found (Ok (Some t)) best go = go (sooner t best)
found (Err why) best go = Err why

-- With the next obstacle, at the candidate that this one leaves.
abbrev pub swept : Result Adjustment Refusal → TimePoint → Bool → (TimePoint → Bool → Result Swept Refusal) → Result Swept Refusal
swept (Ok A.Quiet) c pushed go = go c pushed
swept (Ok (A.Pushed t)) c pushed go = go t true
swept (Ok A.Lost) c pushed go = Ok W.Lost
swept (Err why) c pushed go = Err why

-- A quiet sweep lists its candidate (RULES 12.14, 12.17).
abbrev pub lists_quiet : Result (Option TimePoint) Refusal → Result Turn Refusal
lists_quiet (Ok None) = Ok T.Lists
lists_quiet (Ok (Some t)) = Ok (T.ListsGoes t)
lists_quiet (Err why) = Err why

-- A push with no result ends the search; a whole sweep of pushes that leaves the candidate where it was is stuck
-- (RULES 12.11 to 12.14).
abbrev pub turned : Result Swept Refusal → TimePoint → (Unit {0} → Result (Option TimePoint) Refusal) → Result Turn Refusal
turned (Ok W.Still) c next = lists_quiet (next tt)
turned (Ok (W.Moved t)) c next = cond (lt_z c.0 t.0) (Ok (T.Goes t)) (cond (lt_z t.0 c.0) (Ok (T.Goes t)) (Err Refusals.Stuck))
turned (Ok W.Lost) c next = Ok T.Ends
turned (Err why) c next = Err why

-- The sweep is counted, and its candidate listed where it was quiet (RULES 12.11, 12.14, 12.18).
abbrev pub gone : Result Turn Refusal → TimePoint → List TimePoint → ℕ → (TimePoint → List TimePoint → ℕ → Searched) → Searched
gone (Ok T.Ends) c l n go = Answered l (suc n)
gone (Ok T.Lists) c l n go = Answered (l ++ (c ∷ [])) (suc n)
gone (Ok (T.Goes t)) c l n go = go t l (suc n)
gone (Ok (T.ListsGoes t)) c l n go = go t (l ++ (c ∷ [])) (suc n)
gone (Err why) c l n go = Refused why

-- ---- How many there are (RULES 12.19).

-- L: the legs of all obstacles.
unfoldable pub legs_in : {Leg : Type 0} → List (List Leg) → ℕ
legs_in [] = 0
legs_in (o ∷ os) = length o + legs_in os

-- O: the obstacles with a trajectory.
unfoldable pub watched_obstacles : {Leg : Type 0} → List (List Leg) → ℕ
watched_obstacles [] = 0
watched_obstacles ([] ∷ os) = watched_obstacles os
watched_obstacles ((l ∷ ls) ∷ os) = suc (watched_obstacles os)

module _ {Leg : Type 0} (v : View Leg) where
  -- The time of the last waypoint, and the leg that ends there.
  abbrev pub finish : Leg → List Leg → TimePoint
  finish l [] = v.end l
  finish l (m ∷ ls) = finish m ls

  abbrev pub last : Leg → List Leg → Leg
  last l [] = l
  last l (m ∷ ls) = last m ls

  -- A leg that ends before the candidate is not among those of `iter_from`; one that starts after it ends the walk
  -- (RULES 2.6, 12.5 to 12.7).
  abbrev pub says : TimePoint → Leg → Says
  says c l = cond (lt_z (v.end l).0 c.0) S.Pass (cond (lt_z c.0 (v.start l).0) S.Clear (meets c (v.near l)))

  -- While violated the start plays no part (RULES 12.8).
  abbrev pub exits : TimePoint → Leg → Says
  exits c l = cond (lt_z (v.end l).0 c.0) S.Pass (relieved c (v.near l))

  -- Violated: the first exit in the legs that follow, else the finish f where it is after the candidate (RULES 12.8 to 12.10).
  unfoldable pub flee : TimePoint → TimePoint → List Leg → Result Adjustment Refusal
  flee c f [] = cond (lt_z c.0 f.0) (Ok (A.Pushed f)) (Ok A.Lost)
  flee c f (l ∷ ls) = looked (exits c l) (λ _. flee c f ls) (λ _. flee c f ls)

  unfoldable pub look : TimePoint → TimePoint → List Leg → Result Adjustment Refusal
  look c f [] = Ok A.Quiet
  look c f (l ∷ ls) = looked (says c l) (λ _. look c f ls) (λ _. flee c f ls)

  -- `adjust_candidate_time`, for one obstacle (RULES 12.5).
  unfoldable pub adjust : TimePoint → List Leg → Result Adjustment Refusal
  adjust c [] = Ok A.Quiet
  adjust c (l ∷ ls) = look c (finish l ls) (l ∷ ls)

  abbrev pub next_at : TimePoint → Leg → Result (Option TimePoint) Refusal
  next_at p l = cond (lt_z (v.end l).0 p.0) (Ok None) (follows p (v.near l))

  unfoldable pub next_in : TimePoint → Result (Option TimePoint) Refusal → List Leg → Result (Option TimePoint) Refusal
  next_in p end [] = end
  next_in p end (l ∷ ls) = or_next (next_at p l) (λ _. next_in p end ls)

  -- `find_next_candidate_time`: the first exit after p, else the finish, where it is after p and the obstacle ends near
  -- (RULES 12.15, 12.16).
  unfoldable pub next : TimePoint → List Leg → Result (Option TimePoint) Refusal
  next p [] = Ok None
  next p (l ∷ ls) =
      let f = finish l ls in
      next_in p (cond (lt_z p.0 f.0 && v.ends_near (last l ls)) (Ok (Some f)) (Ok None)) (l ∷ ls)

  -- The smallest over the obstacles, in order (RULES 12.17).
  unfoldable pub soonest : TimePoint → Result (Option TimePoint) Refusal → List (List Leg) → Result (Option TimePoint) Refusal
  soonest p best [] = best
  soonest p best (o ∷ os) = found (next p o) best (λ t. soonest p t os)

  -- A sweep takes a candidate through all obstacles in order (RULES 12.4).
  unfoldable pub sweep : TimePoint → Bool → List (List Leg) → Result Swept Refusal
  sweep c pushed [] = cond pushed (Ok (W.Moved c)) (Ok W.Still)
  sweep c pushed (o ∷ os) = swept (adjust c o) c pushed (λ t p. sweep t p os)

  -- A sweep from the candidate c, and what follows it.
  unfoldable pub turn : List (List Leg) → TimePoint → Result Turn Refusal
  turn os c = turned (sweep c false os) c (λ _. soonest c (Ok None) os)

  -- At most k sweeps more, with the list and the sweeps so far.
  unfoldable pub search : List (List Leg) → ℕ → TimePoint → List TimePoint → ℕ → Searched
  search os zero c l n = Unfinished
  search os (suc k) c l n = gone (turn os c) c l n (search os k)

  -- The safe arrival times from the time asked for on (RULES 12.3, 12.18). The bound is demand 3's own, L + O + 1, and never met.
  unfoldable pub arrivals : List (List Leg) → TimePoint → Searched
  arrivals os asked = search os (legs_in os + watched_obstacles os + 1) asked [] 0
