-- What a search keeps from sweep to sweep in the list that it is lent, and what it leaves there (RULES 12.11 to 12.18).
-- Assumes nothing.
use Prim.Native.Nat.{ℕ, ◌+◌, ◌<◌, ◌≤◌}
use mathlib.Core.Path.{◌≡◌, refl, sym, ap, ◌∙◌}
use mathlib.Core.Bool.{true≢false}
use mathlib.Core.List.{List, [], ◌∷◌, ◌++◌}
use native.Mathlib.Numerals.{add-one}
use native.Mathlib.Omega.{arith}
use lib.IntN.{ℤ}
use lib.ListN.{length, take, set, length-append, length-set}
use lib.Seq.{take-suc-set}
use Rattle.times.specs.declared.time.TimePoint.{TimePoint}
use Rattle.arrival_search.specs.Search.{Searched, Answered, legs_in, watched_obstacles, turn}
use Rattle.arrival_search.specs.declared.turn.Turn.{Turn}
use Rattle.shapes.specs.declared.profile.CircularProfile.{CircularProfile}
use Rattle.shapes.specs.declared.waypoint.Waypoint.{Waypoint}
use Rattle.table.specs.Obstacle.{Obstacle}
use Rattle.arrival_legs.specs.Watched.{Watched, view_at, watched_all, arrivals_at}
use Rattle.arrival_times.proofs.Room.{table_few}
use Rattle.arrival_search.specs.declared.turn.Turn.TheVariants as T
use Rattle.arrival_search.proofs.Going.{Going, going_start, going_room, going_goes, going_lists_goes}
use Rattle.arrival_search.proofs.Going.{going_ends, going_lists, going_refused}
use Rattle.arrival_times.specs.Listing.{nanoseconds_of, arrival_counts, Stored}
use Rattle.std.specs.Prelude.{Result, Ok, Err}
use Rattle.refusals.specs.declared.Refusal.{Refusal}
use Rattle.arrival_times.specs.declared.listing.Arrivals.{Arrivals}

numbers_append : (l : List TimePoint) (c : TimePoint) → nanoseconds_of (l ++ (c ∷ [])) ≡ nanoseconds_of l ++ (c.0 ∷ [])
unfolding nanoseconds_of
numbers_append [] c = refl
numbers_append (t ∷ l) c = ap (λ ns. t.0 ∷ ns) (numbers_append l c)

-- A search that lists these times by so many sweeps.
stored_times : {answer : Searched} {times : List TimePoint} {n : ℕ} {lent left : List ℤ} →
    answer ≡ Answered times n → length left ≡ length lent →
    (length times ≤ length lent → take (length times) left ≡ nanoseconds_of times) →
    Stored answer lent left (Ok (record { listed = length times; sweeps = n }))
unfolding arrival_counts
stored_times {answer} {times} {n} {lent} {left} e long front =
    record { counts = rw e; long = long; front = all; ended = λ f. absurd (true≢false (cc (sym e ∙ f))) }
  where
    all : (l : List TimePoint) (m : ℕ) → answer ≡ Answered l m → length l ≤ length lent → take (length l) left ≡ nanoseconds_of l
    all l m f h = let same : times ≡ l = cc (sym e ∙ f) in rw (← same) (front (rw same h))

-- The search at a place, among these obstacles.
module _ (p : CircularProfile) (place : Waypoint) (os : List Obstacle) (lent : List ℤ) where
  abbrev legs : List (List Watched)
  legs = watched_all p os

  -- After n sweeps the search goes on at c, and as many times as it has listed stand at the front, where there is room for them. A
  -- sweep lists one time at most (RULES 12.14), and a sweep is left (RULES D3a).
  pub record Kept (c : TimePoint) (count n : ℕ) (list : List ℤ) : Type 0 where
    pub times : List TimePoint
    pub counted : length times ≡ count
    pub going : Going (view_at place) legs place.time c times n
    pub few : count ≤ n
    pub room : n < legs_in legs + watched_obstacles legs + 1
    pub long : length list ≡ length lent
    pub front : count ≤ length lent → take count list ≡ nanoseconds_of times

  kept : {c : TimePoint} {count n : ℕ} {list : List ℤ} (times : List TimePoint) → length times ≡ count →
      Going (view_at place) legs place.time c times n → length list ≡ length lent →
      (count ≤ length lent → take count list ≡ nanoseconds_of times) → Kept c count n list
  kept times counted going long front =
      record {
        times = times;
        counted = counted;
        going = going;
        few = (let few = going.fewer in omega arith);
        room = going_room going;
        long = long;
        front = front;
      }

  -- It begins at the time asked for, with nothing listed (RULES 12.3).
  pub kept_start : Kept place.time 0 0 lent
  unfolding nanoseconds_of
  kept_start = kept [] refl (going_start (view_at place) legs place.time) refl (λ h. refl)

module _ {p : CircularProfile} {place : Waypoint} {os : List Obstacle} {lent : List ℤ} {c : TimePoint} {count n : ℕ}
    {list : List ℤ} (k : Kept p place os lent c count n list) where
  abbrev turned : Result Turn Refusal
  turned = turn (view_at place) (watched_all p os) c

  abbrev stored : List ℤ → Result Arrivals Refusal → Type 0
  stored left r = Stored (arrivals_at p place os) lent left r

  -- The next sweep begins at t (RULES 12.12).
  pub kept_goes : {t : TimePoint} → turned ≡ Ok (T.Goes t) → Kept p place os lent t count (n + 1) list
  kept_goes e = kept p place os lent k.times k.counted (going_goes k.going e) k.long k.front

  longer : length (k.times ++ (c ∷ [])) ≡ count + 1
  longer = length-append k.times (c ∷ []) ∙ ap (λ m. m + 1) k.counted

  -- The list with c behind the times in it.
  one_more : count + 1 ≤ length lent → take (count + 1) (set list count c.0) ≡ nanoseconds_of (k.times ++ (c ∷ []))
  one_more h =
      let room : count < length list = omega (arith, k.long) in
      rw (add-one count, take-suc-set list count c.0 room, numbers_append k.times c, k.front (omega arith))

  -- So does the next after c is listed (RULES 12.14, 12.17).
  pub kept_lists_goes : {t : TimePoint} {left : List ℤ} → turned ≡ Ok (T.ListsGoes t) → left ≡ set list count c.0 →
      Kept p place os lent t (count + 1) (n + 1) left
  kept_lists_goes e put =
      kept p place os lent (k.times ++ (c ∷ [])) longer (going_lists_goes k.going e)
      (ap length put ∙ length-set list count c.0 ∙ k.long) (λ h. rw put (one_more h))

  -- The search leaves the list as it is (RULES 12.11),
  pub kept_ends : turned ≡ Ok T.Ends → stored list (Ok (record { listed = count; sweeps = n + 1 }))
  unfolding arrivals_at
  kept_ends e = rw (← k.counted) (stored_times (going_ends k.going e) k.long (rw k.counted k.front))

  -- or with c behind the times in it (RULES 12.14, 12.17),
  pub kept_lists : {left : List ℤ} → turned ≡ Ok T.Lists → left ≡ set list count c.0 →
      stored left (Ok (record { listed = count + 1; sweeps = n + 1 }))
  unfolding arrivals_at
  kept_lists e put =
      let long = ap length put ∙ length-set list count c.0 ∙ k.long in
      rw (← longer) (stored_times (going_lists k.going e) long (rw (longer, put) one_more))

  -- or is refused (RULES 12.13).
  pub kept_refused : {why : Refusal} {r : Result Arrivals Refusal} → turned ≡ Err why → r ≡ Err why → stored list r
  unfolding arrival_counts arrivals_at
  kept_refused e f =
      let refused = going_refused k.going e in
      record {
        counts = f ∙ rw refused;
        long = k.long;
        front = λ l m g h. absurd (true≢false (cc (sym refused ∙ g)));
        ended = λ g. absurd (true≢false (cc (sym refused ∙ g)));
      }

pub ruleset keeping = (kept_start, kept_goes, kept_lists_goes, table_few)
