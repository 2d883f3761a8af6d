-- The search as a loop: what it keeps from sweep to sweep, that a sweep is always left, and what each turn makes of it.
-- Assumes nothing.
use mathlib.Core.Path.{◌≡◌, sym}
use mathlib.Core.List.{List, [], ◌∷◌, ◌++◌}
use Prim.Native.Nat.{ℕ, zero, suc, ◌+◌, ◌-◌, ◌≤◌, ◌<◌}
use native.Mathlib.Numerals.{add-one}
use native.Mathlib.Nat.{sub-zero}
use native.Mathlib.Omega.{arith}
use lib.ListN.{length, length-append}
use Rattle.times.specs.declared.time.TimePoint.{TimePoint}
use Rattle.arrival_search.specs.Search.{View, Answered, Refused, gone, turn, search, arrivals, legs_in, watched_obstacles}
use Rattle.arrival_search.specs.declared.turn.Turn.TheVariants as T
use Rattle.arrival_search.proofs.Theorems.{finished}
use Rattle.std.specs.Prelude.{Ok, Err}
use Rattle.refusals.specs.declared.Refusal.{Refusal}

module _ {Leg : Type 0} (v : View Leg) (os : List (List Leg)) (asked : TimePoint) where
  -- After n sweeps, which listed l, the search from c on gives the answer; a sweep lists one time at most (RULES 12.14).
  pub record Going (c : TimePoint) (l : List TimePoint) (n : ℕ) : Type 0 where
    pub rest : search v os (legs_in os + watched_obstacles os + 1 - n) c l n ≡ arrivals v os asked
    pub fewer : length l ≤ n

  -- It begins at the time asked for (RULES 12.3).
  pub going_start : Going asked [] 0
  unfolding arrivals
  going_start = record { rest = rw (sub-zero (legs_in os + watched_obstacles os + 1)); fewer = omega arith }

module _ {Leg : Type 0} {v : View Leg} {os : List (List Leg)} {asked c : TimePoint} {l : List TimePoint} {n : ℕ}
    (g : Going v os asked c l n) where
  some_left : (k : ℕ) → search v os k c l n ≡ arrivals v os asked → 0 < k
  unfolding search
  some_left zero e = absurd (finished v os asked (sym e))
  some_left (suc k) e = omega arith

  -- A sweep is left, since the search is finished within L + O + 1 (RULES D3a).
  pub going_room : n < legs_in os + watched_obstacles os + 1
  going_room = let h = some_left (legs_in os + watched_obstacles os + 1 - n) g.rest in omega arith

  turned_by : gone (turn v os c) c l n (search v os (legs_in os + watched_obstacles os + 1 - (n + 1))) ≡ arrivals v os asked
  unfolding search
  turned_by =
      let h = going_room in
      let z : legs_in os + watched_obstacles os + 1 - n ≡ suc (legs_in os + watched_obstacles os + 1 - (n + 1)) = omega arith in
      rw z at g.rest

  -- The next sweep begins at t (RULES 12.12).
  pub going_goes : {t : TimePoint} → turn v os c ≡ Ok (T.Goes t) → Going v os asked t l (n + 1)
  going_goes e = record { rest = rw (← add-one n) at (rw e at turned_by); fewer = (let f = g.fewer in omega arith) }

  -- So does the next after c is listed (RULES 12.14, 12.17).
  pub going_lists_goes : {t : TimePoint} → turn v os c ≡ Ok (T.ListsGoes t) → Going v os asked t (l ++ (c ∷ [])) (n + 1)
  going_lists_goes e =
      let longer = length-append l (c ∷ []) in
      record { rest = rw (← add-one n) at (rw e at turned_by); fewer = (let f = g.fewer in omega arith) }

  -- The answer is the list so far (RULES 12.11),
  pub going_ends : turn v os c ≡ (Ok T.Ends) → arrivals v os asked ≡ Answered l (n + 1)
  going_ends e = sym (rw (← add-one n) at (rw e at turned_by))

  -- or with c behind it (RULES 12.14, 12.17),
  pub going_lists : turn v os c ≡ (Ok T.Lists) → arrivals v os asked ≡ Answered (l ++ (c ∷ [])) (n + 1)
  going_lists e = sym (rw (← add-one n) at (rw e at turned_by))

  -- or the refusal (RULES 12.13).
  pub going_refused : {why : Refusal} → turn v os c ≡ Err why → arrivals v os asked ≡ Refused why
  going_refused e = sym (rw e at turned_by)
