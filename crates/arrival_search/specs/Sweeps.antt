-- The sequence of sweeps with no bound on its length: what demand 3 is stated by (RULES D3a to D3e).
-- Assumes nothing.
use Rattle.std.specs.Prelude.{ℕ, zero, suc, ◌<◌, ◌≡◌, ◌≢◌, ◌⊎◌, pos, ◌<ℤ◌, ◌≤ℤ◌}
use mathlib.Core.List.{List, [], ◌∷◌, ◌++◌, Memᴰ}
use Rattle.times.specs.Time.{instant_after}
use Rattle.times.specs.declared.time.TimePoint.{TimePoint}
use Rattle.proximity.specs.declared.detect.Proximity.{Proximity}
use Rattle.proximity.specs.declared.detect.Proximity.TheVariants as P
use Rattle.arrival_search.specs.Search.{View, finish, adjust, soonest}
use Rattle.arrival_search.specs.declared.turn.Adjustment.TheVariants as A
use Rattle.std.specs.Prelude.{Result, Ok, Err}
use Rattle.times.specs.Time.{strayed}
use Rattle.refusals.specs.declared.Refusal.{Refusal}
use Rattle.std.specs.Prelude.{Some, None}
use Rattle.refusals.specs.declared.Refusal.TheVariants as Refusals
use Rattle.refusals.specs.Names.{refusal_number}

-- ---- Lists of instants.

abbrev pub All : {A : Type 0} → (A → Type 0) → List A → Type 0
All P [] = Unit {0}
All P (x ∷ xs) = P x × All P xs

-- Each is before all that follow it (RULES D3b).
abbrev pub Rising : List TimePoint → Type 0
Rising [] = Unit {0}
Rising (t ∷ ts) = All (λ u. t.0 <ℤ u.0) ts × Rising ts

-- The exit of a proximity, where it has one.
abbrev pub exit_of : Result Proximity Refusal → List TimePoint
exit_of (Ok (P.Passes enter exit)) = exit ∷ []
exit_of (Ok P.Never) = []
exit_of (Ok (P.Enters enter)) = []
exit_of (Err why) = []

module _ {Leg : Type 0} (v : View Leg) where
  -- ---- Where times come from (RULES D3c).

  abbrev pub exits_of : List Leg → List TimePoint
  exits_of [] = []
  exits_of (l ∷ ls) = exit_of (v.near l) ++ exits_of ls

  abbrev pub finish_of : List Leg → List TimePoint
  finish_of [] = []
  finish_of (l ∷ ls) = finish v l ls ∷ []

  abbrev pub all_exits : List (List Leg) → List TimePoint
  all_exits [] = []
  all_exits (o ∷ os) = exits_of o ++ all_exits os

  abbrev pub all_finishes : List (List Leg) → List TimePoint
  all_finishes [] = []
  all_finishes (o ∷ os) = finish_of o ++ all_finishes os

  -- The time asked for, a leg's exit or an obstacle's finish.
  abbrev pub Source : List (List Leg) → TimePoint → TimePoint → Type 0
  Source os asked t = (t ≡ asked) ⊎ (Memᴰ t (all_exits os) ⊎ Memᴰ t (all_finishes os))

  -- ---- Sweeps.

  -- A whole sweep over these obstacles takes the candidate from a to b by n pushes, each with a result.
  pub data Sweep : List (List Leg) → TimePoint → ℕ → TimePoint → Type 0 where
    done : {a b : TimePoint} → a ≡ b → Sweep [] a zero b
    quiet : {o : List Leg} {os : List (List Leg)} {a b : TimePoint} {n : ℕ} →
        adjust v a o ≡ (Ok A.Quiet) → Sweep os a n b → Sweep (o ∷ os) a n b
    push : {o : List Leg} {os : List (List Leg)} {a b t : TimePoint} {n : ℕ} →
        adjust v a o ≡ Ok (A.Pushed t) → Sweep os t n b → Sweep (o ∷ os) a (suc n) b

  -- A sweep over these obstacles, begun at a, meets a push with no result.
  pub data Loses : List (List Leg) → TimePoint → Type 0 where
    lost : {o : List Leg} {os : List (List Leg)} {a : TimePoint} → adjust v a o ≡ (Ok A.Lost) → Loses (o ∷ os) a
    lost_quiet : {o : List Leg} {os : List (List Leg)} {a : TimePoint} →
        adjust v a o ≡ (Ok A.Quiet) → Loses os a → Loses (o ∷ os) a
    lost_push : {o : List Leg} {os : List (List Leg)} {a t : TimePoint} →
        adjust v a o ≡ Ok (A.Pushed t) → Loses os t → Loses (o ∷ os) a

  module _ (os : List (List Leg)) where
    -- The sweep after the one that began at a begins at b: the candidate was pushed there, or a was quiet and b is the smallest
    -- next candidate.
    pub data Then (a b : TimePoint) : Type 0 where
      pushed : {n : ℕ} → Sweep os a (suc n) b → a ≢ b → Then a b
      listed : Sweep os a zero a → soonest v a (Ok None) os ≡ Ok (Some b) → Then a b

    -- Some sweep begins at b where the first begins at a.
    pub data Reaches : TimePoint → TimePoint → Type 0 where
      here : {a b : TimePoint} → a ≡ b → Reaches a b
      there : {a b c : TimePoint} → Then a b → Reaches b c → Reaches a c

    -- A sweep, reached with no refusal, pushes, each push having a result, and ends where it began (RULES D3e).
    pub record Stuck (asked : TimePoint) : Type 0 where
      pub at : TimePoint
      pub reached : Reaches asked at
      pub pushes : ℕ
      pub back : Sweep os at (suc pushes) at

    -- The search whose next sweep begins at a, with l listed so far, makes n sweeps more and lists r in all (RULES D3d).
    pub data Gives : TimePoint → List TimePoint → List TimePoint → ℕ → Type 0 where
      ends : {a : TimePoint} {l r : List TimePoint} → Loses os a → l ≡ r → Gives a l r (suc zero)
      lists : {a : TimePoint} {l r : List TimePoint} →
          Sweep os a zero a → soonest v a (Ok None) os ≡ (Ok None) → l ++ (a ∷ []) ≡ r → Gives a l r (suc zero)
      goes : {a b : TimePoint} {l r : List TimePoint} {m n : ℕ} →
          Sweep os a (suc m) b → a ≢ b → Gives b l r n → Gives a l r (suc n)
      lists_goes : {a b : TimePoint} {l r : List TimePoint} {n : ℕ} →
          Sweep os a zero a → soonest v a (Ok None) os ≡ Ok (Some b) → Gives b (l ++ (a ∷ [])) r n → Gives a l r (suc n)

  -- ---- What geometry gives of a leg, and of an obstacle's legs.

  -- It ends no earlier than it starts, and its exit is no earlier than its start.
  pub record Fair (l : Leg) : Type 0 where
    pub rises : (v.start l).0 ≤ℤ (v.end l).0
    pub exit_after_start : (enter exit : TimePoint) → v.near l ≡ Ok (P.Passes enter exit) → (v.start l).0 ≤ℤ exit.0

  abbrev pub Joined : Leg → List Leg → Type 0
  Joined l [] = Unit {0}
  Joined l (m ∷ ls) = v.end l ≡ v.start m

  -- Fair legs, each of which starts where the last ended.
  abbrev pub Ruled : List Leg → Type 0
  Ruled [] = Unit {0}
  Ruled (l ∷ ls) = Fair l × (Joined l ls × Ruled ls)

  -- R holds of what a leg is refused by, and of 7 where 10,000 ns after its exit are past 2^53 ns (RULES 4.7, 12.9).
  pub record Refuses (R : Refusal → Type 0) (l : Leg) : Type 0 where
    pub own : (why : Refusal) → v.near l ≡ Err why → R why
    pub reach : (enter exit : TimePoint) → v.near l ≡ Ok (P.Passes enter exit) →
        instant_after exit (record { 0 = pos 10_000 }) ≡ strayed → R Refusals.Strayed

  -- A leg refuses by a number below 8.
  abbrev pub Early : Leg → Type 0
  Early l = (why : Refusal) → v.near l ≡ Err why → refusal_number why < 8
