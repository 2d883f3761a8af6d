-- What a leg says to a candidate: the candidate or a later exit, or a refusal, its own, 7 or 9 (RULES 12.7 to 12.9, 12.15).
-- Assumes nothing.
use mathlib.Core.Path.{◌≡◌, refl}
use mathlib.Core.Logic.{◌⊎◌, inl, inr}
use mathlib.Core.Bool.{Bool, true, false}
use lib.IntN.{pos}
use lib.Signed.{lt_z, ◌<ℤ◌, ◌≤ℤ◌, lt_z_yes, le_z_yes, clash_ℤ}
use Rattle.floats.proofs.Tests.{passed}
use Rattle.times.specs.Time.{instant_after, later_of}
use Rattle.times.specs.declared.time.TimePoint.{TimePoint}
use Rattle.times.proofs.Integers.{at_most_trans}
use Rattle.times.proofs.Order.{after_not_below}
use Rattle.proximity.specs.declared.detect.Proximity.{Proximity}
use Rattle.proximity.specs.declared.detect.Proximity.TheVariants as P
use Rattle.arrival_search.specs.Legs.{Says, meets, left_at, relieved, follows, sooner}
use Rattle.arrival_search.specs.Legs as S
use Rattle.arrival_search.specs.Search.{View, says, exits, next_at}
use Rattle.arrival_search.specs.Sweeps.{Refuses}
use Rattle.arrival_search.proofs.Instants.{by_cond, same_instant}
use Rattle.std.specs.Prelude.{Result, Ok, Err}
use Rattle.times.specs.declared.time.Strayed.{Strayed}
use Rattle.refusals.specs.declared.Refusal.{Refusal}
use Rattle.std.specs.Prelude.{Option, Some, None}
use Rattle.refusals.specs.declared.Refusal.TheVariants as Refusals

-- No claim at all.
abbrev pub Any : {A : Type 0} → A → Type 0
Any x = Unit {0}

-- Q holds of the instant, R of the refusal, where there is one.
abbrev pub OnSays : (TimePoint → Type 0) → (Refusal → Type 0) → Says → Type 0
OnSays Q R S.Pass = Unit {0}
OnSays Q R S.Clear = Unit {0}
OnSays Q R S.Held = Unit {0}
OnSays Q R (S.Out t) = Q t
OnSays Q R (S.Refused why) = R why

abbrev pub OnNext : (TimePoint → Type 0) → (Refusal → Type 0) → Result (Option TimePoint) Refusal → Type 0
OnNext Q R (Ok None) = Unit {0}
OnNext Q R (Ok (Some t)) = Q t
OnNext Q R (Err why) = R why

-- After c, and such that Q holds.
abbrev pub Later : (TimePoint → Type 0) → TimePoint → TimePoint → Type 0
Later Q c t = (c.0 <ℤ t.0) × Q t

-- c itself, or after it and such that Q holds.
abbrev pub Onward : (TimePoint → Type 0) → TimePoint → TimePoint → Type 0
Onward Q c t = (t ≡ c) ⊎ Later Q c t

not_before : (Q : TimePoint → Type 0) (c t : TimePoint) → lt_z t.0 c.0 ≡ false → Q t → Onward Q c t
not_before Q c t k q = by (lt_z c.0 t.0) refl
  where
    by : (b : Bool) → lt_z c.0 t.0 ≡ b → Onward Q c t
    by true e = inr (lt_z_yes (passed e), q)
    by false e = inl (same_instant t c k e)

module _ {Leg : Type 0} (v : View Leg) (Q : TimePoint → Type 0) (R : Refusal → Type 0) where
  -- Q holds of the leg's exit, and R of what it is refused by.
  pub record LegGives (l : Leg) : Type 0 where
    pub exit : (enter exit : TimePoint) → v.near l ≡ Ok (P.Passes enter exit) → Q exit
    pub refusal : Refuses v R l

  -- Its exit is not before c, unless R holds of 9 anyway.
  abbrev pub Timely : TimePoint → Leg → Type 0
  Timely c l = (enter exit : TimePoint) → v.near l ≡ Ok (P.Passes enter exit) → R Refusals.Late ⊎ (c.0 ≤ℤ exit.0)

  module _ (c : TimePoint) (l : Leg) (g : LegGives l) where
    meets_gives : (near : Result Proximity Refusal) → v.near l ≡ near → OnSays (Onward Q c) R (meets c near)
    unfolding meets
    meets_gives (Ok P.Never) e = tt
    meets_gives (Ok (P.Enters enter)) e = by_cond (OnSays (Onward Q c) R) (lt_z c.0 enter.0) (λ _. tt) (λ _. tt)
    meets_gives (Ok (P.Passes enter exit)) e =
        let F : Says → Type 0 = OnSays (Onward Q c) R in
        by_cond F (lt_z c.0 enter.0) (λ _. tt) (λ _.
        by_cond F (lt_z c.0 exit.0) (λ k. inr (lt_z_yes (passed k), g.exit enter exit e)) (λ _. tt))
    meets_gives (Err why) e = g.refusal.own why e

    -- While not violated (RULES 12.6, 12.7).
    pub says_gives : OnSays (Onward Q c) R (says v c l)
    says_gives =
        let F : Says → Type 0 = OnSays (Onward Q c) R in
        by_cond F (lt_z (v.end l).0 c.0) (λ _. tt) (λ _.
        by_cond F (lt_z c.0 (v.start l).0) (λ _. tt) (λ _. meets_gives (v.near l) refl))

    follows_gives : (near : Result Proximity Refusal) → v.near l ≡ near → OnNext (Later Q c) R (follows c near)
    unfolding follows
    follows_gives (Ok P.Never) e = tt
    follows_gives (Ok (P.Enters enter)) e = tt
    follows_gives (Ok (P.Passes enter exit)) e =
        by_cond (OnNext (Later Q c) R) (lt_z c.0 exit.0) (λ k. (lt_z_yes (passed k), g.exit enter exit e)) (λ _. tt)
    follows_gives (Err why) e = g.refusal.own why e

    -- As the next candidate (RULES 12.15).
    pub next_at_gives : OnNext (Later Q c) R (next_at v c l)
    next_at_gives =
        by_cond (OnNext (Later Q c) R) (lt_z (v.end l).0 c.0) (λ _. tt) (λ _. follows_gives (v.near l) refl)

    module _ (timely : Timely c l) where
      left_gives : (enter exit : TimePoint) (at : Result TimePoint Strayed) → v.near l ≡ Ok (P.Passes enter exit) →
          instant_after exit (record { 0 = pos 10_000 }) ≡ at → OnSays (Onward Q c) R (left_at c exit at)
      unfolding later_of
      left_gives enter exit (Ok late) e after =
          by_cond (OnSays (Onward Q c) R) (lt_z late.0 c.0)
          (λ k. elim (timely enter exit e) [
            | inl nine ↦ nine
            | inr h ↦ clash_ℤ (lt_z_yes (passed k))
                (at_most_trans c.0 exit.0 late.0 h (after_not_below exit _ late after (le_z_yes tt)))
          ])
          (λ _. by_cond (Onward Q c) (lt_z exit.0 c.0) (λ _. inl refl) (λ k. not_before Q c exit k (g.exit enter exit e)))
      left_gives enter exit (Err _) e after = g.refusal.reach enter exit e after

      relieved_gives : (near : Result Proximity Refusal) → v.near l ≡ near → OnSays (Onward Q c) R (relieved c near)
      unfolding relieved
      relieved_gives (Ok P.Never) e = tt
      relieved_gives (Ok (P.Enters enter)) e = tt
      relieved_gives (Ok (P.Passes enter exit)) e = left_gives enter exit (instant_after exit (record { 0 = pos 10_000 })) e refl
      relieved_gives (Err why) e = g.refusal.own why e

      -- While violated (RULES 12.8, 12.9).
      pub exits_gives : OnSays (Onward Q c) R (exits v c l)
      exits_gives =
          by_cond (OnSays (Onward Q c) R) (lt_z (v.end l).0 c.0) (λ _. tt) (λ _. relieved_gives (v.near l) refl)

-- The smaller of two is one of them (RULES 12.17).
pub sooner_gives : (Q : TimePoint → Type 0) (R : Refusal → Type 0) (t : TimePoint) (best : Result (Option TimePoint) Refusal) →
    Q t → OnNext Q R best → OnNext Q R (sooner t best)
unfolding sooner
sooner_gives Q R t (Ok None) h k = h
sooner_gives Q R t (Ok (Some u)) h k = by_cond (OnNext Q R) (lt_z t.0 u.0) (λ _. h) (λ _. k)
sooner_gives Q R t (Err why) h k = k
