-- What a search is refused by, unless it is stuck, from those of its legs: any, any but 8, or the legs' own (RULES D3e).
-- Assumes nothing.
use mathlib.Core.Logic.{◌≢◌, ◌⊎◌, inl, inr}
use mathlib.Core.List.{List}
use Prim.Native.Nat.{◌<◌}
use native.Mathlib.Omega.{arith}
use Rattle.arrival_search.specs.Search.{View}
use Rattle.arrival_search.specs.Sweeps.{All, finish_of, Ruled, Refuses, Early}
use Rattle.arrival_search.proofs.Lists.{all_of, all_map, all_both}
use Rattle.arrival_search.proofs.Legs.{Any, LegGives}
use Rattle.arrival_search.proofs.Walks.{ObstacleGives}
use Rattle.refusals.specs.declared.Refusal.TheVariants as Refusals
use Rattle.refusals.specs.Names.{refusal_number}
use Rattle.refusals.specs.declared.Refusal.{Refusal}

module _ {Leg : Type 0} (v : View Leg) where
  refused_by : (R : Refusal → Type 0) (o : List Leg) → All (Refuses v R) o → R Refusals.Late ⊎ Ruled v o → ObstacleGives v Any R o
  refused_by R o h nine =
      record {
        legs = all_map (Refuses v R) (LegGives v Any R) (λ l r. record { exit = λ enter exit e. tt; refusal = r }) o h;
        finishes = all_of Any (λ t. tt) (finish_of v o);
        nine = nine;
      }

  -- Where R holds of every number below 8, 7 among them.
  early_refuses : (R : Refusal → Type 0) → ((why : Refusal) → refusal_number why < 8 → R why) →
      (l : Leg) → Early v l → Refuses v R l
  early_refuses R f l early =
      record { own = λ why e. f why (early why e); reach = λ enter exit e after. f Refusals.Strayed (omega arith) }

  module _ (os : List (List Leg)) where
    -- Whatever the legs.
    pub by_any : All (ObstacleGives v Any Any) os
    by_any =
        let own : (l : Leg) → Refuses v Any l = λ l. record { own = λ why e. tt; reach = λ enter exit e after. tt } in
        all_of (ObstacleGives v Any Any) (λ o. refused_by Any o (all_of (Refuses v Any) own o) (inl tt)) os

    -- Where the legs are refused by numbers below 8 (RULES D3e).
    pub not_by_eight : All (All (Early v)) os → All (ObstacleGives v Any (λ why. refusal_number why ≢ 8)) os
    not_by_eight early =
        let R : Refusal → Type 0 = λ why. refusal_number why ≢ 8 in
        all_map (All (Early v)) (ObstacleGives v Any R)
        (λ o h. refused_by R o (all_map (Early v) (Refuses v R) (early_refuses R below) o h) (inl nine)) os early
      where
        below : (why : Refusal) → refusal_number why < 8 → refusal_number why ≢ 8
        below why h same = omega arith

        nine : refusal_number Refusals.Late ≢ 8
        nine same = omega arith

    -- Where no exit is late, since an obstacle's legs are ruled (RULES 12.9).
    pub by_legs : (R : Refusal → Type 0) → All (Ruled v) os → All (All (Refuses v R)) os → All (ObstacleGives v Any R) os
    by_legs R ruled legs =
        all_map (λ o. Ruled v o × All (Refuses v R) o) (ObstacleGives v Any R) (λ o h. refused_by R o h.1 (inr h.0)) os
        (all_both (Ruled v) (All (Refuses v R)) os ruled legs)

    -- Numbers below 8 are such numbers.
    pub below_eight : All (All (Early v)) os → All (All (Refuses v (λ why. refusal_number why < 8))) os
    below_eight early =
        let R : Refusal → Type 0 = λ why. refusal_number why < 8 in
        all_map (All (Early v)) (All (Refuses v R)) (λ o. all_map (Early v) (Refuses v R) (early_refuses R (λ why h. h)) o) os early
