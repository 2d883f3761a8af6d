-- The sweep after another begins later, at an exit or a finish, so that fewer of those are left (RULES D3a to D3c).
-- Assumes nothing.
use mathlib.Core.Path.{refl, sym}
use mathlib.Core.Logic.{◌≢◌, inl, inr, ⊎_elim}
use mathlib.Core.Bool.{false}
use mathlib.Core.List.{List, [], ◌∷◌, Memᴰ}
use Prim.Native.Nat.{◌<◌}
use Rattle.times.specs.declared.time.TimePoint.{TimePoint}
use Rattle.arrival_search.specs.Search.{View}
use Rattle.arrival_search.specs.Sweeps.{All, exit_of, exits_of, finish_of, all_exits, all_finishes, Then, pushed, listed}
use Rattle.arrival_search.proofs.Lists.{all_members}
use Rattle.arrival_search.proofs.Legs.{Any, Later, Onward, LegGives}
use Rattle.arrival_search.proofs.Walks.{ObstacleGives, sweep_gives, soonest_gives}
use Rattle.arrival_search.proofs.Remaining.{Among, remaining, remaining_falls}
use Rattle.arrival_search.proofs.Sweeping.{sweep_is}
use Rattle.std.specs.Prelude.{Ok}
use Rattle.std.specs.Prelude.{None}

module _ {Leg : Type 0} (v : View Leg) (Q : TimePoint → Type 0) where
  -- What holds of all exits of an obstacle holds of that of each leg.
  legs_give : (ls : List Leg) → ((t : TimePoint) → Memᴰ t (exits_of v ls) → Q t) → All (LegGives v Q Any) ls
  legs_give [] f = tt
  legs_give (l ∷ ls) f = (
    record {
      exit = λ enter exit e.
          let here : Memᴰ exit (exit_of (v.near l)) = rw e (mathlib.Core.List.Memᴰ.head refl) in
          f exit (mathlib.Core.List.Memᴰ.append_left (exits_of v ls) here);
      refusal = record { own = λ why e. tt; reach = λ enter exit e after. tt };
    },
    legs_give ls (λ t m. f t (mathlib.Core.List.Memᴰ.append_right (exit_of (v.near l)) m)),
  )

  -- What holds of all exits and finishes holds of those of each obstacle.
  obstacles_give : (os : List (List Leg)) → ((t : TimePoint) → Among v os t → Q t) → All (ObstacleGives v Q Any) os
  obstacles_give [] f = tt
  obstacles_give (o ∷ os) f = (
    record {
      legs = legs_give o (λ t m. f t (inl (mathlib.Core.List.Memᴰ.append_left (all_exits v os) m)));
      finishes = all_members Q (finish_of v o) (λ t m. f t (inr (mathlib.Core.List.Memᴰ.append_left (all_finishes v os) m)));
      nine = inl tt;
    },
    obstacles_give os (λ t m. f t (⊎_elim
        (λ e. inl (mathlib.Core.List.Memᴰ.append_right (exits_of v o) e)) (λ e. inr (mathlib.Core.List.Memᴰ.append_right (finish_of v o) e)) m)),
  )

module _ {Leg : Type 0} (v : View Leg) (os : List (List Leg)) where
  sources : All (ObstacleGives v (Among v os) Any) os
  sources = obstacles_give v (Among v os) os (λ t m. m)

  rose : (a b : TimePoint) → a ≢ b → Onward (Among v os) a b → Later (Among v os) a b
  rose a b apart (inl e) = absurd (apart (sym e))
  rose a b apart (inr h) = h

  -- The sweep after the one that began at a begins later, at an exit or a finish (RULES D3b, D3c).
  pub then_later : {a b : TimePoint} → Then v os a b → Later (Among v os) a b
  then_later {a} {b} (pushed s apart) =
      rose a b apart (rw (sweep_is v s false) at (sweep_gives v (Among v os) Any a false os sources))
  then_later {a} {b} (listed s e) = rw e at (soonest_gives v (Among v os) Any a (Ok None) os tt sources)

  -- So there are fewer left for a sweep to begin at (RULES D3a).
  pub then_fewer : {a b : TimePoint} → Then v os a b → remaining v os b < remaining v os a
  then_fewer t = let h = then_later t in remaining_falls v os h.0 h.1
