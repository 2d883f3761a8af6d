-- What follows a sweep in the definition is what follows it in the sequence (RULES 12.11 to 12.14, 12.17).
-- Assumes nothing.
use mathlib.Core.Path.{◌≡◌, refl, sym, subst}
use mathlib.Core.Logic.{◌≢◌, ◌⊎◌, inl, inr}
use mathlib.Core.Bool.{false, cond}
use mathlib.Core.List.{List}
use Prim.Native.Nat.{ℕ, zero, suc}
use lib.Signed.{lt_z, ≤ℤ_refl}
use Rattle.times.specs.declared.time.TimePoint.{TimePoint}
use Rattle.times.proofs.Integers.{at-most→not-below}
use Rattle.arrival_search.specs.Search.{View, lists_quiet, turned, soonest, sweep, turn}
use Rattle.arrival_search.specs.Sweeps.{All, Sweep, Loses}
use Rattle.arrival_search.specs.declared.turn.Swept.{Swept}
use Rattle.arrival_search.specs.declared.turn.Swept.TheVariants as W
use Rattle.arrival_search.specs.declared.turn.Turn.{Turn}
use Rattle.arrival_search.specs.declared.turn.Turn.TheVariants as T
use Rattle.arrival_search.proofs.Instants.{by_cond, same_instant, before_not_same}
use Rattle.arrival_search.proofs.Legs.{Any}
use Rattle.arrival_search.proofs.Walks.{ObstacleGives, sweep_gives, soonest_gives}
use Rattle.arrival_search.proofs.Sweeping.{sweep_is, loses_is, still_sweep, moved_sweep, lost_sweep}
use Rattle.std.specs.Prelude.{Result, Ok, Err}
use Rattle.std.specs.Prelude.{Option, Some, None}
use Rattle.refusals.specs.declared.Refusal.{Refusal}
use Rattle.refusals.specs.declared.Refusal.TheVariants as Refusals

apart_goes : (a b : TimePoint) → a ≢ b →
    cond (lt_z a.0 b.0) (Ok (T.Goes b)) (cond (lt_z b.0 a.0) (Ok (T.Goes b)) (Err Refusals.Stuck)) ≡ Ok (T.Goes b)
apart_goes a b apart =
    by_cond (λ (u : Result Turn Refusal). u ≡ Ok (T.Goes b)) (lt_z a.0 b.0) (λ _. refl) (λ e.
    by_cond (λ (u : Result Turn Refusal). u ≡ Ok (T.Goes b)) (lt_z b.0 a.0) (λ _. refl) (λ f.
    absurd (apart (same_instant a b e f))))

module _ {Leg : Type 0} (v : View Leg) (os : List (List Leg)) where
  -- ---- From the sequence to the definition.

  -- A push with no result ends the search (RULES 12.11).
  pub turn_ends : {a : TimePoint} → Loses v os a → turn v os a ≡ (Ok T.Ends)
  unfolding turn
  turn_ends h = rw (loses_is v h false)

  -- A quiet sweep lists the candidate, and ends the search where none is next (RULES 12.14, 12.17),
  pub turn_lists : {a : TimePoint} → Sweep v os a zero a → soonest v a (Ok None) os ≡ (Ok None) → turn v os a ≡ (Ok T.Lists)
  unfolding turn
  turn_lists s e = rw (sweep_is v s false, e)

  -- or goes on with the next (RULES 12.14, 12.17).
  pub turn_lists_goes : {a b : TimePoint} → Sweep v os a zero a → soonest v a (Ok None) os ≡ Ok (Some b) →
      turn v os a ≡ Ok (T.ListsGoes b)
  unfolding turn
  turn_lists_goes s e = rw (sweep_is v s false, e)

  -- Pushes to another candidate go on with that (RULES 12.12),
  pub turn_goes : {a b : TimePoint} {n : ℕ} → Sweep v os a (suc n) b → a ≢ b → turn v os a ≡ Ok (T.Goes b)
  unfolding turn
  turn_goes {a} {b} s apart = rw (sweep_is v s false) (apart_goes a b apart)

  -- and pushes back to the same are refused 8 (RULES 12.13).
  pub turn_stuck : {a : TimePoint} {n : ℕ} → Sweep v os a (suc n) a → turn v os a ≡ Err Refusals.Stuck
  unfolding turn
  turn_stuck {a} s = rw (sweep_is v s false, at-most→not-below a.0 a.0 (≤ℤ_refl a.0))

  -- ---- From the definition to the sequence.

  module _ (R : Refusal → Type 0) where
    -- What an answer tells of the sweep that began at a. R holds of a refusal that is not of a stuck sweep.
    abbrev pub Told : TimePoint → Result Turn Refusal → Type 0
    Told a (Ok T.Ends) = Loses v os a
    Told a (Ok T.Lists) = Sweep v os a zero a × (soonest v a (Ok None) os ≡ (Ok None))
    Told a (Ok (T.Goes t)) = ((n : ℕ) × Sweep v os a (suc n) t) × (a ≢ t)
    Told a (Ok (T.ListsGoes t)) = Sweep v os a zero a × (soonest v a (Ok None) os ≡ Ok (Some t))
    Told a (Err why) = R why ⊎ ((why ≡ Refusals.Stuck) × ((n : ℕ) × Sweep v os a (suc n) a))

    module _ (gives : All (ObstacleGives v Any R) os) (a : TimePoint) where
      listed_told : Sweep v os a zero a → (x : Result (Option TimePoint) Refusal) → soonest v a (Ok None) os ≡ x →
          Told a (lists_quiet x)
      listed_told s (Ok None) e = (s, e)
      listed_told s (Ok (Some t)) e = (s, e)
      listed_told s (Err why) e = inl (rw e at (soonest_gives v Any R a (Ok None) os tt gives))

      turned_told : (s : Result Swept Refusal) → sweep v a false os ≡ s → Told a (turned s a (λ _. soonest v a (Ok None) os))
      turned_told (Ok W.Still) e = listed_told (still_sweep v os a e) (soonest v a (Ok None) os) refl
      turned_told (Ok (W.Moved t)) e =
          let moved = moved_sweep v os a t e in
          by_cond (Told a) (lt_z a.0 t.0) (λ k. (moved, before_not_same a t k)) (λ k.
          by_cond (Told a) (lt_z t.0 a.0) (λ j. (moved, λ same. before_not_same t a j (sym same))) (λ j.
          inr (refl, (moved.0, subst (Sweep v os a (suc moved.0)) (same_instant t a j k) moved.1))))
      turned_told (Ok W.Lost) e = lost_sweep v os a e
      turned_told (Err why) e = inl (rw e at (sweep_gives v Any R a false os gives))

      -- The other way round, all five (RULES 12.11 to 12.14, 12.17).
      pub turn_told : Told a (turn v os a)
      unfolding turn
      turn_told = turned_told (sweep v a false os) refl
