-- A search of the definition is the sequence of sweeps: what it answers, and by what it is refused (RULES D3d, D3e).
-- Assumes nothing.
use mathlib.Core.Path.{◌≡◌, refl, ap, ◌∙◌}
use mathlib.Core.Logic.{◌⊎◌, inl, inr, ⊎_elim}
use mathlib.Core.List.{List, [], ◌∷◌, ◌++◌}
use Prim.Native.Nat.{ℕ, zero, suc, ◌+◌, ◌≤◌, ◌<◌}
use native.Mathlib.Omega.{arith}
use Rattle.times.specs.declared.time.TimePoint.{TimePoint}
use Rattle.arrival_search.specs.Search.{View, Searched, Answered, Refused, Unfinished, gone, turn, search, arrivals, legs_in, watched_obstacles}
use Rattle.arrival_search.specs.Sweeps.{All, Sweep, Then, pushed, Reaches, here, there, Stuck}
use Rattle.arrival_search.specs.Sweeps.{Gives, ends, lists, goes, lists_goes}
use Rattle.arrival_search.specs.Sweeps as Sweeps
use Rattle.arrival_search.specs.declared.turn.Turn.{Turn}
use Rattle.arrival_search.specs.declared.turn.Turn.TheVariants as T
use Rattle.arrival_search.proofs.Legs.{Any}
use Rattle.arrival_search.proofs.Walks.{ObstacleGives}
use Rattle.arrival_search.proofs.Remaining.{remaining}
use Rattle.arrival_search.proofs.Candidates.{then_fewer}
use Rattle.arrival_search.proofs.Turns.{Told, turn_told, turn_ends, turn_lists, turn_goes, turn_lists_goes, turn_stuck}
use Rattle.std.specs.Prelude.{Result, Ok, Err}
use Rattle.refusals.specs.declared.Refusal.{Refusal}
use Rattle.refusals.specs.declared.Refusal.TheVariants as Refusals

module _ {Leg : Type 0} (v : View Leg) (os : List (List Leg)) where
  -- ---- From the sequence to the definition: with more sweeps left than instants to begin them at.

  -- What the sequence lists is the answer, with its count (RULES D3d).
  pub gives_answered : {a : TimePoint} {l r : List TimePoint} {n : ℕ} → Gives v os a l r n →
      (k m : ℕ) → remaining v os a < k → search v os k a l m ≡ Answered r (m + n)
  unfolding search
  gives_answered g zero m h = absurd (omega arith)
  gives_answered (ends s e) (suc k) m h =
      let z : suc m ≡ m + 1 = omega arith in rw (turn_ends v os s) (λ i. Answered (e i) (z i))
  gives_answered (lists s f e) (suc k) m h =
      let z : suc m ≡ m + 1 = omega arith in rw (turn_lists v os s f) (λ i. Answered (e i) (z i))
  gives_answered (goes {r} {n} s apart g) (suc k) m h =
      let z : suc m + n ≡ m + suc n = omega arith in
      rw (turn_goes v os s apart)
      (gives_answered g k (suc m) (omega (arith, then_fewer v os (pushed s apart))) ∙ ap (Answered r) z)
  gives_answered (lists_goes {r} {n} s f g) (suc k) m h =
      let z : suc m + n ≡ m + suc n = omega arith in
      rw (turn_lists_goes v os s f)
      (gives_answered g k (suc m) (omega (arith, then_fewer v os (Sweeps.listed s f))) ∙ ap (Answered r) z)

  -- Where it is stuck the search is refused 8 (RULES D3e).
  pub stuck_refused : {a c : TimePoint} → Reaches v os a c → {n : ℕ} → Sweep v os c (suc n) c →
      (k : ℕ) (l : List TimePoint) (m : ℕ) → remaining v os a < k → search v os k a l m ≡ Refused Refusals.Stuck
  unfolding search
  stuck_refused r s zero l m h = absurd (omega arith)
  stuck_refused (here e) s (suc k) l m h = rw (e, turn_stuck v os s)
  stuck_refused (there (pushed w apart) r) s (suc k) l m h =
      rw (turn_goes v os w apart) (stuck_refused r s k l (suc m) (omega (arith, then_fewer v os (pushed w apart))))
  stuck_refused (there {a} (Sweeps.listed w e) r) s (suc k) l m h =
      rw (turn_lists_goes v os w e)
      (stuck_refused r s k (l ++ (a ∷ [])) (suc m) (omega (arith, then_fewer v os (Sweeps.listed w e))))

  -- ---- From the definition to the sequence.

  -- The search from a on, with l listed by m sweeps, lists r by n, and makes at most k sweeps more.
  pub record Answers (a : TimePoint) (l : List TimePoint) (m k : ℕ) (r : List TimePoint) (n : ℕ) : Type 0 where
    pub sweeps : ℕ
    pub counted : n ≡ m + sweeps
    pub at_most : sweeps ≤ k
    pub given : Gives v os a l r sweeps

  module _ (R : Refusal → Type 0) where
    -- What an answer tells of it. R holds of a refusal that is not of a stuck sweep.
    abbrev pub Ran : TimePoint → List TimePoint → ℕ → ℕ → Searched → Type 0
    Ran a l m k (Answered r n) = Answers a l m k r n
    Ran a l m k (Refused why) = R why ⊎ ((why ≡ Refusals.Stuck) × Stuck v os a)
    Ran a l m k Unfinished = k ≤ remaining v os a

    ran_on : {a b : TimePoint} (l p : List TimePoint) (m k : ℕ) → Then v os a b →
        ((r : List TimePoint) (n : ℕ) → Gives v os b p r n → Gives v os a l r (suc n)) →
        (x : Searched) → Ran b p (suc m) k x → Ran a l m (suc k) x
    ran_on l p m k t onto (Answered r n) g =
        let counted = g.counted in
        let at_most = g.at_most in
        record {
          sweeps = suc g.sweeps;
          counted = omega arith;
          at_most = omega arith;
          given = onto r g.sweeps g.given;
        }
    ran_on l p m k t onto (Refused why) g =
        ⊎_elim inl (λ s. inr (
          s.0,
          record { at = s.1.at; reached = there t s.1.reached; pushes = s.1.pushes; back = s.1.back },
        )) g
    ran_on l p m k t onto Unfinished g = omega (arith, then_fewer v os t)

    gone_ran : (a : TimePoint) (l : List TimePoint) (m k : ℕ) (u : Result Turn Refusal) (go : TimePoint → List TimePoint → ℕ →
        Searched) →
        Told v os R a u → ((b : TimePoint) (p : List TimePoint) (n : ℕ) → Ran b p n k (go b p n)) →
        Ran a l m (suc k) (gone u a l m go)
    gone_ran a l m k (Ok T.Ends) go s h =
        record { sweeps = 1; counted = omega arith; at_most = omega arith; given = ends s refl }
    gone_ran a l m k (Ok T.Lists) go s h =
        record { sweeps = 1; counted = omega arith; at_most = omega arith; given = lists s.0 s.1 refl }
    gone_ran a l m k (Ok (T.Goes b)) go s h =
        ran_on l l m k (pushed s.0.1 s.1) (λ r n. goes s.0.1 s.1) (go b l (suc m)) (h b l (suc m))
    gone_ran a l m k (Ok (T.ListsGoes b)) go s h =
        let p : List TimePoint = l ++ (a ∷ []) in
        ran_on l p m k (Sweeps.listed s.0 s.1) (λ r n. lists_goes s.0 s.1) (go b p (suc m)) (h b p (suc m))
    gone_ran a l m k (Err why) go s h =
        ⊎_elim inl (λ e. inr (e.0, record { at = a; reached = here refl; pushes = e.1.0; back = e.1.1 })) s

    module _ (gives : All (ObstacleGives v Any R) os) where
      search_ran : (k : ℕ) (a : TimePoint) (l : List TimePoint) (m : ℕ) → Ran a l m k (search v os k a l m)
      unfolding search
      search_ran zero a l m = omega arith
      search_ran (suc k) a l m = gone_ran a l m k (turn v os a) (search v os k) (turn_told v os R gives a) (search_ran k)

      -- The other way round (RULES D3a, D3d, D3e).
      pub arrivals_ran : (asked : TimePoint) → Ran asked [] 0 (legs_in os + watched_obstacles os + 1) (arrivals v os asked)
      unfolding arrivals
      arrivals_ran asked = search_ran (legs_in os + watched_obstacles os + 1) asked [] 0
