-- The arrival search cannot wander: demand 3, of any legs but where a theorem says what it asks of them.
-- Assumes nothing.
use mathlib.Core.Path.{◌≡◌, refl, sym, ap, subst, ◌∙◌}
use mathlib.Core.Logic.{◌≢◌, ◌↔◌, ◌⊎◌, inl, inr, ⊎_elim}
use mathlib.Core.List.{List, []}
use Prim.Native.Nat.{ℕ, ◌+◌, ◌≤◌, ◌<◌}
use native.Mathlib.Nat.{zero-add}
use native.Mathlib.Omega.{arith}
use lib.ListN.{length}
use lib.Signed.{◌<ℤ◌}
use Rattle.times.specs.declared.time.TimePoint.{TimePoint}
use Rattle.arrival_search.specs.Search.{View, Answered, Refused, Unfinished, arrivals, legs_in, watched_obstacles}
use Rattle.arrival_search.specs.Sweeps.{All, Rising, Source, Then, Stuck, Gives, Ruled, Refuses, Early}
use Rattle.arrival_search.proofs.Legs.{Any}
use Rattle.arrival_search.proofs.Remaining.{remaining_bound}
use Rattle.arrival_search.proofs.Candidates.{then_later}
use Rattle.arrival_search.proofs.Runs.{Answers, arrivals_ran, gives_answered, stuck_refused}
use Rattle.arrival_search.proofs.Listing.{gives_listed, gives_fewer}
use Rattle.arrival_search.proofs.Refusals.{by_any, not_by_eight, by_legs, below_eight}
use Rattle.refusals.specs.declared.Refusal.TheVariants as Refusals
use Rattle.refusals.specs.Names.{refusal_number}
use Rattle.refusals.specs.declared.Refusal.{Refusal}

-- Each sweep begins later than the one before it, so no two begin at one candidate (RULES D3a, D3b).
pub later : {Leg : Type 0} (v : View Leg) (os : List (List Leg)) {a b : TimePoint} → Then v os a b → a.0 <ℤ b.0
later v os t = (then_later v os t).0

module _ {Leg : Type 0} (v : View Leg) (os : List (List Leg)) (asked : TimePoint) where
  answered : {l : List TimePoint} {n : ℕ} →
      arrivals v os asked ≡ Answered l n → Answers v os asked [] 0 (legs_in os + watched_obstacles os + 1) l n
  answered e = rw e at (arrivals_ran v os Any (by_any v os) asked)

  -- The definition's bound is never met (RULES D3a).
  pub finished : arrivals v os asked ≢ Unfinished
  finished e =
      let many = rw e at (arrivals_ran v os Any (by_any v os) asked) in
      omega (arith, remaining_bound v os asked)

  -- An answer, list and count, is that of the sequence of sweeps, which has no bound (RULES D3d).
  pub sequence : {l : List TimePoint} {n : ℕ} → (arrivals v os asked ≡ Answered l n) ↔ Gives v os asked [] l n
  unfolding arrivals
  sequence = (given, answers)
    where
      given : {l : List TimePoint} {n : ℕ} → arrivals v os asked ≡ Answered l n → Gives v os asked [] l n
      given e = let a = answered e in rw (← (a.counted ∙ zero-add a.sweeps)) at a.given

      answers : {l : List TimePoint} {n : ℕ} → Gives v os asked [] l n → arrivals v os asked ≡ Answered l n
      answers {l} {n} g =
          gives_answered v os g (legs_in os + watched_obstacles os + 1) 0 (omega (arith, remaining_bound v os asked)) ∙
          ap (Answered l) (zero-add n)

  -- At most L + O + 1 sweeps (RULES D3a).
  pub at_most : {l : List TimePoint} {n : ℕ} → arrivals v os asked ≡ Answered l n → n ≤ legs_in os + watched_obstacles os + 1
  at_most e = let a = answered e in omega arith

  -- No more times than sweeps (RULES 12.14).
  pub fewer : {l : List TimePoint} {n : ℕ} → arrivals v os asked ≡ Answered l n → length l ≤ n
  fewer e = let a = answered e in let few = gives_fewer a.given in omega (arith, a.counted)

  -- The times listed rise strictly (RULES D3b).
  pub rising : {l : List TimePoint} {n : ℕ} → arrivals v os asked ≡ Answered l n → Rising l
  rising e = (gives_listed v os asked (answered e).given).rising

  -- Each is the time asked for, the exit of a leg or the finish of an obstacle (RULES D3c).
  pub sources : {l : List TimePoint} {n : ℕ} → arrivals v os asked ≡ Answered l n → All (Source v os asked) l
  sources e = (gives_listed v os asked (answered e).given).sources

  -- The search is refused by such a number (RULES, section 4).
  abbrev pub RefusedBy : ℕ → Type 0
  RefusedBy n = (why : Refusal) × ((arrivals v os asked ≡ Refused why) × (refusal_number why ≡ n))

  -- A sweep that is reached, pushes, each push with a result, and ends where it began is refused 8, whatever the legs,
  pub stuck_is_refused : Stuck v os asked → arrivals v os asked ≡ Refused Refusals.Stuck
  unfolding arrivals
  stuck_is_refused s =
      stuck_refused v os s.reached s.back (legs_in os + watched_obstacles os + 1) [] 0 (omega (arith, remaining_bound v os asked))

  pub stuck_is_8 : Stuck v os asked → RefusedBy 8
  stuck_is_8 s = (Refusals.Stuck, (stuck_is_refused s, refl))

  -- and nothing else is, where no leg itself is refused by 8 or more (RULES D3e).
  pub stuck_8 : All (All (Early v)) os → RefusedBy 8 ↔ Stuck v os asked
  stuck_8 early = (is_stuck, stuck_is_8)
    where
      is_stuck : RefusedBy 8 → Stuck v os asked
      is_stuck r =
          let R : Refusal → Type 0 = λ why. refusal_number why ≢ 8 in
          ⊎_elim (λ not_eight. absurd (not_eight r.1.1)) (λ s. s.1)
          (rw r.1.0 at (arrivals_ran v os R (not_by_eight v os early) asked))

  pub stuck : All (All (Early v)) os → (arrivals v os asked ≡ Refused Refusals.Stuck) ↔ Stuck v os asked
  stuck early = (λ e. (stuck_8 early).0 (Refusals.Stuck, (e, refl)), stuck_is_refused)

  -- A search that is not stuck is refused as its legs are, where these follow one another and none has an exit before its start
  -- (RULES 12.9),
  pub refused : (R : Refusal → Type 0) → All (Ruled v) os → All (All (Refuses v R)) os →
      {why : Refusal} → arrivals v os asked ≡ Refused why → R why ⊎ ((why ≡ Refusals.Stuck) × Stuck v os asked)
  refused R ruled legs e = rw e at (arrivals_ran v os R (by_legs v os R ruled legs) asked)

  pub refused_8 : (R : ℕ → Type 0) → All (Ruled v) os → All (All (Refuses v (λ why. R (refusal_number why)))) os →
      {n : ℕ} → RefusedBy n → R n ⊎ ((n ≡ 8) × Stuck v os asked)
  refused_8 R ruled legs r =
      ⊎_elim (λ own. inl (subst R r.1.1 own)) (λ s. inr (sym r.1.1 ∙ ap refusal_number s.0, s.1))
      (refused (λ why. R (refusal_number why)) ruled legs r.1.0)

  -- so never by 9 where those are below 8.
  pub never_9 : All (Ruled v) os → All (All (Early v)) os → RefusedBy 9 → ⊥
  never_9 ruled early r =
      ⊎_elim (λ below. omega arith) (λ s. omega (arith, s.0)) (refused_8 (λ n. n < 8) ruled (below_eight v os early) r)

  pub never_nine : All (Ruled v) os → All (All (Early v)) os → arrivals v os asked ≢ Refused Refusals.Late
  never_nine ruled early e = never_9 ruled early (Refusals.Late, (e, refl))
