-- How many exits and finishes lie after a candidate: at most L + O, and fewer after a later one among them (RULES 12.19).
-- Assumes nothing.
use mathlib.Core.Path.{◌≡◌, refl}
use mathlib.Core.Logic.{◌⊎◌, inl, inr, ⊎_elim}
use mathlib.Core.Bool.{Bool, true, false, cond}
use mathlib.Core.List.Memᴰ
use mathlib.Core.List.{List, [], ◌∷◌, Memᴰ}
use Prim.Native.Nat.{ℕ, suc, ◌+◌, ◌≤◌, ◌<◌}
use native.Mathlib.Omega.{arith}
use lib.ListN.{length, length-append}
use lib.Signed.{lt_z, ◌<ℤ◌, lt_z_yes, ≤ℤ_refl}
use Rattle.floats.proofs.Tests.{passed, is_true}
use Rattle.times.specs.declared.time.TimePoint.{TimePoint}
use Rattle.times.proofs.Integers.{at-most→not-below}
use Rattle.proximity.specs.declared.detect.Proximity.{Proximity}
use Rattle.proximity.specs.declared.detect.Proximity.TheVariants as P
use Rattle.arrival_search.specs.Search.{View, legs_in, watched_obstacles}
use Rattle.arrival_search.specs.Sweeps.{exit_of, exits_of, all_exits, all_finishes}
use Rattle.arrival_search.proofs.Instants.{by_cond, below_trans}
use Rattle.std.specs.Prelude.{Result, Ok, Err}
use Rattle.refusals.specs.declared.Refusal.{Refusal}

-- One where t is after c, else none.
abbrev one : TimePoint → TimePoint → ℕ
one c t = cond (lt_z c.0 t.0) 1 0

-- How many of a list are after c.
after : TimePoint → List TimePoint → ℕ
after c [] = 0
after c (t ∷ ts) = one c t + after c ts

after_length : (c : TimePoint) (ts : List TimePoint) → after c ts ≤ length ts
unfolding after
after_length c [] = omega arith
after_length c (t ∷ ts) =
    let rest = after_length c ts in
    by_cond (λ (n : ℕ). n + after c ts ≤ suc (length ts)) (lt_z c.0 t.0) (λ _. omega arith) (λ _. omega arith)

module _ (c t : TimePoint) (h : c.0 <ℤ t.0) where
  one_falls : (u : TimePoint) → one t u ≤ one c u
  one_falls u = by (lt_z t.0 u.0) refl
    where
      by : (b : Bool) → lt_z t.0 u.0 ≡ b → cond b 1 0 ≤ one c u
      by true e = rw (is_true (lt_z c.0 u.0) (below_trans h (lt_z_yes (passed e))).lt) (omega arith)
      by false e = omega arith

  -- A later candidate has no more after it,
  after_falls : (us : List TimePoint) → after t us ≤ after c us
  unfolding after
  after_falls [] = omega arith
  after_falls (u ∷ us) = omega (arith, one_falls u, after_falls us)

  itself_falls : (u : TimePoint) → t ≡ u → one t u < one c u
  itself_falls u e =
      let not_after : lt_z t.0 t.0 ≡ false = at-most→not-below t.0 t.0 (≤ℤ_refl t.0) in
      rw (← e, not_after, is_true (lt_z c.0 t.0) h.lt) (omega arith)

  -- and fewer where it is one of them.
  member_falls : (us : List TimePoint) → Memᴰ t us → after t us < after c us
  unfolding after
  member_falls [] m = absurd (Memᴰ.not-nil m)
  member_falls (u ∷ us) m =
      ⊎_elim
      (λ (e : t ≡ u). omega (arith, itself_falls u e, after_falls us))
      (λ (n : Memᴰ t us). omega (arith, one_falls u, member_falls us n))
      (Memᴰ.cases_cons m)

exit_length : (near : Result Proximity Refusal) → length (exit_of near) ≤ 1
exit_length (Ok P.Never) = omega arith
exit_length (Ok (P.Enters enter)) = omega arith
exit_length (Ok (P.Passes enter exit)) = omega arith
exit_length (Err why) = omega arith

module _ {Leg : Type 0} (v : View Leg) where
  -- An exit or a finish.
  abbrev pub Among : List (List Leg) → TimePoint → Type 0
  Among os t = Memᴰ t (all_exits v os) ⊎ Memᴰ t (all_finishes v os)

  -- How many exits and finishes are after c.
  pub remaining : List (List Leg) → TimePoint → ℕ
  remaining os c = after c (all_exits v os) + after c (all_finishes v os)

  -- Fewer are after a later one that is itself an exit or a finish.
  pub remaining_falls : (os : List (List Leg)) {c t : TimePoint} → c.0 <ℤ t.0 → Among os t → remaining os t < remaining os c
  unfolding remaining
  remaining_falls os {c} {t} h (inl m) =
      omega (arith, member_falls c t h (all_exits v os) m, after_falls c t h (all_finishes v os))
  remaining_falls os {c} {t} h (inr m) =
      omega (arith, member_falls c t h (all_finishes v os) m, after_falls c t h (all_exits v os))

  exits_length : (ls : List Leg) → length (exits_of v ls) ≤ length ls
  exits_length [] = omega arith
  exits_length (l ∷ ls) =
      omega (arith, length-append (exit_of (v.near l)) (exits_of v ls), exit_length (v.near l), exits_length ls)

  all_exits_length : (os : List (List Leg)) → length (all_exits v os) ≤ legs_in os
  unfolding legs_in
  all_exits_length [] = omega arith
  all_exits_length (o ∷ os) = omega (arith, length-append (exits_of v o) (all_exits v os), exits_length o, all_exits_length os)

  all_finishes_length : (os : List (List Leg)) → length (all_finishes v os) ≤ watched_obstacles os
  unfolding watched_obstacles
  all_finishes_length [] = omega arith
  all_finishes_length ([] ∷ os) = all_finishes_length os
  all_finishes_length ((l ∷ ls) ∷ os) = omega (arith, all_finishes_length os)

  -- At most an exit for each leg and a finish for each obstacle with a trajectory (RULES 12.19).
  pub remaining_bound : (os : List (List Leg)) (c : TimePoint) → remaining os c ≤ legs_in os + watched_obstacles os
  unfolding remaining
  remaining_bound os c =
      let exits = after_length c (all_exits v os) in
      let finishes = after_length c (all_finishes v os) in
      omega (arith, all_exits_length os, all_finishes_length os)
