-- Demand 3 holds of every call for arrival times (RULES D3a to D3e).
-- Assumes nothing.
use Prim.Native.Nat.{ℕ}
use mathlib.Core.Path.{◌≡◌, refl, ◌∙◌}
use mathlib.Core.Logic.{◌≢◌, ◌⊎◌, inl, inr, ⊎_elim}
use mathlib.Core.Bool.{Bool, true, false, ◌&&◌, cond, true≢false}
use mathlib.Core.List.{List}
use native.Mathlib.Omega.{arith}
use lib.Signed.{lt_z, ≤ℤ_refl}
use Rattle.times.specs.declared.time.TimePoint.{TimePoint}
use Rattle.times.proofs.Integers.{at-most→not-below}
use Rattle.domain.specs.Domain.{is_leg, is_profile}
use Rattle.shapes.specs.Leg.{is_backward}
use Rattle.shapes.specs.declared.profile.CircularProfile.{CircularProfile}
use Rattle.shapes.specs.declared.waypoint.Leg.{Leg}
use Rattle.shapes.specs.declared.waypoint.Waypoint.{Waypoint}
use Rattle.domain.proofs.Within.{leg_start}
use Rattle.table.specs.Lent.{Lent, obstacles_of}
use Rattle.table.specs.Examined.{is_laid, is_shaped, are_allowed, table_examined, agent_examined}
use Rattle.table.proofs.Accepted.{accepted}
use Rattle.arrival_search.specs.Search.{Searched, Answered, Refused, Unfinished, arrivals}
use Rattle.arrival_search.specs.Sweeps as S
use Rattle.arrival_search.specs.Sweeps.{Stuck}
use Rattle.arrival_search.proofs.Lists.{all_map}
use Rattle.arrival_search.proofs.Theorems as Theorems
use Rattle.arrival_legs.specs.Watched.{view_at, arrivals_at}
use Rattle.arrival_times.specs.Asked.{asked_arrivals}
use Rattle.arrival_times.proofs.Few.{legs_watched}
use Rattle.arrival_claims.specs.DemandThree.{Source, Refusal, by_numbers, by_shape, by_creep, by_stuck}
use Rattle.arrival_claims.specs.DemandThree.{Accepts, seen, DemandThree}
use Rattle.arrival_claims.proofs.RealLegs.{all_early, all_ruled, all_creep}
use Rattle.arrival_claims.proofs.Table.{moving_few, source}
use Rattle.std.specs.Prelude.{Result, Ok, Err}
use Rattle.refusals.specs.declared.Refusal.TheVariants as Refusals
use Rattle.refusals.specs.declared.Refusal as Declared

module _ (p : CircularProfile) (g : Waypoint) (lent : Lent) where
  abbrev stay : Leg
  stay = record { start = g; end = g }

  -- ---- The examination.

  -- An agent that stands does not run backward, so what is wrong is 1 or 2 (RULES 4.1 to 4.3).
  wrong : {why : Declared.Refusal} → agent_examined p stay lent ≡ Err why → (why ≡ Refusals.Number) ⊎ (why ≡ Refusals.Shape)
  unfolding agent_examined table_examined is_backward
  wrong {why} =
      let t = g.time.0 in
      let os = obstacles_of lent in
      by (is_laid lent && is_shaped os) (is_profile p && (is_leg stay && are_allowed os)) (lt_z t t)
      (at-most→not-below t t (≤ℤ_refl t))
    where
      by : (shaped allowed backward : Bool) → backward ≡ false →
          ◌≡◌ {A = Result (Unit {0}) Declared.Refusal}
          (cond shaped (cond allowed (cond backward (Err Refusals.Backward) (Ok tt)) (Err Refusals.Number)) (Err Refusals.Shape))
          (Err why) →
          (why ≡ Refusals.Number) ⊎ (why ≡ Refusals.Shape)
      by true true true b e = absurd (true≢false b)
      by true true false b e = absurd (true≢false (cc e))
      by true false backward b e = inl (cc e)
      by false allowed backward b e = inr (cc e)

  abbrev found : Searched
  found = arrivals (view_at g) (seen p lent) g.time

  -- What is answered is what the search finds, or 1 or 2 and there is no search (RULES 5.1).
  by_input : (P : Searched → Type 0) → (Accepts p g lent → P found) →
      ((why : Declared.Refusal) → (why ≡ Refusals.Number) ⊎ (why ≡ Refusals.Shape) → P (Refused why)) →
      P (asked_arrivals p g lent)
  unfolding asked_arrivals arrivals_at
  by_input P fine refused = by (agent_examined p stay lent) refl
    where
      by : (x : Result Unit Declared.Refusal) → agent_examined p stay lent ≡ x → P (asked_arrivals p g lent)
      by (Ok tt) e = rw e (fine e)
      by (Err why) e = rw e (refused why (wrong e))

  accepts : Accepts p g lent → asked_arrivals p g lent ≡ found
  unfolding asked_arrivals arrivals_at
  accepts e = rw e

  answers : {l : List TimePoint} {n : ℕ} →
      asked_arrivals p g lent ≡ Answered l n → Accepts p g lent × (found ≡ Answered l n)
  answers {l} {n} =
      by_input (λ a. a ≡ Answered l n → Accepts p g lent × (found ≡ Answered l n)) (λ f e. (f, e))
      (λ m h e. absurd (true≢false (cc e)))

  refuses : {why : Declared.Refusal} → asked_arrivals p g lent ≡ Refused why →
      ((why ≡ Refusals.Number) ⊎ (why ≡ Refusals.Shape)) ⊎ (Accepts p g lent × (found ≡ Refused why))
  refuses {why} =
      by_input
      (λ a. a ≡ Refused why → ((why ≡ Refusals.Number) ⊎ (why ≡ Refusals.Shape)) ⊎ (Accepts p g lent × (found ≡ Refused why)))
      (λ f e. inr (f, e))
      (λ own h e. let same : own ≡ why = cc e in inl (rw same at h))

  -- ---- Refusals.

  -- A search is refused 5, or it is stuck (RULES 4.5, 4.8).
  found_refused : {why : Declared.Refusal} → Accepts p g lent → found ≡ Refused why →
      (why ≡ Refusals.Creep) ⊎ ((why ≡ Refusals.Stuck) × Stuck (view_at g) (seen p lent) g.time)
  found_refused f e =
      let a = accepted p stay lent f in
      let os = obstacles_of lent in
      Theorems.refused (view_at g) (seen p lent) g.time (λ why. why ≡ Refusals.Creep)
      (all_ruled g p os a.others) (all_creep g p (leg_start stay a.own) a.profile os a.others) e

  refusal : {why : Declared.Refusal} → asked_arrivals p g lent ≡ Refused why → Refusal why
  refusal {why} e =
      ⊎_elim
      (⊎_elim (λ (one : why ≡ Refusals.Number). rw one by_numbers) (λ (two : why ≡ Refusals.Shape). rw two by_shape))
      (λ h. ⊎_elim (λ (five : why ≡ Refusals.Creep). rw five by_creep) (λ s. rw s.0 by_stuck) (found_refused h.0 h.1))
      (refuses e)

  not_nine : Refusal Refusals.Late → ⊥
  not_nine r = elim r [ ]

  is_stuck : asked_arrivals p g lent ≡ Refused Refusals.Stuck → Accepts p g lent × Stuck (view_at g) (seen p lent) g.time
  is_stuck e =
      ⊎_elim
      (λ wrong. absurd (⊎_elim one two wrong))
      (λ h. (h.0, (Theorems.stuck (view_at g) (seen p lent) g.time (all_early g (seen p lent))).0 h.1))
      (refuses e)
    where
      one : Refusals.Stuck ≢ Refusals.Number
      one h = true≢false cc

      two : Refusals.Stuck ≢ Refusals.Shape
      two h = true≢false cc

  pub demand_three : DemandThree p g lent
  demand_three =
      let v = view_at g in
      let os = seen p lent in
      record {
        at_most = λ e.
            let few = Theorems.at_most v os g.time (answers e).1 in
            let legs = legs_watched p (obstacles_of lent) in
            let moving = moving_few p (obstacles_of lent) in
            omega arith;
        finished = by_input (λ a. a ≢ Unfinished) (λ f. Theorems.finished v os g.time) (λ n h e. true≢false (cc e));
        rising = λ e. Theorems.rising v os g.time (answers e).1;
        later = Theorems.later v os;
        sources = λ {l} e.
            all_map (S.Source v os g.time) (Source p g (obstacles_of lent)) (source p g (obstacles_of lent)) l
            (Theorems.sources v os g.time (answers e).1);
        sequence = (
          λ e. ((answers e).0, (Theorems.sequence v os g.time).0 (answers e).1),
          λ h. accepts h.0 ∙ (Theorems.sequence v os g.time).1 h.1,
        );
        stuck = (is_stuck, λ h. accepts h.0 ∙ Theorems.stuck_is_refused v os g.time h.1);
        never_nine = λ e. not_nine (refusal e);
        refusals = refusal;
      }
