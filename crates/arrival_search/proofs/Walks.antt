-- What obstacles and sweeps make of a candidate: itself, a later exit or finish, or a refusal of a leg (RULES 12.4 to 12.17).
-- Assumes nothing.
use mathlib.Core.Path.{◌≡◌, refl, sym, subst}
use mathlib.Core.Logic.{◌⊎◌, inl, inr, ⊎_elim}
use mathlib.Core.Bool.{Bool, true, false, cond, ◌&&◌, true≢false}
use mathlib.Core.List.{List, [], ◌∷◌}
use lib.Signed.{lt_z, ◌≤ℤ◌, lt_z_yes, lt_z_no}
use Rattle.floats.proofs.Tests.{passed, failed}
use Rattle.times.specs.declared.time.TimePoint.{TimePoint}
use Rattle.times.proofs.Integers.{at_most_trans}
use Rattle.times.proofs.Exact.{both}
use Rattle.arrival_search.specs.Legs.{Says, meets, sooner}
use Rattle.arrival_search.specs.Legs as S
use Rattle.arrival_search.specs.Search.{View, looked, or_next, found, swept, finish, last, says, exits, flee, look, adjust}
use Rattle.arrival_search.specs.Search.{next_at, next_in, next, soonest, sweep}
use Rattle.arrival_search.specs.Sweeps.{All, finish_of, Fair, Joined, Ruled}
use Rattle.arrival_search.specs.declared.turn.Adjustment.{Adjustment}
use Rattle.arrival_search.specs.declared.turn.Adjustment.TheVariants as A
use Rattle.arrival_search.specs.declared.turn.Swept.{Swept}
use Rattle.arrival_search.specs.declared.turn.Swept.TheVariants as W
use Rattle.arrival_search.proofs.Instants.{by_cond, below_trans}
use Rattle.arrival_search.proofs.Lists.{all_of}
use Rattle.arrival_search.proofs.Legs.{OnSays, OnNext, Later, Onward, LegGives, Timely}
use Rattle.arrival_search.proofs.Legs.{says_gives, exits_gives, next_at_gives, sooner_gives}
use Rattle.std.specs.Prelude.{Result, Ok, Err}
use Rattle.std.specs.Prelude.{Option, Some, None}
use Rattle.refusals.specs.declared.Refusal.{Refusal}
use Rattle.refusals.specs.declared.Refusal.TheVariants as Refusals

-- Q holds of the instant, R of the refusal, where there is one.
abbrev pub OnAdjustment : (TimePoint → Type 0) → (Refusal → Type 0) → Result Adjustment Refusal → Type 0
OnAdjustment Q R (Ok A.Quiet) = Unit {0}
OnAdjustment Q R (Ok (A.Pushed t)) = Q t
OnAdjustment Q R (Ok A.Lost) = Unit {0}
OnAdjustment Q R (Err why) = R why

abbrev pub OnSwept : (TimePoint → Type 0) → (Refusal → Type 0) → Result Swept Refusal → Type 0
OnSwept Q R (Ok W.Still) = Unit {0}
OnSwept Q R (Ok (W.Moved t)) = Q t
OnSwept Q R (Ok W.Lost) = Unit {0}
OnSwept Q R (Err why) = R why

onward_trans : (Q : TimePoint → Type 0) {a b c : TimePoint} → Onward Q a b → Onward Q b c → Onward Q a c
onward_trans Q {c} (inl e) s = subst (λ (x : TimePoint). Onward Q x c) e s
onward_trans Q {a} (inr h) (inl e) = inr (subst (Later Q a) (sym e) h)
onward_trans Q (inr h) (inr k) = inr (below_trans h.0 k.0, k.1)

looked_gives : (Q : TimePoint → Type 0) (R : Refusal → Type 0) (s : Says) (go flee : Unit {0} → Result Adjustment Refusal) →
    OnSays Q R s →
    OnAdjustment Q R (go tt) → (s ≡ S.Held → OnAdjustment Q R (flee tt)) → OnAdjustment Q R (looked s go flee)
looked_gives Q R S.Pass go flee h k m = k
looked_gives Q R S.Clear go flee h k m = tt
looked_gives Q R S.Held go flee h k m = m refl
looked_gives Q R (S.Out t) go flee h k m = h
looked_gives Q R (S.Refused why) go flee h k m = h

or_else_gives : (Q : TimePoint → Type 0) (R : Refusal → Type 0) (t : Result (Option TimePoint) Refusal) (go : Unit {0} →
    Result (Option TimePoint) Refusal) →
    OnNext Q R t → OnNext Q R (go tt) → OnNext Q R (or_next t go)
or_else_gives Q R (Ok None) go h k = k
or_else_gives Q R (Ok (Some t)) go h k = h
or_else_gives Q R (Err why) go h k = h

found_gives : (Q : TimePoint → Type 0) (R : Refusal →
    Type 0) (t best : Result (Option TimePoint) Refusal) (go : Result (Option TimePoint) Refusal →
    Result (Option TimePoint) Refusal) →
    OnNext Q R t → OnNext Q R best → ((b : Result (Option TimePoint) Refusal) → OnNext Q R b → OnNext Q R (go b)) →
    OnNext Q R (found t best go)
found_gives Q R (Ok None) best go h b k = k best b
found_gives Q R (Ok (Some t)) best go h b k = k (sooner t best) (sooner_gives Q R t best h b)
found_gives Q R (Err why) best go h b k = h

swept_map : (Q F : TimePoint → Type 0) (R : Refusal → Type 0) → ((t : TimePoint) → Q t → F t) →
    (s : Result Swept Refusal) → OnSwept Q R s → OnSwept F R s
swept_map Q F R f (Ok W.Still) h = tt
swept_map Q F R f (Ok (W.Moved t)) h = f t h
swept_map Q F R f (Ok W.Lost) h = tt
swept_map Q F R f (Err why) h = h

swept_gives : (Q : TimePoint → Type 0) (R : Refusal → Type 0) (a : Result Adjustment Refusal) (c : TimePoint) (pushed : Bool)
    (go : TimePoint → Bool → Result Swept Refusal) → OnAdjustment (Onward Q c) R a →
    ((t : TimePoint) (p : Bool) → OnSwept (Onward Q t) R (go t p)) → OnSwept (Onward Q c) R (swept a c pushed go)
swept_gives Q R (Ok A.Quiet) c pushed go h k = k c pushed
swept_gives Q R (Ok (A.Pushed t)) c pushed go h k =
    swept_map (Onward Q t) (Onward Q c) R (λ u. onward_trans Q h) (go t true) (k t true)
swept_gives Q R (Ok A.Lost) c pushed go h k = tt
swept_gives Q R (Err why) c pushed go h k = h

module _ {Leg : Type 0} (v : View Leg) (Q : TimePoint → Type 0) (R : Refusal → Type 0) where
  -- Q holds of its exits and its finish, R of the refusals of its legs, and of 9 too unless the legs are ruled.
  pub record ObstacleGives (o : List Leg) : Type 0 where
    pub legs : All (LegGives v Q R) o
    pub finishes : All Q (finish_of v o)
    pub nine : R Refusals.Late ⊎ Ruled v o

  -- ---- An exit after a violation is in time (RULES 12.8, 12.9).

  -- A leg that holds the candidate does not end before it.
  held_until : (c : TimePoint) (l : Leg) → says v c l ≡ S.Held → c.0 ≤ℤ (v.end l).0
  held_until c l = by (lt_z (v.end l).0 c.0) refl
    where
      by : (b : Bool) → lt_z (v.end l).0 c.0 ≡ b →
          cond b S.Pass (cond (lt_z c.0 (v.start l).0) S.Clear (meets c (v.near l))) ≡ S.Held → c.0 ≤ℤ (v.end l).0
      by true e held = absurd (true≢false (cc))
      by false e held = lt_z_no (failed e)

  -- The legs after one that does not end before c.
  after_timely : (c : TimePoint) (l : Leg) (ls : List Leg) →
      c.0 ≤ℤ (v.end l).0 → Joined v l ls → Ruled v ls → All (Timely v Q R c) ls
  after_timely c l [] h joined ruled = tt
  after_timely c l (m ∷ ls) h joined ruled =
      let begins : c.0 ≤ℤ (v.start m).0 = rw joined at h in
      let fair : Fair v m = ruled.0 in (
        λ enter exit e. inr (at_most_trans c.0 (v.start m).0 exit.0 begins (fair.exit_after_start enter exit e)),
        after_timely c m ls (at_most_trans c.0 (v.start m).0 (v.end m).0 begins fair.rises) ruled.1.0 ruled.1.1,
      )

  -- So no exit after a violation is late, unless R holds of 9 anyway.
  held_timely : (c : TimePoint) (l : Leg) (ls : List Leg) → R Refusals.Late ⊎ Ruled v (l ∷ ls) → says v c l ≡ S.Held →
      All (Timely v Q R c) ls
  held_timely c l ls (inl nine) held = all_of (Timely v Q R c) (λ m enter exit e. inl nine) ls
  held_timely c l ls (inr ruled) held = after_timely c l ls (held_until c l held) ruled.1.0 ruled.1.1

  -- ---- The candidate adjusted (RULES 12.4 to 12.10).

  flee_gives : (c f : TimePoint) (ls : List Leg) → Q f → All (LegGives v Q R) ls → All (Timely v Q R c) ls →
      OnAdjustment (Onward Q c) R (flee v c f ls)
  unfolding flee
  flee_gives c f [] q g timely =
      by_cond (OnAdjustment (Onward Q c) R) (lt_z c.0 f.0) (λ k. inr (lt_z_yes (passed k), q)) (λ _. tt)
  flee_gives c f (l ∷ ls) q g timely =
      let rest = flee_gives c f ls q g.1 timely.1 in
      looked_gives (Onward Q c) R (exits v c l) (λ _. flee v c f ls) (λ _. flee v c f ls)
      (exits_gives v Q R c l g.0 timely.0) rest (λ _. rest)

  look_gives : (c f : TimePoint) (ls : List Leg) → Q f → All (LegGives v Q R) ls → R Refusals.Late ⊎ Ruled v ls →
      OnAdjustment (Onward Q c) R (look v c f ls)
  unfolding look
  look_gives c f [] q g nine = tt
  look_gives c f (l ∷ ls) q g nine =
      looked_gives (Onward Q c) R (says v c l) (λ _. look v c f ls) (λ _. flee v c f ls)
      (says_gives v Q R c l g.0) (look_gives c f ls q g.1 (⊎_elim inl (λ ruled. inr ruled.1.1) nine))
      (λ held. flee_gives c f ls q g.1 (held_timely c l ls nine held))

  adjust_gives : (c : TimePoint) (o : List Leg) → ObstacleGives o → OnAdjustment (Onward Q c) R (adjust v c o)
  unfolding adjust
  adjust_gives c [] g = tt
  adjust_gives c (l ∷ ls) g = look_gives c (finish v l ls) (l ∷ ls) g.finishes.0 g.legs g.nine

  -- A sweep leaves the candidate, or takes it to a later exit or finish (RULES 12.4).
  pub sweep_gives : (c : TimePoint) (pushed : Bool) (os : List (List Leg)) → All ObstacleGives os →
      OnSwept (Onward Q c) R (sweep v c pushed os)
  unfolding sweep
  sweep_gives c true [] g = inl refl
  sweep_gives c false [] g = tt
  sweep_gives c pushed (o ∷ os) g =
      swept_gives Q R (adjust v c o) c pushed (λ t p. sweep v t p os)
      (adjust_gives c o g.0) (λ t p. sweep_gives t p os g.1)

  -- ---- The next candidate (RULES 12.15 to 12.17).

  next_in_gives : (p : TimePoint) (end : Result (Option TimePoint) Refusal) (ls : List Leg) → OnNext (Later Q p) R end →
      All (LegGives v Q R) ls →
      OnNext (Later Q p) R (next_in v p end ls)
  unfolding next_in
  next_in_gives p end [] h g = h
  next_in_gives p end (l ∷ ls) h g =
      or_else_gives (Later Q p) R (next_at v p l) (λ _. next_in v p end ls)
      (next_at_gives v Q R p l g.0) (next_in_gives p end ls h g.1)

  next_gives : (p : TimePoint) (o : List Leg) → ObstacleGives o → OnNext (Later Q p) R (next v p o)
  unfolding next
  next_gives p [] g = tt
  next_gives p (l ∷ ls) g =
      let f = finish v l ls in
      let near = v.ends_near (last v l ls) in
      next_in_gives p (cond (lt_z p.0 f.0 && near) (Ok (Some f)) (Ok None)) (l ∷ ls)
      (by_cond (OnNext (Later Q p) R) (lt_z p.0 f.0 && near)
      (λ k. (lt_z_yes (passed (both (lt_z p.0 f.0) near k).0), g.finishes.0)) (λ _. tt))
      g.legs

  -- The next candidate is a later exit or finish (RULES 12.17).
  pub soonest_gives : (p : TimePoint) (best : Result (Option TimePoint) Refusal) (os : List (List Leg)) →
      OnNext (Later Q p) R best → All ObstacleGives os →
      OnNext (Later Q p) R (soonest v p best os)
  unfolding soonest
  soonest_gives p best [] h g = h
  soonest_gives p best (o ∷ os) h g =
      found_gives (Later Q p) R (next v p o) best (λ t. soonest v p t os) (next_gives p o g.0) h
      (λ t k. soonest_gives p t os k g.1)
