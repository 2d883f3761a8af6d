-- A sweep of the definition is a sweep of the sequence: by its pushes, or by the push that had no result (RULES 12.4, 12.11).
-- Assumes nothing.
use mathlib.Core.Path.{◌≡◌, refl, ◌∙◌}
use mathlib.Core.Bool.{Bool, true, false, cond, true≢false}
use mathlib.Core.List.{List, [], ◌∷◌}
use Prim.Native.Nat.{ℕ, zero, suc}
use Rattle.times.specs.declared.time.TimePoint.{TimePoint}
use Rattle.arrival_search.specs.Search.{View, swept, adjust, sweep}
use Rattle.arrival_search.specs.Sweeps.{Sweep, done, quiet, push, Loses, lost, lost_quiet, lost_push}
use Rattle.arrival_search.specs.declared.turn.Adjustment.{Adjustment}
use Rattle.arrival_search.specs.declared.turn.Adjustment.TheVariants as A
use Rattle.arrival_search.specs.declared.turn.Swept.{Swept}
use Rattle.arrival_search.specs.declared.turn.Swept.TheVariants as W
use Rattle.std.specs.Prelude.{Result, Ok, Err}
use Rattle.refusals.specs.declared.Refusal.{Refusal}

-- What a sweep says whose n pushes left the candidate at b, with a push before them or none.
abbrev pub settled : Bool → ℕ → TimePoint → Result Swept Refusal
settled pushed zero b = cond pushed (Ok (W.Moved b)) (Ok W.Still)
settled pushed (suc n) b = Ok (W.Moved b)

settled_pushed : (n : ℕ) (b : TimePoint) → settled true n b ≡ Ok (W.Moved b)
settled_pushed zero b = refl
settled_pushed (suc n) b = refl

module _ {Leg : Type 0} (v : View Leg) where
  -- ---- From the sequence to the definition.

  -- The pushes leave the candidate where the sweep says.
  pub sweep_is : {os : List (List Leg)} {a b : TimePoint} {n : ℕ} →
      Sweep v os a n b → (pushed : Bool) → sweep v a pushed os ≡ settled pushed n b
  unfolding sweep
  sweep_is (done e) pushed = rw e
  sweep_is (quiet e s) pushed = rw e (sweep_is s pushed)
  sweep_is (push {b} {n} e s) pushed = rw e (sweep_is s true ∙ settled_pushed n b)

  -- A push with no result ends it (RULES 12.11).
  pub loses_is : {os : List (List Leg)} {a : TimePoint} → Loses v os a → (pushed : Bool) → sweep v a pushed os ≡ (Ok W.Lost)
  unfolding sweep
  loses_is (lost e) pushed = rw e
  loses_is (lost_quiet e h) pushed = rw e (loses_is h pushed)
  loses_is (lost_push e h) pushed = rw e (loses_is h true)

  -- ---- From the definition to the sequence.

  -- What an answer tells of the sweep from a on, before which there was a push or none.
  abbrev Told : Bool → List (List Leg) → TimePoint → Result Swept Refusal → Type 0
  Told pushed os a (Ok W.Still) = (pushed ≡ false) × Sweep v os a zero a
  Told pushed os a (Ok (W.Moved b)) = (n : ℕ) × ((settled pushed n b ≡ Ok (W.Moved b)) × Sweep v os a n b)
  Told pushed os a (Ok W.Lost) = Loses v os a
  Told pushed os a (Err why) = Unit {0}

  module _ (o : List Leg) (os : List (List Leg)) (a : TimePoint) (pushed : Bool) where
    quiet_told : adjust v a o ≡ (Ok A.Quiet) → (s : Result Swept Refusal) → Told pushed os a s → Told pushed (o ∷ os) a s
    quiet_told e (Ok W.Still) h = (h.0, quiet e h.1)
    quiet_told e (Ok (W.Moved b)) h = (h.0, (h.1.0, quiet e h.1.1))
    quiet_told e (Ok W.Lost) h = lost_quiet e h
    quiet_told e (Err why) h = tt

    push_told : (t : TimePoint) → adjust v a o ≡ Ok (A.Pushed t) → (s : Result Swept Refusal) → Told true os t s →
        Told pushed (o ∷ os) a s
    push_told t e (Ok W.Still) h = absurd (true≢false h.0)
    push_told t e (Ok (W.Moved b)) h = (suc h.0, (refl, push e h.1.1))
    push_told t e (Ok W.Lost) h = lost_push e h
    push_told t e (Err why) h = tt

    swept_told : (x : Result Adjustment Refusal) → adjust v a o ≡ x → (go : TimePoint → Bool → Result Swept Refusal) →
        ((t : TimePoint) (p : Bool) → Told p os t (go t p)) → Told pushed (o ∷ os) a (swept x a pushed go)
    swept_told (Ok A.Quiet) e go h = quiet_told e (go a pushed) (h a pushed)
    swept_told (Ok (A.Pushed t)) e go h = push_told t e (go t true) (h t true)
    swept_told (Ok A.Lost) e go h = lost e
    swept_told (Err why) e go h = tt

  sweep_told : (pushed : Bool) (os : List (List Leg)) (a : TimePoint) → Told pushed os a (sweep v a pushed os)
  unfolding sweep
  sweep_told true [] a = (zero, (refl, done refl))
  sweep_told false [] a = (refl, done refl)
  sweep_told pushed (o ∷ os) a =
      swept_told o os a pushed (adjust v a o) refl (λ t p. sweep v t p os) (λ t p. sweep_told p os t)

  module _ (os : List (List Leg)) (a : TimePoint) where
    -- Without a push the candidate stays (RULES 12.14).
    pub still_sweep : sweep v a false os ≡ (Ok W.Still) → Sweep v os a zero a
    still_sweep e = (rw e at (sweep_told false os a)).1

    -- With one at least, each with a result, it was pushed there (RULES 12.12, 12.13).
    pub moved_sweep : (b : TimePoint) → sweep v a false os ≡ Ok (W.Moved b) → (n : ℕ) × Sweep v os a (suc n) b
    moved_sweep b e = by h.0 h.1.0 h.1.1
      where
        h : (n : ℕ) × ((settled false n b ≡ Ok (W.Moved b)) × Sweep v os a n b)
        h = rw e at (sweep_told false os a)

        by : (n : ℕ) → settled false n b ≡ Ok (W.Moved b) → Sweep v os a n b → (m : ℕ) × Sweep v os a (suc m) b
        by zero z s = absurd (true≢false (cc))
        by (suc n) z s = (n, s)

    -- One had no result (RULES 12.11).
    pub lost_sweep : sweep v a false os ≡ (Ok W.Lost) → Loses v os a
    lost_sweep e = rw e at (sweep_told false os a)
