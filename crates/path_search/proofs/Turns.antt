-- A turn of the stack machine makes a pop or ends the search, so an answer comes in at most one turn more than there are pops
-- left (RULES 13.20, 13.21).
-- Assumes nothing.
use mathlib.Core.Path.{◌≡◌, refl, ap, ◌∙◌}
use mathlib.Core.Bool.{Bool, true, false}
use mathlib.Core.List.{List, [], ◌∷◌}
use Rattle.std.specs.Prelude.{Option, Some, None}
use Prim.Native.Nat.{ℕ, zero, suc, ◌+◌, ◌-◌, ◌<◌}
use native.Mathlib.Omega.{arith}
use borrow.Author.Tests.{leb-false}
use lib.Dec.{ltb, leb}
use Rattle.path_search.specs.declared.trial.Trial.{Trial}
use Rattle.path_search.specs.declared.trial.Trial.TheVariants as T
use Rattle.path_search.specs.Answer.{Chained, NoWay, Refused}
use Rattle.path_search.specs.Stack as S
use Rattle.path_search.specs.Stack.{Element, State, Running, Done, with_tested, last, started}
use Rattle.std.specs.Prelude.{Result, Ok, Err}
use Rattle.refusals.specs.declared.Refusal.{Refusal}
use Rattle.refusals.specs.declared.Refusal.TheVariants as Refusals

-- The search has ended, or p pops are made.
abbrev Made : ℕ → State → Type 0
Made p (Done a) = Unit {0}
Made p (Running s q) = q ≡ p

started_made : (t : Result Trial Refusal) (e : Element) (s : List Element) (p : ℕ) → Made p (started t e s p)
started_made (Ok T.Passed) e s p = tt
started_made (Ok T.Failed) e s p = refl
started_made (Err n) e s p = tt

module _ (to_parent : ℕ → Option ℕ → Result Trial Refusal) (from_start : ℕ → Result Trial Refusal) (reaches : ℕ → ℕ → Bool) (count budget : ℕ) where
  abbrev run : ℕ → State → State
  run = S.run to_parent from_start reaches count budget

  abbrev known : Bool → Element → List Element → ℕ → State
  known = S.known to_parent from_start reaches count budget

  abbrev counted : Bool → Element → List Element → ℕ → State
  counted = S.counted to_parent from_start reaches count budget

  -- From this state the machine answers a, however many turns it is given beyond the pops that are left.
  abbrev pub Ends : State → Chained → Type 0
  Ends (Done b) a = b ≡ a
  Ends (Running s p) a = (n : ℕ) → budget - p < n → run n (Running s p) ≡ Done a

  -- After its pop is counted a turn makes no other.
  into_made : (c : Option ℕ) (e : Element) (s : List Element) (p : ℕ) →
      Made p (S.into to_parent from_start reaches count budget c e s p)
  into_made None e s p = started_made (from_start e.index) e s p
  into_made (Some c) e s p = refl

  arrived_made : (t : Result Trial Refusal) (e : Element) (s : List Element) (p : ℕ) →
      Made p (S.arrived to_parent from_start reaches count budget t e s p)
  arrived_made (Ok T.Passed) e s p = into_made e.child (with_tested e) s p
  arrived_made (Ok T.Failed) e s p = refl
  arrived_made (Err n) e s p = tt

  visit_made : (b : Bool) (e : Element) (s : List Element) (p : ℕ) →
      Made p (S.visit to_parent from_start reaches count budget b e s p)
  visit_made true e s p = into_made e.child e s p
  visit_made false e s p = arrived_made (to_parent e.index (last s)) e s p

  known_made : (b : Bool) (e : Element) (s : List Element) (p : ℕ) → Made p (known b e s p)
  known_made true e s p = visit_made e.tested e s p
  known_made false e s p = refl

  run_done : (n : ℕ) (a : Chained) → run n (Done a) ≡ Done a
  unfolding S.run
  run_done zero a = refl
  run_done (suc n) a = refl

  resumed : (n p : ℕ) (st : State) (a : Chained) → Made p st → budget - p < n → Ends st a → run n st ≡ Done a
  resumed n p (Done b) a made left h = run_done n b ∙ ap Done h
  resumed n p (Running s q) a made left h = h n (omega arith)

  counted_back : (n p : ℕ) (e : Element) (s : List Element) (a : Chained) → budget - p < suc n →
      (b : Bool) → leb budget p ≡ b → Ends (counted b e s p) a → run n (counted b e s p) ≡ Done a
  counted_back n p e s a left true spent h = run_done n (Refused Refusals.Spent p) ∙ ap Done h
  counted_back n p e s a left false spent h =
      let there = ltb e.index count in
      let within : p < budget = leb-false budget p spent in
      resumed n (p + 1) (known there e s (p + 1)) a (known_made there e s (p + 1)) (omega arith) h

  -- What is answered after a turn is answered before it.
  pub step_back : (s : List Element) (p : ℕ) (a : Chained) →
      Ends (S.step to_parent from_start reaches count budget s p) a → Ends (Running s p) a
  unfolding S.step S.run
  step_back [] p a h zero left = absurd (omega arith)
  step_back [] p a h (suc n) left = run_done n (NoWay p) ∙ ap Done h
  step_back (e ∷ s) p a h zero left = absurd (omega arith)
  step_back (e ∷ s) p a h (suc n) left = counted_back n p e s a left (leb budget p) refl h
