-- The rounds go on a round at a time. Their bound is no rule of its own: it is never met but where a 65th hint is refused, and a
-- larger one changes nothing.
-- Assumes nothing.
use Prim.Native.Nat.{ℕ, zero, suc, ◌+◌, ◌-◌, ◌≤◌, ◌<◌}
use mathlib.Core.Path.{◌≡◌, refl, sym, ap, ◌∙◌}
use mathlib.Core.Bool.{Bool, true, false, cond}
use mathlib.Core.List.{[], ◌∷◌}
use native.Mathlib.Omega.{arith}
use borrow.Author.Tests.{le-leb, leb-false}
use lib.Dec.{leb}
use lib.Ieee.{Float}
use Rattle.courses.specs.declared.course.Course.{Course}
use Rattle.courses.specs.declared.course.Run.{Run}
use Rattle.hint_list.specs.Hint.{is_placed}
use Rattle.refusals.specs.declared.Refusal.TheVariants as Refusals
use Rattle.hint_list.specs.Hints.{Hints, Of, Refused, one_hint, found_first, found_then}
use Rattle.hint_list.specs.declared.hint.WaitHint.{WaitHint}
use Rattle.hint_chasing.specs.declared.chase.Chase.{Chase}
use Rattle.hint_sawtooth.specs.Rounds.{round_of, after_round, rounds_in, rounds_from}
use Rattle.hint_sawtooth.specs.declared.rounds.Round.{Round}
use Rattle.hint_sawtooth.specs.declared.rounds.Round.TheVariants.{Next, Last}
use Rattle.std.specs.Prelude.{Result, Ok, Err}
use Rattle.times.specs.declared.time.Strayed.{Strayed}

-- A round goes on the same way by two sets of rounds that agree wherever its hint is stored.
same_round : (n : ℕ) (r : Result Round Strayed) (go other : ℕ → Float → Float → Hints) →
    (n < 64 → (s t : Float) → go (n + 1) s t ≡ other (n + 1) s t) → after_round n r go ≡ after_round n r other
unfolding one_hint found_then
same_round n (Ok (Next h s t)) go other agree = by (is_placed h.place) (leb 64 n) refl
  where
    found : Bool → Bool → Hints
    found p f = cond p (cond f (Refused Refusals.Full) (Of (h ∷ []))) (Refused Refusals.Strayed)

    by : (p f : Bool) → leb 64 n ≡ f → found_then n (found p f) (λ m. go m s t) ≡ found_then n (found p f) (λ m. other m s t)
    by true false e = ap (found_first (h ∷ [])) (agree (leb-false 64 n e) s t)
    by true true e = refl
    by false f e = refl
same_round n (Ok (Last h)) go other agree = refl
same_round n (Err _) go other agree = refl

module _ (agent : Course) (leg : Run) (chase : Chase) (obstacle : ℕ) where
  -- A round, and behind its hint, if it is stored and not the last, the rounds from where it ended (RULES 10.22, 10.23).
  pub one_round : (n : ℕ) (s t : Float) →
      rounds_from agent leg chase obstacle n s t ≡
      after_round n (round_of agent leg chase obstacle s t) (rounds_from agent leg chase obstacle)
  unfolding rounds_in
  one_round n s t = by (64 - n) refl
    where
      by : (room : ℕ) → 64 - n ≡ room →
          rounds_in room agent leg chase obstacle n s t ≡
          after_round n (round_of agent leg chase obstacle s t) (rounds_from agent leg chase obstacle)
      by zero e = same_round n (round_of agent leg chase obstacle s t) _ _ (λ room s1 t1. absurd (omega arith))
      by (suc room) e =
          let less : room ≡ 64 - (n + 1) = omega arith in
          same_round n (round_of agent leg chase obstacle s t) _ _ (λ _ s1 t1.
          ap (λ (k : ℕ). rounds_in k agent leg chase obstacle (n + 1) s1 t1) less)

  -- Where the bound is met there are 64 hints, and the answer is the same whatever stood for the rounds that follow (RULES 10.23).
  pub bound_unmet : (n : ℕ) (s t : Float) (go : ℕ → Float → Float → Hints) → 64 - n ≡ 0 →
      rounds_from agent leg chase obstacle n s t ≡ after_round n (round_of agent leg chase obstacle s t) go
  bound_unmet n s t go none =
      one_round n s t ∙ same_round n (round_of agent leg chase obstacle s t) _ go (λ room s1 t1. absurd (omega arith))

  -- A hint of that round, its numbers within row 7, is the 65th, and refused by 10 (RULES 10.43).
  pub bound_is_the_65th : (n : ℕ) (s t s1 t1 : Float) (h : WaitHint) → 64 - n ≡ 0 →
      round_of agent leg chase obstacle s t ≡ Ok (Next h s1 t1) → is_placed h.place ≡ true →
      (rounds_from agent leg chase obstacle n s t ≡ one_hint n h) × (one_hint n h ≡ Refused Refusals.Full)
  unfolding one_hint found_then
  bound_is_the_65th n s t s1 t1 h none e placed =
      let full : 64 ≤ n = omega arith in
      (one_round n s t ∙ rw (e, placed, le-leb 64 n full), rw (placed, le-leb 64 n full))

  -- However much larger the bound is, the rounds are the same (RULES 10.23).
  pub larger_bound : (room n : ℕ) (s t : Float) → 64 - n ≤ room →
      rounds_in room agent leg chase obstacle n s t ≡ rounds_from agent leg chase obstacle n s t
  unfolding rounds_in
  larger_bound zero n s t more = let none : 64 - n ≡ 0 = omega arith in rw none
  larger_bound (suc room) n s t more =
      same_round n (round_of agent leg chase obstacle s t) _ _ (λ _ s1 t1. larger_bound room (n + 1) s1 t1 (omega arith)) ∙
      sym (one_round n s t)
