-- Following keeps the hints sound: a hint of it is stored at a place that it may have, and it refuses by 7 and 10 only.
-- Assumes nothing.
use Prim.Native.Nat.{ℕ, zero, suc, ◌-◌, ◌≤◌}
use mathlib.Core.Path.{◌≡◌, refl}
use lib.Ieee.{Float}
use Rattle.times.specs.Time.{instant_of_seconds}
use Rattle.shapes.specs.Vector.{dot_of}
use Rattle.shapes.specs.declared.vector.Vector.{Vector}
use Rattle.courses.specs.declared.course.Course.{Course}
use Rattle.courses.specs.declared.course.Run.{Run}
use Rattle.hint_list.specs.Hints.{Hints, one_hint}
use Rattle.hint_list.proofs.Sound.{Sound, may_be_strayed, may_be_full, none_sound, hint_sound, either_sound, then_sound}
use Rattle.hint_chasing.specs.Chase.{first_seen, chase_of, opening_of}
use Rattle.hint_sawtooth.specs.Rounds.{round_of, after_round, rounds_in}
use Rattle.hint_following.specs.Follow.{stop_hint, opened, is_followed, follow_hints}
use Rattle.hint_chasing.specs.declared.chase.Gaps.{Gaps}
use Rattle.hint_chasing.specs.declared.chase.Chase.{Chase}
use Rattle.hint_chasing.specs.declared.chase.Opening.{Opening}
use Rattle.hint_chasing.specs.declared.chase.Opening.TheVariants.{Waits, Goes}
use Rattle.hint_sawtooth.specs.declared.rounds.Round.{Round}
use Rattle.hint_sawtooth.specs.declared.rounds.Round.TheVariants.{Next, Last}
use Rattle.std.specs.Prelude.{Result, Ok, Err}
use Rattle.times.specs.declared.time.Strayed.{Strayed}
use Rattle.times.specs.declared.time.TimePoint.{TimePoint}

-- ---- The rounds.

round_sound : (n : ℕ) (round : Result Round Strayed) (go : ℕ → Float → Float → Hints) →
    ((m : ℕ) (s t : Float) → m ≤ 64 → Sound m (go m s t)) → Sound n (after_round n round go)
round_sound n (Ok (Next h s t)) go next = then_sound n (one_hint n h) (λ m. go m s t) (hint_sound n h) (λ m. next m s t)
round_sound n (Ok (Last h)) go next = hint_sound n h
round_sound n (Err _) go next = may_be_strayed

module _ (agent : Course) (leg : Run) (obstacle : ℕ) where
  rounds_sound : (room : ℕ) (chase : Chase) (n : ℕ) (s t : Float) → Sound n (rounds_in room agent leg chase obstacle n s t)
  unfolding rounds_in
  rounds_sound zero chase n s t = round_sound n (round_of agent leg chase obstacle s t) _ (λ m s1 t1 few. may_be_full)
  rounds_sound (suc room) chase n s t =
      round_sound n (round_of agent leg chase obstacle s t) (rounds_in room agent leg chase obstacle)
      (λ m s1 t1 few. rounds_sound room chase m s1 t1)

  -- ---- From the first sight on.

  stop_sound : (n : ℕ) (p : Vector) (t : Float) → Sound n (stop_hint n p t obstacle)
  unfolding stop_hint
  stop_sound n p t = by (instant_of_seconds t) refl
    where
      by : (i : Result TimePoint Strayed) → instant_of_seconds t ≡ i → Sound n (stop_hint n p t obstacle)
      by (Ok tp) e = rw e (hint_sound n (record { place = p; until = tp; obstacle = obstacle }))
      by (Err _) e = rw e may_be_strayed

  opened_sound : (chase : Chase) (o : Opening) (n : ℕ) → Sound n (opened agent leg chase obstacle o n)
  unfolding opened
  opened_sound chase (Waits p s t) n =
      then_sound n (stop_hint n p t obstacle) _ (stop_sound n p t) (λ m few. rounds_sound (64 - m) chase m s t)
  opened_sound chase (Goes s t) n = rounds_sound (64 - n) chase n s t

  -- Whatever the numbers are (RULES 10.16 to 10.23).
  pub follow_sound : (gaps : Gaps) (aligned : Float) (n : ℕ) → n ≤ 64 → Sound n (follow_hints agent leg gaps aligned obstacle n)
  unfolding follow_hints
  follow_sound gaps aligned n few = by (first_seen agent leg) refl
    where
      by : (s : Result (Vector × Float) Strayed) → first_seen agent leg ≡ s → Sound n (follow_hints agent leg gaps aligned obstacle n)
      by (Ok (apart, t)) e =
          let ahead = dot_of apart agent.direction in
          let chase = chase_of agent leg gaps aligned ahead in
          let begun = opened_sound chase (opening_of agent gaps.follow aligned ahead t) n in
          rw e (either_sound n (is_followed agent gaps apart) _ _ begun (none_sound n few))
      by (Err _) e = rw e may_be_strayed
