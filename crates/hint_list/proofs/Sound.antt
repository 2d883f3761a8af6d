-- Hints as the search finds them: with those before them at most 64, each at a place that it may have, and refused by few numbers
-- only (RULES 4.4, 4.7, 4.10).
-- Assumes nothing.
use Prim.Native.Nat.{ℕ, ◌+◌, ◌≤◌, ◌<◌}
use mathlib.Core.Path.{◌≡◌, refl}
use mathlib.Core.Logic.{◌⊎◌, inl, inr}
use mathlib.Core.Bool.{Bool, true, false, cond}
use mathlib.Core.List.{List, [], ◌∷◌, ◌++◌}
use native.Mathlib.Omega.{arith}
use borrow.Author.Tests.{leb-false}
use lib.Dec.{leb}
use lib.ListN.{length, length-append}
use Rattle.lent.specs.Listed.{every}
use Rattle.times.proofs.Exact.{both}
use Rattle.hint_list.specs.Hint.{is_placed}
use Rattle.hint_list.specs.Hints.{Hints, Of, Refused, one_hint, one_wait, found_first, found_then}
use Rattle.hint_list.specs.declared.hint.WaitHint.{WaitHint}
use Rattle.std.specs.Prelude.{Result, Ok, Err}
use Rattle.std.specs.Prelude.{Option, Some, None}
use Rattle.refusals.specs.declared.Refusal.{Refusal}
use Rattle.refusals.specs.declared.Refusal.TheVariants as Refusals
use Rattle.shapes.specs.declared.vector.Vector.{Vector}
use Rattle.times.specs.declared.time.TimePoint.{TimePoint}

-- What may be refused in the search for hints: no line, a number that strayed, a 65th hint.
abbrev pub MayBe : Refusal → Type 0
MayBe why = (why ≡ Refusals.NoLine) ⊎ ((why ≡ Refusals.Strayed) ⊎ (why ≡ Refusals.Full))

pub may_be_strayed : MayBe Refusals.Strayed
may_be_strayed = inr (inl refl)

pub may_be_full : MayBe Refusals.Full
may_be_full = inr (inr refl)

-- A hint whose coordinates are within RULES 4.7.
abbrev pub has_place : WaitHint → Bool
has_place h = is_placed h.place

-- Behind n others.
abbrev pub Sound : ℕ → Hints → Type 0
Sound n (Of hs) = (n + length hs ≤ 64) × (every has_place hs ≡ true)
Sound n (Refused why) = MayBe why

pub none_sound : (n : ℕ) → n ≤ 64 → Sound n (Of [])
unfolding every
none_sound n few = (omega arith, refl)

-- One hint is stored, or refused by 7 or 10 (RULES 10.42, 10.43).
pub hint_sound : (n : ℕ) (h : WaitHint) → Sound n (one_hint n h)
unfolding one_hint every
hint_sound n h = by (has_place h) (leb 64 n) refl refl
  where
    by : (p f : Bool) → has_place h ≡ p → leb 64 n ≡ f → Sound n (cond p (cond f (Refused Refusals.Full) (Of (h ∷ []))) (Refused Refusals.Strayed))
    by true false e g = let room : n < 64 = leb-false 64 n g in (omega arith, rw e)
    by true true e g = may_be_full
    by false f e g = may_be_strayed

-- What a part of the search answered, whose refusals are among those.
pub wait_sound : (n : ℕ) (wait : Result (Option (Vector × TimePoint)) Refusal) (obstacle : ℕ) →
    n ≤ 64 → ((why : Refusal) → wait ≡ Err why → MayBe why) → Sound n (one_wait n wait obstacle)
unfolding one_wait
wait_sound n (Ok (Some (p, until))) obstacle few may = hint_sound n (record { place = p; until = until; obstacle = obstacle })
wait_sound n (Ok None) obstacle few may = none_sound n few
wait_sound n (Err why) obstacle few may = may why refl

-- Whichever way a test goes.
pub either_sound : (n : ℕ) (b : Bool) (x y : Hints) → Sound n x → Sound n y → Sound n (cond b x y)
either_sound n true x y h k = h
either_sound n false x y h k = k

every_behind : (test : WaitHint → Bool) (l more : List WaitHint) →
    every test l ≡ true → every test more ≡ true → every test (l ++ more) ≡ true
unfolding every
every_behind test [] more e k = k
every_behind test (x ∷ l) more e k =
    let here = both (test x) (every test l) e in
    rw here.0 (every_behind test l more here.1 k)

-- What is found next behind them, if it is sound behind as many.
pub then_sound : (n : ℕ) (first : Hints) (go : ℕ → Hints) →
    Sound n first → ((m : ℕ) → m ≤ 64 → Sound m (go m)) → Sound n (found_then n first go)
unfolding found_then
then_sound n (Refused why) go s next = s
then_sound n (Of hs) go s next = by (go (n + length hs)) (next (n + length hs) s.0)
  where
    by : (found : Hints) → Sound (n + length hs) found → Sound n (found_first hs found)
    by (Of more) k =
        let long : length (hs ++ more) ≡ length hs + length more = length-append hs more in
        (omega (arith, long, k.0), every_behind has_place hs more s.1 k.1)
    by (Refused why) k = k
