-- A hint that was stored is one more, and had room.
-- Assumes nothing.
use Prim.Native.Nat.{ℕ, ◌+◌, ◌<◌}
use mathlib.Core.Path.{◌≡◌, refl}
use mathlib.Core.Bool.{Bool, true, false, cond}
use mathlib.Core.List.{List, [], ◌∷◌}
use native.Mathlib.Omega.{arith}
use borrow.Author.Tests.{leb-false}
use lib.Dec.{leb}
use Rattle.hint_list.specs.Hint.{is_placed}
use Rattle.refusals.specs.declared.Refusal.TheVariants as Refusals
use Rattle.hint_list.specs.Hints.{Of, Refused, one_hint}
use Rattle.hint_list.specs.Adding.{Added, filled_of}
use Rattle.hint_list.specs.declared.hint.WaitHint.{WaitHint}
use Rattle.std.specs.Prelude.{Ok}

pub one_more : (n m : ℕ) (h : WaitHint) {lent left : List ℕ} → Added (one_hint n h) n lent left (Ok m) → (m ≡ n + 1) × (n < 64)
unfolding one_hint filled_of
one_more n m h a = by (is_placed h.place) (leb 64 n) refl a.filled
  where
    by : (p f : Bool) → leb 64 n ≡ f → Ok m ≡ filled_of n (cond p (cond f (Refused Refusals.Full) (Of (h ∷ []))) (Refused Refusals.Strayed)) →
        (m ≡ n + 1) × (n < 64)
    by true false e q = let same : m ≡ n + 1 = cc in (same, leb-false 64 n e)
    by true true e q = let z : ◌≡◌ {A = ℕ} 0 1 = cc in absurd (omega arith)
    by false f e q = let z : ◌≡◌ {A = ℕ} 0 1 = cc in absurd (omega arith)
