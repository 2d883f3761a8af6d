-- Sums of integers over the crews: what one crew's total gains, all totals together gain, and no line is counted twice or left out.
-- Assumes nothing.
use Prim.Native.Nat.{ℕ, zero, suc, ◌+◌, ◌≤◌, ◌<◌}
use mathlib.Core.Path.{◌≡◌, refl, sym, ap, ◌∙◌}
use mathlib.Core.Bool.{Bool, true, false, cond}
use mathlib.Core.List.{List, [], ◌∷◌}
use native.Mathlib.Omega.{arith}
use lib.Dec.{eqb}
use lib.IntN.{ℤ, pos, ◌+ℤ◌, +ℤ_assoc, +ℤ_comm}
use borrow.Author.Tests.{eqb-true, eqb-false, ne_eqb}
use Rattle.lent.specs.Listed.{listed}
use Rattle.lent.proofs.Listed.{listed_same}
use Rattle.hold_lines.specs.Text.{Held}
use Rattle.hold_figures.specs.Crews.{holds_of, total_of}
use Rattle.hold_claims.specs.Claims.{all_holds}

-- A function that says z more at one place.
abbrev more_at : ℕ → ℤ → (ℕ → ℤ) → ℕ → ℤ
more_at place z f i = cond (eqb place i) (z +ℤ f i) (f i)

-- A place before the range adds nothing to its sum;
sum_outside : (place : ℕ) (z : ℤ) (f : ℕ → ℤ) (n i : ℕ) → place < i →
    total_of (listed (more_at place z f) n i) ≡ total_of (listed f n i)
sum_outside place z f n i h =
    ap total_of (listed_same (more_at place z f) f n i (λ j l r. rw (ne_eqb place j (λ e. omega (arith, e)))))

-- one within it adds z, once.
sum_within : (place : ℕ) (z : ℤ) (f : ℕ → ℤ) (n i : ℕ) → i ≤ place → place < i + n →
    total_of (listed (more_at place z f) n i) ≡ z +ℤ total_of (listed f n i)
unfolding listed total_of
sum_within place z f zero i h k = absurd (omega arith)
sum_within place z f (suc n) i h k = by (eqb place i) refl (sum_within place z f n (suc i))
  where
    rest : ℤ
    rest = total_of (listed f n (suc i))

    by : (b : Bool) → eqb place i ≡ b →
        (suc i ≤ place → place < suc i + n → total_of (listed (more_at place z f) n (suc i)) ≡ z +ℤ rest) →
        cond b (z +ℤ f i) (f i) +ℤ total_of (listed (more_at place z f) n (suc i)) ≡ z +ℤ (f i +ℤ rest)
    by true e later =
        ap (λ s. z +ℤ f i +ℤ s) (sum_outside place z f n (suc i) (omega (arith, eqb-true place i e))) ∙ +ℤ_assoc z (f i) rest
    by false e later =
        let away : suc i ≤ place = omega (arith, h, eqb-false place i e) in
        ap (λ s. f i +ℤ s) (later away (omega arith)) ∙ sym (+ℤ_assoc (f i) z rest) ∙
        ap (λ s. s +ℤ rest) (+ℤ_comm (f i) z) ∙ +ℤ_assoc z (f i) rest

-- Nothing at all sums up to nothing.
sum_nothing : (n i : ℕ) → total_of (listed (λ crew. pos 0) n i) ≡ pos 0
unfolding listed total_of
sum_nothing zero i = refl
sum_nothing (suc n) i = ap (λ s. pos 0 +ℤ s) (sum_nothing n (suc i))

-- A crew's total with one line more in front.
total_with : (crew : ℕ) (h : Held) (hs : List Held) →
    total_of (holds_of crew (h ∷ hs)) ≡ more_at h.crew h.hold (λ c. total_of (holds_of c hs)) crew
unfolding holds_of total_of
total_with crew h hs = by (eqb h.crew crew)
  where
    by : (b : Bool) → total_of (cond b (h.hold ∷ holds_of crew hs) (holds_of crew hs)) ≡
        cond b (h.hold +ℤ total_of (holds_of crew hs)) (total_of (holds_of crew hs))
    by true = refl
    by false = refl

-- Every line's crew is below n.
abbrev pub CrewsBelow : ℕ → List Held → Type 0
CrewsBelow n [] = Unit {0}
CrewsBelow n (h ∷ hs) = (h.crew < n) × CrewsBelow n hs

-- The totals of the crews below n together are the sum of all lines.
pub totals_together : (n : ℕ) (hs : List Held) → CrewsBelow n hs →
    total_of (listed (λ crew. total_of (holds_of crew hs)) n 0) ≡ total_of (all_holds hs)
unfolding all_holds total_of holds_of
totals_together n [] h = sum_nothing n 0
totals_together n (h ∷ hs) (below, rest) =
    let totals : ℕ → ℤ = λ crew. total_of (holds_of crew hs) in
    ap total_of (listed_same (λ crew. total_of (holds_of crew (h ∷ hs))) (more_at h.crew h.hold totals) n 0
    (λ crew l r. total_with crew h hs)) ∙
    sum_within h.crew h.hold totals n 0 (omega arith) (omega (arith, below)) ∙
    ap (λ s. h.hold +ℤ s) (totals_together n hs rest)
