-- `before` is strict, and "b does not go before a" is total and, for reaches that are no NaN, transitive (RULES 11.6).
-- Assumes nothing.
use mathlib.Core.Path.{◌≡◌, refl, sym, ◌∙◌}
use mathlib.Core.Logic.{◌⊎◌, inl, inr}
use mathlib.Core.Bool.{Bool, true, false, cond, true≢false}
use mathlib.Mathlib.Data.Bool.Basic.{eq-false_of_not-eq-true}
use lib.IntN.{ℤ}
use lib.Signed.{lt_z, ◌≤ℤ◌, ◌<ℤ◌, lt_z_yes, lt_z_no, clash_ℤ, <ℤ-≤ℤ_trans}
use lib.Ieee.{Float, lt}
use Rattle.floats.proofs.Relations.{Known}
use Rattle.floats.proofs.Tests.{passed, failed, is_true}
use Rattle.floats.proofs.Preorder.{le_trans}
use Rattle.floats.proofs.Strict.{lt→le, le→not-lt, not-lt→le}
use Rattle.times.proofs.Integers.{below→at-most, at-most→not-below, at_most_trans, below_or_at_most}
use Rattle.hint_list.specs.declared.hint.RankedHint.{RankedHint}
use Rattle.hint_ranking.specs.Ranked.{goes_before, is_known}

at_most_below : (x y z : ℤ) → x ≤ℤ y → y <ℤ z → x <ℤ z
at_most_below x y z h k = elim (below_or_at_most x z) [ inl l ↦ l | inr g ↦ clash_ℤ k (at_most_trans z x y g h) ]

lt_asym : (x y : Float) → lt x y ≡ true → lt y x ≡ false
lt_asym x y h = le→not-lt x y (lt→le x y (passed h))

not_lt_trans : (x y z : Float) → Known x → Known y → Known z → lt y x ≡ false → lt z y ≡ false → lt z x ≡ false
not_lt_trans x y z p q r h k =
    le→not-lt x z (le_trans x y z (not-lt→le y x q p (failed h)) (not-lt→le z y r q (failed k)))

-- How late the agent is that waits there.
abbrev late : RankedHint → ℤ
late h = h.contour.0

-- Why b does not go before a: the contour of a is smaller, or neither the contour nor the reach of b is.
abbrev Behind : RankedHint → RankedHint → Type 0
Behind a b = (late a <ℤ late b) ⊎ ((late a ≤ℤ late b) × (lt b.reach a.reach ≡ false))

behind : (a b : RankedHint) → goes_before b a ≡ false → Behind a b
unfolding goes_before
behind a b = by (lt_z (late b) (late a)) (lt_z (late a) (late b)) refl refl
  where
    by : (p q : Bool) → lt_z (late b) (late a) ≡ p → lt_z (late a) (late b) ≡ q →
        cond p true (cond q false (lt b.reach a.reach)) ≡ false → Behind a b
    by true q e f h = absurd (true≢false h)
    by false true e f h = inl (lt_z_yes (passed f))
    by false false e f h = inr (lt_z_no (failed e), h)

not_before : (a b : RankedHint) → Behind a b → goes_before b a ≡ false
unfolding goes_before
not_before a b (inl l) =
    rw (at-most→not-below (late a) (late b) (below→at-most _ _ l.lt), is_true (lt_z (late a) (late b)) l.lt)
not_before a b (inr (e, h)) = rw (at-most→not-below (late a) (late b) e, h) (by (lt_z (late a) (late b)))
  where
    by : (p : Bool) → cond p false false ≡ false
    by true = refl
    by false = refl

-- What goes before is not gone before,
pub before_asym : (a b : RankedHint) → goes_before a b ≡ true → goes_before b a ≡ false
unfolding goes_before
before_asym a b h = not_before a b (by (lt_z (late a) (late b)) (lt_z (late b) (late a)) refl refl h)
  where
    by : (p q : Bool) → lt_z (late a) (late b) ≡ p → lt_z (late b) (late a) ≡ q →
        cond p true (cond q false (lt a.reach b.reach)) ≡ true → Behind a b
    by true q e f h = inl (lt_z_yes (passed e))
    by false true e f h = absurd (true≢false (sym h))
    by false false e f h = inr (lt_z_no (failed f), lt_asym a.reach b.reach h)

-- and nothing goes before itself.
pub before_self : (a : RankedHint) → goes_before a a ≡ false
before_self a = eq-false_of_not-eq-true (λ (h : goes_before a a ≡ true). true≢false (sym h ∙ before_asym a a h))

-- Of two hints one does not go before the other,
pub before_total : (a b : RankedHint) → (goes_before b a ≡ false) ⊎ (goes_before a b ≡ false)
before_total a b = by (goes_before b a) refl
  where
    by : (t : Bool) → goes_before b a ≡ t → (goes_before b a ≡ false) ⊎ (goes_before a b ≡ false)
    by true e = inr (before_asym b a e)
    by false e = inl e

-- and where b does not go before a, nor c before b, c does not go before a.
pub before_trans : (a b c : RankedHint) → is_known a ≡ true → is_known b ≡ true → is_known c ≡ true →
    goes_before b a ≡ false → goes_before c b ≡ false → goes_before c a ≡ false
before_trans a b c p q r h k = not_before a c (by (behind a b h) (behind b c k))
  where
    by : Behind a b → Behind b c → Behind a c
    by (inl l) (inl m) = inl (<ℤ-≤ℤ_trans l (below→at-most (late b) (late c) m.lt))
    by (inl l) (inr (m, f)) = inl (<ℤ-≤ℤ_trans l m)
    by (inr (l, e)) (inl m) = inl (at_most_below (late a) (late b) (late c) l m)
    by (inr (l, e)) (inr (m, f)) =
        inr (at_most_trans (late a) (late b) (late c) l m, not_lt_trans _ _ _ (passed p) (passed q) (passed r) e f)
