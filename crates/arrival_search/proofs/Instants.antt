-- Instants in order, as the tests of the search tell it, and what holds of a choice by a test.
-- Assumes nothing.
use mathlib.Core.Path.{◌≡◌, refl, ap, subst}
use mathlib.Core.Logic.{◌≢◌}
use mathlib.Core.Bool.{Bool, true, false, cond, true≢false}
use native.Mathlib.Omega.{arith}
use borrow.Author.Tests.{ltb-false}
use lib.IntN.{ℤ, pos, negsuc}
use lib.Signed.{lt_z, ◌<ℤ◌, lt_z_yes, <ℤ-≤ℤ_trans, <ℤ_irrefl}
use Rattle.floats.proofs.Tests.{passed}
use Rattle.times.specs.declared.time.TimePoint.{TimePoint}
use Rattle.times.proofs.Integers.{below→at-most}

-- What holds of each side, under its test, holds of the choice.
pub by_cond : {A : Type 0} (F : A → Type 0) (b : Bool) {x y : A} → (b ≡ true → F x) → (b ≡ false → F y) → F (cond b x y)
by_cond F true f g = f refl
by_cond F false f g = g refl

-- Before one that is before a third.
pub below_trans : {x y z : ℤ} → x <ℤ y → y <ℤ z → x <ℤ z
below_trans {y} {z} h k = <ℤ-≤ℤ_trans h (below→at-most y z k.lt)

same_number : (x y : ℤ) → lt_z x y ≡ false → lt_z y x ≡ false → x ≡ y
same_number (pos a) (pos b) e f = ap pos (omega (arith, ltb-false a b e, ltb-false b a f))
same_number (pos a) (negsuc b) e f = absurd (true≢false f)
same_number (negsuc a) (pos b) e f = absurd (true≢false e)
same_number (negsuc a) (negsuc b) e f = ap negsuc (omega (arith, ltb-false a b f, ltb-false b a e))

-- Where neither is before the other they are one.
pub same_instant : (t u : TimePoint) → lt_z t.0 u.0 ≡ false → lt_z u.0 t.0 ≡ false → t ≡ u
same_instant t u e f = let z = same_number t.0 u.0 e f in λ i. record { 0 = z i }

-- Where one is before the other they are two.
pub before_not_same : (t u : TimePoint) → lt_z t.0 u.0 ≡ true → t ≢ u
before_not_same t u e same = <ℤ_irrefl (subst (λ (x : TimePoint). x.0 <ℤ u.0) same (lt_z_yes (passed e)))
