-- What is known of a place that is at another variant than those of a hold.
-- Assumes nothing.
use mathlib.Core.Path.{◌≡◌, refl}
use Prim.Native.Nat.{ℕ}
use Rattle.std.proofs.Common.{None}
use Rattle.hold_lines.specs.Place.{closed}
use Rattle.hold_lines.specs.declared.place.Place.{Place}
use Rattle.hold_lines.specs.declared.place.Place.TheVariants as P

-- A place that is in no hold closes no line.
pub closes_none : (p : Place) → ((crew n : ℕ) → p ≡ P.Hold crew n → ⊥) → ((crew n : ℕ) → p ≡ P.Below crew n → ⊥) →
    closed p ≡ None
unfolding closed
closes_none P.Start h b = refl
closes_none (P.Crew n) h b = refl
closes_none (P.BeforeRound crew) h b = refl
closes_none (P.Round crew n) h b = refl
closes_none (P.BeforeHold crew) h b = refl
closes_none (P.BeforeSize crew) h b = refl
closes_none (P.Hold crew n) h b = absurd (h crew n refl)
closes_none (P.Below crew n) h b = absurd (b crew n refl)
closes_none P.Broken h b = refl
