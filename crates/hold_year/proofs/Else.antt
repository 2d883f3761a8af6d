-- What the `else` of a test for a place knows of it.
-- Assumes nothing.
use mathlib.Core.Path.{◌≡◌, refl}
use mathlib.Core.Bool.{false}
use Rattle.hold_lines.specs.declared.place.Place.{Place}
use Rattle.hold_lines.specs.declared.place.Place.TheVariants as P
use Rattle.hold_year.specs.Parts.{is_start, is_broken}

pub not_start : (p : Place) → (p ≡ P.Start → ⊥) → is_start p ≡ false
not_start P.Start k = absurd (k refl)
not_start (P.Crew n) k = refl
not_start (P.BeforeRound crew) k = refl
not_start (P.Round crew n) k = refl
not_start (P.BeforeHold crew) k = refl
not_start (P.BeforeSize crew) k = refl
not_start (P.Hold crew n) k = refl
not_start (P.Below crew n) k = refl
not_start P.Broken k = refl

pub not_broken : (p : Place) → (p ≡ P.Broken → ⊥) → is_broken p ≡ false
not_broken P.Start k = refl
not_broken (P.Crew n) k = refl
not_broken (P.BeforeRound crew) k = refl
not_broken (P.Round crew n) k = refl
not_broken (P.BeforeHold crew) k = refl
not_broken (P.BeforeSize crew) k = refl
not_broken (P.Hold crew n) k = refl
not_broken (P.Below crew n) k = refl
not_broken P.Broken k = absurd (k refl)
