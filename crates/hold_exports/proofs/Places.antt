-- A place in three words: what is no kind is no place, and a place that was kept is found again.
-- Assumes nothing.
use Prim.Native.Nat.{ℕ}
use mathlib.Core.Path.{◌≡◌, refl}
use mathlib.Core.Bool.{false, true≢false}
use borrow.Author.Tests.{ne_eqb}
use Rattle.std.proofs.Common.{Some, None}
use Rattle.hold_lines.specs.declared.place.Place.{Place}
use Rattle.hold_lines.specs.declared.place.Place.TheVariants as P
use Rattle.hold_year.specs.Parts.{is_broken}
use Rattle.hold_exports.specs.Memory.{spelling, place_in}

-- None of the eight kinds.
abbrev Not : ℕ → ℕ → Type 0
Not kind k = kind ≡ k → ⊥

abbrev NoKind : ℕ → Type 0
NoKind kind =
    (((((((Unit {0} × Not kind 0) × Not kind 1) × Not kind 2) × Not kind 3) × Not kind 4) × Not kind 5) × Not kind 6) × Not kind 7

pub nowhere : (kind crew digits : ℕ) → NoKind kind → place_in kind crew digits ≡ None
unfolding place_in
nowhere kind crew digits h =
    rw (
      ne_eqb kind 0 h.0.0.0.0.0.0.0.1,
      ne_eqb kind 1 h.0.0.0.0.0.0.1,
      ne_eqb kind 2 h.0.0.0.0.0.1,
      ne_eqb kind 3 h.0.0.0.0.1,
      ne_eqb kind 4 h.0.0.0.1,
      ne_eqb kind 5 h.0.0.1,
      ne_eqb kind 6 h.0.1,
      ne_eqb kind 7 h.1,
    )

pub place_kept : (place : Place) → is_broken place ≡ false →
    place_in (spelling place).0 (spelling place).1 (spelling place).2 ≡ Some place
unfolding place_in
place_kept P.Start e = refl
place_kept (P.Crew n) e = refl
place_kept (P.BeforeRound crew) e = refl
place_kept (P.Round crew n) e = refl
place_kept (P.BeforeHold crew) e = refl
place_kept (P.BeforeSize crew) e = refl
place_kept (P.Hold crew n) e = refl
place_kept (P.Below crew n) e = refl
place_kept P.Broken e = absurd (true≢false e)
