-- What holds of every year that is taken: its crews are below 64, and holds and totals are signed numbers of 64 bits.
-- Assumes nothing.
use Prim.Native.Nat.{ℕ, ◌<◌}
use mathlib.Core.Path.{◌≡◌, subst}
use mathlib.Core.Bool.{true}
use mathlib.Core.List.{List, [], ◌∷◌, ◌++◌}
use Rattle.std.proofs.Common.{Some}
use native.Mathlib.Omega.{arith}
use lib.IntN.{ℤ}
use Rattle.hold_lines.specs.Text.{Held, line_in}
use Rattle.hold_figures.specs.Crews.{holds_of, largest_of, is_signed64}
use Rattle.hold_figures.proofs.Holds.{AllSigned, Sound, sound_none, sound_more, largest_signed}
use Rattle.hold_figures.proofs.Limits.{line_limited}
use Rattle.hold_year.specs.Year.{Taken, year_in}
use Rattle.hold_claims.proofs.Sums.{CrewsBelow}
use Rattle.hold_claims.proofs.Walk.{OfTaken, fits_with, year_keeps}

pub record Fits (hs : List Held) : Type 0 where
  pub sound : Sound hs
  pub crews : CrewsBelow 64 hs

crews_more : (hs : List Held) (h : Held) → CrewsBelow 64 hs → h.crew < 64 → CrewsBelow 64 (hs ++ (h ∷ []))
crews_more [] h all one = (one, tt)
crews_more (g ∷ hs) h (first, all) one = (first, crews_more hs h all one)

pub taken_fits : (text : List ℕ) (hs : List Held) → year_in text ≡ Taken hs → Fits hs
unfolding year_in
taken_fits text hs e = subst (OfTaken Fits) e (year_keeps Fits step [] _ (record { sound = sound_none; crews = tt }))
  where
    step : (before : List Held) (line : List ℕ) (h : Held) → line_in line ≡ Some h → fits_with before h ≡ true → Fits before →
        Fits (before ++ (h ∷ []))
    step before line h says fits kept =
        let limited = line_limited line h says in
        record {
          sound = sound_more before h kept.sound limited.hold fits;
          crews = crews_more before h kept.crews (omega (arith, limited.crew));
        }

-- A crew's largest is one of its holds.
pub largest_fits : (crew : ℕ) (hs : List Held) (z : ℤ) (zs : List ℤ) → Sound hs → holds_of crew hs ≡ z ∷ zs →
    is_signed64 (largest_of z zs) ≡ true
largest_fits crew hs z zs sound e =
    let all = subst AllSigned e (sound.holds crew) in
    largest_signed z zs all.0 all.1
