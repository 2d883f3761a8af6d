-- How the lines of a year are walked: what every line keeps holds in the end, and a text in two parts is taken in turn.
-- Assumes nothing.
use Prim.Native.Nat.{ℕ}
use mathlib.Core.Path.{◌≡◌, refl, ap, ◌∙◌}
use mathlib.Core.Bool.{Bool, true, false, cond}
use mathlib.Core.List.{List, [], ◌∷◌, ◌++◌}
use Rattle.std.proofs.Common.{Option, None, Some}
use lib.Dec.{ltb}
use lib.ListN.{length}
use Rattle.refusals.specs.declared.Refusal.TheVariants as Refusals
use Rattle.hold_lines.specs.Text.{Held, line_in}
use Rattle.hold_figures.specs.Crews.{holds_of, total_of, is_signed64}
use Rattle.hold_year.specs.Year.{Year, Taken, Refused, from_line, with_total, year_from}

-- Whether a crew's total with one line more is a signed number of 64 bits.
abbrev pub fits_with : List Held → Held → Bool
fits_with before h = is_signed64 (total_of (holds_of h.crew (before ++ (h ∷ []))))

-- Of a year that was taken, P holds.
abbrev pub OfTaken : (List Held → Type 0) → Year → Type 0
OfTaken P (Taken hs) = P hs
OfTaken P (Refused why) = Unit {0}

-- What holds of the lines before and is kept by each that is taken, holds of all.
pub year_keeps : (P : List Held → Type 0) →
    ((before : List Held) (line : List ℕ) (h : Held) → line_in line ≡ Some h → fits_with before h ≡ true → P before →
    P (before ++ (h ∷ []))) →
    (before : List Held) (lines : List (List ℕ)) → P before → OfTaken P (year_from before lines)
unfolding year_from
year_keeps P step before [] p = p
year_keeps P step before (line ∷ lines) p =
    read (ltb (length before) 100_000) (line_in line) refl (λ now q. year_keeps P step now lines q)
  where
    rest : Type 0
    rest = (now : List Held) → P now → OfTaken P (year_from now lines)

    summed : (h : Held) → line_in line ≡ Some h → (b : Bool) → fits_with before h ≡ b → rest →
        OfTaken P (cond b (year_from (before ++ (h ∷ [])) lines) (Refused Refusals.Overflow))
    summed h says true fits go = go (before ++ (h ∷ [])) (step before line h says fits p)
    summed h says false fits go = tt

    read : (b : Bool) (said : Option Held) → line_in line ≡ said → rest →
        OfTaken P (cond b (from_line said (λ h. with_total before h (λ now. year_from now lines))) (Refused Refusals.Line))
    read true (Some h) says go = summed h says (fits_with before h) refl go
    read true None says go = tt
    read false said says go = tt

-- Goes on with the lines that were taken.
abbrev onward : Year → (List Held → Year) → Year
onward (Taken hs) go = go hs
onward (Refused why) go = Refused why

both_parts : (before : List Held) (first second : List (List ℕ)) →
    year_from before (first ++ second) ≡ onward (year_from before first) (λ now. year_from now second)
unfolding year_from
both_parts before [] second = refl
both_parts before (line ∷ lines) second =
    read (ltb (length before) 100_000) (line_in line) (λ now. both_parts now lines second)
  where
    same : Type 0
    same = (now : List Held) → year_from now (lines ++ second) ≡ onward (year_from now lines) (λ now. year_from now second)

    summed : (now : List Held) (b : Bool) → same →
        cond b (year_from now (lines ++ second)) (Refused Refusals.Overflow) ≡
        onward (cond b (year_from now lines) (Refused Refusals.Overflow)) (λ now. year_from now second)
    summed now true go = go now
    summed now false go = refl

    read : (b : Bool) (said : Option Held) → same →
        cond b (from_line said (λ h. with_total before h (λ now. year_from now (lines ++ second)))) (Refused Refusals.Line) ≡
        onward (cond b (from_line said (λ h. with_total before h (λ now. year_from now lines))) (Refused Refusals.Line))
        (λ now. year_from now second)
    read true (Some h) go = summed (before ++ (h ∷ [])) (fits_with before h) go
    read true None go = refl
    read false said go = refl

-- Where the first part is taken, the second decides.
pub in_turn : (before : List Held) (first second : List (List ℕ)) (now : List Held) → year_from before first ≡ Taken now →
    year_from before (first ++ second) ≡ year_from now second
in_turn before first second now taken = both_parts before first second ∙ ap (λ y. onward y (λ now. year_from now second)) taken

-- ---- One line behind those that were taken.

pub too_many : (hs : List Held) (line : List ℕ) (lines : List (List ℕ)) → ltb (length hs) 100_000 ≡ false →
    year_from hs (line ∷ lines) ≡ Refused Refusals.Line
unfolding year_from
too_many hs line lines full = rw (full)

pub malformed : (hs : List Held) (line : List ℕ) (lines : List (List ℕ)) → ltb (length hs) 100_000 ≡ true →
    line_in line ≡ None → year_from hs (line ∷ lines) ≡ Refused Refusals.Line
unfolding year_from
malformed hs line lines room says = rw (room, says)

pub overflows : (hs : List Held) (line : List ℕ) (lines : List (List ℕ)) (h : Held) → ltb (length hs) 100_000 ≡ true →
    line_in line ≡ Some h → fits_with hs h ≡ false → year_from hs (line ∷ lines) ≡ Refused Refusals.Overflow
unfolding year_from
overflows hs line lines h room says over = rw (room, says, over)

pub one_more : (hs : List Held) (line : List ℕ) (lines : List (List ℕ)) (h : Held) → ltb (length hs) 100_000 ≡ true →
    line_in line ≡ Some h → fits_with hs h ≡ true → year_from hs (line ∷ lines) ≡ year_from (hs ++ (h ∷ [])) lines
unfolding year_from
one_more hs line lines h room says fits = rw (room, says, fits)
