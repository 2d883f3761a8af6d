-- A text with a bad line, or with a line at which a total leaves 64 bits, all lines before it taken, is refused by that line.
-- Assumes nothing.
use Prim.Native.Nat.{ℕ, ◌+◌}
use mathlib.Core.Path.{◌≡◌, refl, ap, subst, ◌∙◌}
use mathlib.Core.Bool.{Bool, true, false, cond}
use mathlib.Core.List.{List, [], ◌∷◌, ◌++◌}
use Rattle.std.proofs.Common.{Option, None, Some}
use native.Mathlib.Omega.{arith}
use borrow.Author.Tests.{lt-ltb, le-ltb}
use lib.Dec.{ltb}
use lib.ListN.{length, length-append}
use Rattle.refusals.specs.Names.{refusal_number}
use Rattle.refusals.specs.declared.Refusal.{Refusal}
use Rattle.refusals.specs.declared.Refusal.TheVariants as Refusals
use Rattle.lent.specs.Outcome.{Refuses}
use Rattle.hold_lines.specs.Text.{Held, line_in}
use Rattle.hold_year.specs.Year.{Year, Taken, Refused, from_line, with_total, year_from, year_in, year_answer, year_reply}
use Rattle.hold_claims.specs.Claims.{RefusedAt, BadLine, TooMany, Malformed, Overflows}
use Rattle.hold_claims.proofs.Walk.{OfTaken, fits_with, in_turn, too_many, malformed, overflows}

weaker : (P Q : List Held → Type 0) (y : Year) → ((now : List Held) → P now → Q now) → OfTaken P y → OfTaken Q y
weaker P Q (Taken now) f p = f now p
weaker P Q (Refused why) f p = tt

-- Each line that is taken is one more.
AsMany : List Held → List (List ℕ) → List Held → Type 0
AsMany hs lines now = length now ≡ length hs + length lines

taken_count : (hs : List Held) (lines : List (List ℕ)) → OfTaken (AsMany hs lines) (year_from hs lines)
unfolding year_from AsMany
taken_count hs [] = omega arith
taken_count hs (line ∷ lines) = read (ltb (length hs) 100_000) (line_in line) (λ h. taken_count (hs ++ (h ∷ [])) lines)
  where
    Rest : Held → Type 0
    Rest h = OfTaken (AsMany (hs ++ (h ∷ [])) lines) (year_from (hs ++ (h ∷ [])) lines)

    summed : (h : Held) (b : Bool) → Rest h →
        OfTaken (AsMany hs (line ∷ lines)) (cond b (year_from (hs ++ (h ∷ [])) lines) (Refused Refusals.Overflow))
    summed h true rest =
        weaker (AsMany (hs ++ (h ∷ [])) lines) (AsMany hs (line ∷ lines)) (year_from (hs ++ (h ∷ [])) lines)
        (λ now same. omega (arith, same, length-append hs (h ∷ [])))
        rest
    summed h false rest = tt

    read : (b : Bool) (said : Option Held) → ((h : Held) → Rest h) →
        OfTaken (AsMany hs (line ∷ lines))
        (cond b (from_line said (λ h. with_total hs h (λ now. year_from now lines))) (Refused Refusals.Line))
    read true (Some h) rest = summed h (fits_with hs h) (rest h)
    read true None rest = tt
    read false said rest = tt

-- A refusal is answered by its number.
pub told_as : (text : List ℕ) {why : Refusal} → year_in text ≡ Refused why → year_reply text ≡ Refuses (refusal_number why)
unfolding year_reply year_answer
told_as text e = rw e

-- As many were read as lines stand before the one that decides, and that one decides.
module _ (text : List ℕ) (r : RefusedAt text) where
  read_count : length r.read ≡ length r.before
  unfolding AsMany
  read_count = omega (arith, subst (OfTaken (AsMany [] r.before)) r.taken (taken_count [] r.before))

  line_decides : year_in text ≡ year_from r.read (r.line ∷ r.behind)
  unfolding year_in
  line_decides = ap (year_from []) r.parted ∙ in_turn [] r.before (r.line ∷ r.behind) r.read r.taken

  pub refused_14 : BadLine text r → year_in text ≡ Refused Refusals.Line
  refused_14 (TooMany all) =
      line_decides ∙ too_many r.read r.line r.behind (le-ltb (length r.read) 100_000 (omega (arith, read_count, all)))
  refused_14 (Malformed says) = line_decides ∙ by (ltb (length r.read) 100_000) refl
    where
      by : (b : Bool) → ltb (length r.read) 100_000 ≡ b → year_from r.read (r.line ∷ r.behind) ≡ Refused Refusals.Line
      by true room = malformed r.read r.line r.behind room says
      by false full = too_many r.read r.line r.behind full

  pub told_14 : BadLine text r → year_reply text ≡ Refuses 14
  told_14 bad = told_as text (refused_14 bad)

  pub refused_15 : Overflows text r → year_in text ≡ Refused Refusals.Overflow
  refused_15 o =
      let room = lt-ltb (length r.read) 100_000 (omega (arith, read_count, o.in_number)) in
      line_decides ∙ overflows r.read r.line r.behind o.held room o.says o.leaves

  pub told_15 : Overflows text r → year_reply text ≡ Refuses 15
  told_15 o = told_as text (refused_15 o)
