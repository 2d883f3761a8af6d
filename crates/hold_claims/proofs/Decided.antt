-- Every text is taken whole, or refused at its first line that is bad or that a total cannot hold.
-- Assumes nothing.
use Prim.Native.Nat.{ℕ, ◌<◌, ◌≤◌}
use mathlib.Core.Path.{◌≡◌, refl, sym, ap, subst, ◌∙◌}
use mathlib.Core.Bool.{Bool, true, false}
use mathlib.Core.List.{List, [], ◌∷◌, ◌++◌, append-nil, append_assoc}
use Rattle.std.proofs.Common.{Option, None, Some}
use native.Mathlib.Omega.{arith}
use borrow.Author.Tests.{ltb-true, ltb-false}
use lib.Dec.{ltb}
use lib.ListN.{length, length-append}
use Rattle.hold_lines.specs.Text.{Held, lines_in, line_in}
use Rattle.hold_year.specs.Year.{Taken, year_from, year_in}
use Rattle.hold_claims.specs.Claims.{SayThese, NoMore, And, RefusedAt, TooMany, Malformed, Decided, AllTaken, ByLine, ByTotal}
use Rattle.hold_claims.proofs.Exactly.{told_as}
use Rattle.hold_claims.proofs.Walk.{fits_with, in_turn, too_many, malformed, overflows, one_more}

say_more : (lines : List (List ℕ)) (hs : List Held) (line : List ℕ) (h : Held) → line_in line ≡ Some h → SayThese lines hs →
    SayThese (lines ++ (line ∷ [])) (hs ++ (h ∷ []))
say_more _ _ line h says NoMore = And line [] h [] says NoMore
say_more _ _ line h says (And first lines g hs said rest) =
    And first (lines ++ (line ∷ [])) g (hs ++ (h ∷ [])) said (say_more lines hs line h says rest)

-- Lines are as many as what they say.
say_length : (lines : List (List ℕ)) (hs : List Held) → SayThese lines hs → length lines ≡ length hs
say_length _ _ NoMore = refl
say_length _ _ (And line lines h hs said rest) = omega (arith, say_length lines hs rest)

-- A text of which the first lines, `done`, were taken, and `rest` are left.
record Reached (text : List ℕ) (done rest : List (List ℕ)) (hs : List Held) : Type 0 where
  parted : lines_in text ≡ done ++ rest
  taken : year_from [] done ≡ Taken hs
  says : SayThese done hs
  in_number : length hs ≤ 100_000

-- What is left decides.
left_decides : (text : List ℕ) (done rest : List (List ℕ)) (hs : List Held) → Reached text done rest hs →
    year_in text ≡ year_from hs rest
unfolding year_in
left_decides text done rest hs r = ap (year_from []) r.parted ∙ in_turn [] done rest hs r.taken

-- One line more is taken.
reached_more : (text : List ℕ) (done rest : List (List ℕ)) (hs : List Held) (line : List ℕ) (h : Held) →
    Reached text done (line ∷ rest) hs → ltb (length hs) 100_000 ≡ true → line_in line ≡ Some h → fits_with hs h ≡ true →
    Reached text (done ++ (line ∷ [])) rest (hs ++ (h ∷ []))
unfolding year_from
reached_more text done rest hs line h r room says fits =
    record {
      parted = r.parted ∙ sym (append_assoc done (line ∷ []) rest);
      taken = in_turn [] done (line ∷ []) hs r.taken ∙ one_more hs line [] h room says fits;
      says = say_more done hs line h says r.says;
      in_number = omega (arith, length-append hs (h ∷ []), ltb-true (length hs) 100_000 room);
    }

-- The line at which a text is refused is the first that is left.
abbrev refused_at : (text : List ℕ) (done rest : List (List ℕ)) (hs : List Held) (line : List ℕ) →
    Reached text done (line ∷ rest) hs → RefusedAt text
refused_at text done rest hs line r =
    record { before = done; line = line; behind = rest; read = hs; parted = r.parted; taken = r.taken }

from_here : (text : List ℕ) (done rest : List (List ℕ)) (hs : List Held) → Reached text done rest hs → Decided text
unfolding year_from
from_here text done [] hs r =
    AllTaken hs (left_decides text done [] hs r) r.in_number
    (subst (λ lines. SayThese lines hs) (sym (r.parted ∙ append-nil done)) r.says)
from_here text done (line ∷ rest) hs r =
    counted (ltb (length hs) 100_000) refl (λ h more. from_here text (done ++ (line ∷ [])) rest (hs ++ (h ∷ [])) more)
  where
    later : Type 0
    later = (h : Held) → Reached text (done ++ (line ∷ [])) rest (hs ++ (h ∷ [])) → Decided text

    here : RefusedAt text
    here = refused_at text done rest hs line r

    decides : year_in text ≡ year_from hs (line ∷ rest)
    decides = left_decides text done (line ∷ rest) hs r

    summed : ltb (length hs) 100_000 ≡ true → (h : Held) → line_in line ≡ Some h → (b : Bool) → fits_with hs h ≡ b → later →
        Decided text
    summed room h says true fits go = go h (reached_more text done rest hs line h r room says fits)
    summed room h says false fits go =
        let below : length done < 100_000 = omega (arith, say_length done hs r.says, ltb-true (length hs) 100_000 room) in
        let refused = decides ∙ overflows hs line rest h room says fits in
        ByTotal here (record { in_number = below; held = h; says = says; leaves = fits }) refused (told_as text refused)

    said : ltb (length hs) 100_000 ≡ true → (o : Option Held) → line_in line ≡ o → later → Decided text
    said room (Some h) says go = summed room h says (fits_with hs h) refl go
    said room None says go =
        let refused = decides ∙ malformed hs line rest room says in
        ByLine here (Malformed says) refused (told_as text refused)

    counted : (b : Bool) → ltb (length hs) 100_000 ≡ b → later → Decided text
    counted true room go = said room (line_in line) refl go
    counted false full go =
        let all : length done ≡ 100_000 =
        omega (arith, say_length done hs r.says, ltb-false (length hs) 100_000 full, r.in_number) in
        let refused = decides ∙ too_many hs line rest full in
        ByLine here (TooMany all) refused (told_as text refused)

pub decided : (text : List ℕ) → Decided text
unfolding year_from
decided text =
    from_here text [] (lines_in text) []
    (record { parted = refl; taken = refl; says = NoMore; in_number = omega arith })
