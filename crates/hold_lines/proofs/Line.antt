-- A line read byte by byte is what it says as a whole: at each place the bytes that are still to come have a meaning of their own.
-- Assumes nothing.
use Prim.Native.Nat.{ℕ, zero, suc, ◌-◌, ◌^◌, ◌≤◌, ◌<◌}
use mathlib.Core.Path.{◌≡◌, refl, sym, ◌∙◌}
use mathlib.Core.Bool.{Bool, true, false, cond, not, ◌&&◌, and-false}
use mathlib.Core.List.{List, [], ◌∷◌}
use Rattle.std.proofs.Common.{Option, None, Some}
use Rattle.std.specs.Option.{option_and_then}
use native.Mathlib.Omega.{arith}
use borrow.Author.Tests.{eqb-true}
use lib.Dec.{leb, eqb, eqb-suc-zero}
use lib.IntN.{ℤ}
use lib.ListN.{length}
use Rattle.lent.specs.Listed.{every}
use Rattle.texts.specs.Reading.{is_digit, read_from, numeral_read}
use Rattle.hold_lines.specs.Text.{
  longer_first,
  pieces_at,
  is_decimal,
  number_up_to,
  below_zero,
  from_zero,
  hold_in,
  all_three,
  read_fields,
  line_in,
  raised_of,
}
use Rattle.hold_lines.specs.Place.{first_digit, next_digit, stepped, stepped_by, closed, with_digits, size_from, line_held}
use Rattle.hold_lines.specs.declared.place.Place.{Place}
use Rattle.hold_lines.specs.declared.place.Place.TheVariants as P
use Rattle.hold_lines.specs.declared.place.Line.{Line}
use Rattle.hold_lines.proofs.Digits.{digit_small}
use Rattle.hold_lines.proofs.Numbers.{number_on, number_begins, reads_up, tested_each}

-- A line that is broken stays so, whatever follows.
pub broken_stays : (bs : List ℕ) → stepped_by P.Broken bs ≡ P.Broken
unfolding stepped_by stepped
broken_stays [] = refl
broken_stays (b ∷ bs) = broken_stays bs

-- ---- What the pieces at the spaces of the rest say.

-- Behind the hold nothing may stand.
abbrev ends_with : ℕ → Option ℤ → List (List ℕ) → Option Line
ends_with crew None pieces = None
ends_with crew (Some hold) [] = Some (record { crew = crew; raised = raised_of hold })
ends_with crew (Some hold) (piece ∷ pieces) = None

-- The same, of a number that was read to its end.
abbrev ends_at : (ℕ → Place) → Option ℕ → List (List ℕ) → Option Line
ends_at place None pieces = None
ends_at place (Some n) [] = closed (place n)
ends_at place (Some n) (piece ∷ pieces) = None

-- Behind the round stands the hold.
abbrev behind_round : ℕ → Option ℕ → List (List ℕ) → Option Line
behind_round crew None pieces = None
behind_round crew (Some round) [] = None
behind_round crew (Some round) (piece ∷ pieces) = ends_with crew (hold_in piece) pieces

-- Behind the crew stands the round.
abbrev behind_crew : Option ℕ → List (List ℕ) → Option Line
behind_crew None pieces = None
behind_crew (Some crew) [] = None
behind_crew (Some crew) (piece ∷ pieces) = behind_round crew (number_up_to (2 ^ 32 - 1) piece) pieces

-- The line, at a place, by the rest of the piece in which it is and by those behind it.
unfoldable rest_of : Place → List ℕ → List (List ℕ) → Option Line
rest_of P.Start piece pieces = behind_crew (number_up_to 63 piece) pieces
rest_of (P.Crew n) piece pieces = behind_crew (number_on 63 n piece) pieces
rest_of (P.BeforeRound crew) piece pieces = behind_round crew (number_up_to (2 ^ 32 - 1) piece) pieces
rest_of (P.Round crew n) piece pieces = behind_round crew (number_on (2 ^ 32 - 1) n piece) pieces
rest_of (P.BeforeHold crew) piece pieces = ends_with crew (hold_in piece) pieces
rest_of (P.BeforeSize crew) piece pieces = ends_with crew (below_zero (number_up_to (2 ^ 63) piece)) pieces
rest_of (P.Hold crew n) piece pieces = ends_at (P.Hold crew) (number_on (2 ^ 63 - 1) n piece) pieces
rest_of (P.Below crew n) piece pieces = ends_at (P.Below crew) (number_on (2 ^ 63) n piece) pieces
rest_of P.Broken piece pieces = None

-- ---- A number as a hold.

-- A decimal up to the largest hold.
hold_ends : (crew : ℕ) (ds : List ℕ) (pieces : List (List ℕ)) →
    ends_with crew (from_zero (number_up_to (2 ^ 63 - 1) ds)) pieces ≡ ends_at (P.Hold crew) (number_up_to (2 ^ 63 - 1) ds) pieces
unfolding number_up_to closed raised_of
hold_ends crew ds = by (is_decimal ds) (leb (numeral_read 10 ds) (2 ^ 63 - 1)) refl
  where
    by : (t u : Bool) → leb (numeral_read 10 ds) (2 ^ 63 - 1) ≡ u → (pieces : List (List ℕ)) →
        let read = cond (t && u) (Some (numeral_read 10 ds)) None in
        ends_with crew (from_zero read) pieces ≡ ends_at (P.Hold crew) read pieces
    by false u e pieces = refl
    by true false e pieces = refl
    by true true e [] = rw e
    by true true e (piece ∷ pieces) = refl

-- The size of a hold below zero: it begins with a digit above 0, so it is above 0.
size_ends : (crew n : ℕ) (ds : List ℕ) (pieces : List (List ℕ)) → n ≤ 2 ^ 63 →
    ends_with crew (below_zero (number_on (2 ^ 63) n ds)) pieces ≡ rest_of (size_from crew n) ds pieces
unfolding rest_of number_on next_digit closed raised_of
size_ends crew zero [] pieces small = refl
size_ends crew zero (d ∷ ds) pieces small = refl
size_ends crew (suc k) ds pieces small =
    let size : ℕ = read_from 10 (suc k) ds in
    rw (eqb-suc-zero k, tested_each (2 ^ 63) (suc k) ds (omega arith) small)
    (by (every is_digit ds) size (omega (arith, reads_up (suc k) ds)) (leb size (2 ^ 63)) refl pieces)
  where
    by : (t : Bool) (size : ℕ) → 0 < size → (u : Bool) → leb size (2 ^ 63) ≡ u → (pieces : List (List ℕ)) →
        let read = cond (t && u) (Some size) None in
        ends_with crew (below_zero read) pieces ≡ ends_at (P.Below crew) read pieces
    by false size h u e pieces = refl
    by true size h false e pieces = refl
    by true zero h true e pieces = absurd (omega (arith, h))
    by true (suc n) h true e [] = rw e
    by true (suc n) h true e (piece ∷ pieces) = refl

-- ---- A byte more.

-- A space ends a number.
at_space : (p : Place) (piece : List ℕ) (pieces : List (List ℕ)) →
    rest_of p [] (piece ∷ pieces) ≡ rest_of (stepped p 32) piece pieces
unfolding rest_of stepped number_up_to is_decimal number_on hold_in first_digit next_digit is_digit
at_space P.Start piece pieces = refl
at_space (P.Crew n) piece pieces = refl
at_space (P.BeforeRound crew) piece pieces = refl
at_space (P.Round crew n) piece pieces = refl
at_space (P.BeforeHold crew) piece pieces = refl
at_space (P.BeforeSize crew) piece pieces = refl
at_space (P.Hold crew n) piece pieces = rw (and-false (not (eqb n 0)))
at_space (P.Below crew n) piece pieces = rw (and-false (not (eqb n 0)))
at_space P.Broken piece pieces = refl

-- A number that goes on with what a digit makes.
after_digit : (d : Option ℕ) (most : ℕ) (piece : List ℕ) (pieces : List (List ℕ)) (says : Option ℕ → Option Line) (place : ℕ → Place) →
    says None ≡ None → ((n : ℕ) → d ≡ Some n → says (number_on most n piece) ≡ rest_of (place n) piece pieces) →
    says (option_and_then (λ n. number_on most n piece) d) ≡ rest_of (with_digits d place) piece pieces
unfolding rest_of
after_digit (Some n) most piece pieces says place broken on = on n refl
after_digit None most piece pieces says place broken on = broken

-- Any other byte belongs to the number.
in_piece : (p : Place) (b : ℕ) (piece : List ℕ) (pieces : List (List ℕ)) → eqb b 32 ≡ false →
    rest_of p (b ∷ piece) pieces ≡ rest_of (stepped p b) piece pieces
unfolding rest_of stepped number_on hold_in
in_piece P.Start b piece pieces other =
    rw (number_begins 63 b piece (omega arith))
    (after_digit (first_digit b) 63 piece pieces (λ o. behind_crew o pieces) P.Crew refl (λ n e. refl))
in_piece (P.Crew n) b piece pieces other =
    rw other (after_digit (next_digit 63 n b) 63 piece pieces (λ o. behind_crew o pieces) P.Crew refl (λ n e. refl))
in_piece (P.BeforeRound crew) b piece pieces other =
    rw (number_begins (2 ^ 32 - 1) b piece (omega arith))
    (after_digit (first_digit b) (2 ^ 32 - 1) piece pieces (λ o. behind_round crew o pieces) (P.Round crew) refl (λ n e. refl))
in_piece (P.Round crew n) b piece pieces other =
    rw other
    (after_digit (next_digit (2 ^ 32 - 1) n b) (2 ^ 32 - 1) piece pieces (λ o. behind_round crew o pieces) (P.Round crew) refl
    (λ n e. refl))
in_piece (P.BeforeHold crew) b piece pieces other = by (eqb b 45) refl
  where
    by : (t : Bool) → eqb b 45 ≡ t →
        rest_of (P.BeforeHold crew) (b ∷ piece) pieces ≡ rest_of (stepped (P.BeforeHold crew) b) piece pieces
    by true e = rw e
    by false e =
        rw (e, hold_ends crew (b ∷ piece) pieces, number_begins (2 ^ 63 - 1) b piece (omega arith))
        (after_digit (first_digit b) (2 ^ 63 - 1) piece pieces (λ o. ends_at (P.Hold crew) o pieces) (P.Hold crew) refl (λ n e. refl))
in_piece (P.BeforeSize crew) b piece pieces other =
    rw (number_begins (2 ^ 63) b piece (omega arith))
    (after_digit (first_digit b) (2 ^ 63) piece pieces (λ o. ends_with crew (below_zero o) pieces) (size_from crew) refl
    (λ n e. size_ends crew n piece pieces (omega (arith, digit_small b n e))))
in_piece (P.Hold crew n) b piece pieces other =
    after_digit (next_digit (2 ^ 63 - 1) n b) (2 ^ 63 - 1) piece pieces (λ o. ends_at (P.Hold crew) o pieces) (P.Hold crew) refl
    (λ n e. refl)
in_piece (P.Below crew n) b piece pieces other =
    after_digit (next_digit (2 ^ 63) n b) (2 ^ 63) piece pieces (λ o. ends_at (P.Below crew) o pieces) (P.Below crew) refl
    (λ n e. refl)
in_piece P.Broken b piece pieces other = refl

-- ---- The line.

-- The line, at a place, by the pieces of the rest.
rest_in : Place → List (List ℕ) → Option Line
rest_in p [] = None
rest_in p (piece ∷ pieces) = rest_of p piece pieces

longer_some : (b : ℕ) (pieces : List (List ℕ)) → 0 < length (longer_first b pieces)
longer_some b [] = omega arith
longer_some b (piece ∷ pieces) = omega arith

-- A text has a piece.
piece_there : (s : ℕ) (bs : List ℕ) → 0 < length (pieces_at s bs)
unfolding pieces_at
piece_there s [] = omega arith
piece_there s (b ∷ bs) = by (eqb b s)
  where
    by : (t : Bool) → 0 < length (cond t ([] ∷ pieces_at s bs) (longer_first b (pieces_at s bs)))
    by true = omega arith
    by false = longer_some b (pieces_at s bs)

-- Whichever byte comes, the line is what it was said to be.
byte_read : (p : Place) (b : ℕ) (pieces : List (List ℕ)) → 0 < length pieces →
    rest_in (stepped p b) pieces ≡ rest_in p (cond (eqb b 32) ([] ∷ pieces) (longer_first b pieces))
unfolding rest_in
byte_read p b [] h = absurd (omega (arith, h))
byte_read p b (piece ∷ pieces) h = by (eqb b 32) refl
  where
    by : (t : Bool) → eqb b 32 ≡ t → rest_of (stepped p b) piece pieces ≡
        rest_in p (cond t ([] ∷ piece ∷ pieces) (longer_first b (piece ∷ pieces)))
    by true e = rw (eqb-true b 32 e) (sym (at_space p piece pieces))
    by false e = sym (in_piece p b piece pieces e)

-- Where nothing more comes, the line closes.
end_read : (p : Place) → closed p ≡ rest_in p ([] ∷ [])
unfolding closed rest_in rest_of number_up_to is_decimal number_on hold_in
end_read P.Start = refl
end_read (P.Crew n) = refl
end_read (P.BeforeRound crew) = refl
end_read (P.Round crew n) = refl
end_read (P.BeforeHold crew) = refl
end_read (P.BeforeSize crew) = refl
end_read (P.Hold crew n) = refl
end_read (P.Below crew n) = refl
end_read P.Broken = refl

-- So it is with all bytes of the rest.
rest_read : (p : Place) (bs : List ℕ) → closed (stepped_by p bs) ≡ rest_in p (pieces_at 32 bs)
unfolding stepped_by pieces_at
rest_read p [] = end_read p
rest_read p (b ∷ bs) = rest_read (stepped p b) bs ∙ byte_read p b (pieces_at 32 bs) (piece_there 32 bs)

-- From its start the pieces are the fields.
fields_read : (pieces : List (List ℕ)) → rest_in P.Start pieces ≡ line_held (read_fields pieces)
unfolding rest_in rest_of
fields_read [] = refl
fields_read (crew ∷ []) = by (number_up_to 63 crew)
  where
    by : (c : Option ℕ) → behind_crew c [] ≡ None
    by None = refl
    by (Some c) = refl
fields_read (crew ∷ round ∷ []) = by (number_up_to 63 crew) (number_up_to (2 ^ 32 - 1) round) refl
  where
    by : (c r : Option ℕ) → number_up_to (2 ^ 32 - 1) round ≡ r → behind_crew c (round ∷ []) ≡ None
    by None r e = refl
    by (Some c) None e = rw e
    by (Some c) (Some r) e = rw e
fields_read (crew ∷ round ∷ hold ∷ []) =
    by (number_up_to 63 crew) (number_up_to (2 ^ 32 - 1) round) refl (hold_in hold) refl
  where
    by : (c r : Option ℕ) → number_up_to (2 ^ 32 - 1) round ≡ r → (h : Option ℤ) → hold_in hold ≡ h →
        behind_crew c (round ∷ hold ∷ []) ≡ line_held (all_three c r h)
    by None r e h f = refl
    by (Some c) None e h f = rw e
    by (Some c) (Some r) e None f = rw (e, f)
    by (Some c) (Some r) e (Some h) f = rw (e, f)
fields_read (crew ∷ round ∷ hold ∷ next ∷ more) =
    by (number_up_to 63 crew) (number_up_to (2 ^ 32 - 1) round) refl (hold_in hold) refl
  where
    by : (c r : Option ℕ) → number_up_to (2 ^ 32 - 1) round ≡ r → (h : Option ℤ) → hold_in hold ≡ h →
        behind_crew c (round ∷ hold ∷ next ∷ more) ≡ None
    by None r e h f = refl
    by (Some c) None e h f = rw e
    by (Some c) (Some r) e None f = rw (e, f)
    by (Some c) (Some r) e (Some h) f = rw (e, f)

-- A line read byte by byte is what it says.
pub line_read : (bs : List ℕ) → closed (stepped_by P.Start bs) ≡ line_held (line_in bs)
unfolding line_in
line_read bs = rest_read P.Start bs ∙ fields_read (pieces_at 32 bs)
