-- What a line can say: its crew is at most 63, and its hold a signed number of 64 bits (RULES 21.3).
-- Assumes nothing.
use Rattle.std.proofs.Common.{◌≡◌, ℕ, zero, suc, ◌-◌, ◌^◌, ◌≤◌, Bool, true, false, cond, ◌&&◌, eqb, leb, List, [], ◌∷◌, ℤ, refl, subst, arith, lt-ltb, leb-true}
use Rattle.std.proofs.Common.{Option, None, Some}
use Rattle.texts.specs.Reading.{numeral_read}
use Rattle.hold_lines.specs.Text.{Held, pieces_at, is_decimal, number_up_to, below_zero, from_zero, hold_in, all_three, read_fields, line_in}
use Rattle.hold_figures.specs.Crews.{is_signed64}

-- A number that was read is at most so large.
abbrev AtMost : ℕ → Option ℕ → Type 0
AtMost most None = Unit {0}
AtMost most (Some n) = n ≤ most

number_limited : (most : ℕ) (ds : List ℕ) → AtMost most (number_up_to most ds)
unfolding number_up_to
number_limited most ds = by (is_decimal ds) (leb (numeral_read 10 ds) most) refl
  where
    by : (decimal small : Bool) → leb (numeral_read 10 ds) most ≡ small →
        AtMost most (cond (decimal && small) (Some (numeral_read 10 ds)) None)
    by true true e = leb-true (numeral_read 10 ds) most e
    by true false e = tt
    by false small e = tt

-- A hold that was read is a signed number of 64 bits.
abbrev Signed : Option ℤ → Type 0
Signed None = Unit {0}
Signed (Some z) = is_signed64 z ≡ true

below_signed : (n : Option ℕ) → AtMost (2 ^ 63) n → Signed (below_zero n)
unfolding is_signed64
below_signed None h = tt
below_signed (Some zero) h = tt
below_signed (Some (suc n)) h = lt-ltb n (2 ^ 63) (omega arith)

from_zero_signed : (n : Option ℕ) → AtMost (2 ^ 63 - 1) n → Signed (from_zero n)
unfolding is_signed64
from_zero_signed None h = tt
from_zero_signed (Some n) h = lt-ltb n (2 ^ 63) (omega arith)

hold_signed : (bs : List ℕ) → Signed (hold_in bs)
unfolding hold_in
hold_signed [] = tt
hold_signed (b ∷ ds) = by (eqb b 45)
  where
    by : (minus : Bool) → Signed (cond minus (below_zero (number_up_to (2 ^ 63) ds)) (from_zero (number_up_to (2 ^ 63 - 1) (b ∷ ds))))
    by true = below_signed (number_up_to (2 ^ 63) ds) (number_limited (2 ^ 63) ds)
    by false = from_zero_signed (number_up_to (2 ^ 63 - 1) (b ∷ ds)) (number_limited (2 ^ 63 - 1) (b ∷ ds))

pub record Limited (h : Held) : Type 0 where
  pub crew : h.crew ≤ 63
  pub hold : is_signed64 h.hold ≡ true

abbrev LimitedIn : Option Held → Type 0
LimitedIn None = Unit {0}
LimitedIn (Some h) = Limited h

three_limited : (crew round : Option ℕ) (hold : Option ℤ) → AtMost 63 crew → Signed hold → LimitedIn (all_three crew round hold)
three_limited (Some crew) (Some round) (Some hold) h k = record { crew = h; hold = k }
three_limited (Some crew) (Some round) None h k = tt
three_limited (Some crew) None hold h k = tt
three_limited None round hold h k = tt

fields_limited : (pieces : List (List ℕ)) → LimitedIn (read_fields pieces)
fields_limited [] = tt
fields_limited (crew ∷ []) = tt
fields_limited (crew ∷ round ∷ []) = tt
fields_limited (crew ∷ round ∷ hold ∷ []) =
    three_limited (number_up_to 63 crew) (number_up_to (2 ^ 32 - 1) round) (hold_in hold) (number_limited 63 crew) (hold_signed hold)
fields_limited (crew ∷ round ∷ hold ∷ next ∷ more) = tt

pub line_limited : (line : List ℕ) (h : Held) → line_in line ≡ Some h → Limited h
unfolding line_in
line_limited line h e = subst LimitedIn e (fields_limited (pieces_at 32 line))
