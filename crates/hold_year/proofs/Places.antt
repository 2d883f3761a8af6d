-- The places of a line behind its bytes: none is the line's start again.
-- Assumes nothing.
use Prim.Native.Nat.{ℕ, ◌-◌, ◌^◌}
use mathlib.Core.Path.{◌≡◌, refl, sym}
use mathlib.Core.Bool.{Bool, true, false, cond, true≢false}
use mathlib.Core.List.{List, [], ◌∷◌, ◌++◌}
use Rattle.std.proofs.Common.{Option, Some, None}
use lib.Dec.{eqb}
use Rattle.hold_lines.specs.Place.{first_digit, next_digit, with_digits, size_from, stepped, stepped_by}
use Rattle.hold_lines.specs.declared.place.Place.{Place}
use Rattle.hold_lines.specs.declared.place.Place.TheVariants as P
use Rattle.hold_year.specs.Parts.{is_broken, is_start}

pub stepped_both : (place : Place) (p q : List ℕ) → stepped_by place (p ++ q) ≡ stepped_by (stepped_by place p) q
unfolding stepped_by
stepped_both place [] q = refl
stepped_both place (b ∷ p) q = stepped_both (stepped place b) p q

-- No byte leads back to the line's start.
never_back : (place : Place) (b : ℕ) → is_start (stepped place b) ≡ false
unfolding stepped
never_back place b = by place
  where
    digits : (d : Option ℕ) (go : ℕ → Place) → ((n : ℕ) → is_start (go n) ≡ false) → is_start (with_digits d go) ≡ false
    digits (Some n) go h = h n
    digits None go h = refl

    either : (test : Bool) (p q : Place) → is_start p ≡ false → is_start q ≡ false → is_start (cond test p q) ≡ false
    either true p q h k = h
    either false p q h k = k

    by : (place : Place) → is_start (stepped place b) ≡ false
    by P.Start = digits (first_digit b) P.Crew (λ n. refl)
    by (P.Crew n) = either (eqb b 32) _ _ refl (digits (next_digit 63 n b) P.Crew (λ m. refl))
    by (P.BeforeRound crew) = digits (first_digit b) (P.Round crew) (λ n. refl)
    by (P.Round crew n) = either (eqb b 32) _ _ refl (digits (next_digit (2 ^ 32 - 1) n b) (P.Round crew) (λ m. refl))
    by (P.BeforeHold crew) = either (eqb b 45) _ _ refl (digits (first_digit b) (P.Hold crew) (λ n. refl))
    by (P.BeforeSize crew) =
        digits (first_digit b) (size_from crew) (λ n. either (eqb n 0) P.Broken (P.Below crew n) refl refl)
    by (P.Hold crew n) = digits (next_digit (2 ^ 63 - 1) n b) (P.Hold crew) (λ m. refl)
    by (P.Below crew n) = digits (next_digit (2 ^ 63) n b) (P.Below crew) (λ m. refl)
    by P.Broken = refl

-- So a line of at least one byte is begun.
pub is_begun : (b : ℕ) (bytes : List ℕ) → is_start (stepped_by P.Start (b ∷ bytes)) ≡ false
unfolding stepped_by
is_begun b bytes = by (stepped P.Start b) (never_back P.Start b) bytes
  where
    by : (place : Place) → is_start place ≡ false → (bytes : List ℕ) → is_start (stepped_by place bytes) ≡ false
    by place e [] = e
    by place e (c ∷ bytes) = by (stepped place c) (never_back place c) bytes

pub is_broken_law : (place : Place) → is_broken place ≡ true → place ≡ P.Broken
is_broken_law P.Start e = absurd (true≢false (sym e))
is_broken_law (P.Crew n) e = absurd (true≢false (sym e))
is_broken_law (P.BeforeRound crew) e = absurd (true≢false (sym e))
is_broken_law (P.Round crew n) e = absurd (true≢false (sym e))
is_broken_law (P.BeforeHold crew) e = absurd (true≢false (sym e))
is_broken_law (P.BeforeSize crew) e = absurd (true≢false (sym e))
is_broken_law (P.Hold crew n) e = absurd (true≢false (sym e))
is_broken_law (P.Below crew n) e = absurd (true≢false (sym e))
is_broken_law P.Broken e = refl
