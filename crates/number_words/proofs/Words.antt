-- A signed number and its word say the same: each comes back from the other, and every word is that of a number of 64 bits.
-- Assumes nothing.
use mathlib.Core.Path.{◌≡◌, refl, ap, ◌∙◌}
use mathlib.Core.Bool.{Bool, true, false, cond}
use Prim.Native.Nat.{ℕ, suc, ◌-◌, ◌^◌}
use native.Mathlib.Omega.{arith}
use borrow.Author.Tests.{ltb-true, ltb-false}
use lib.Dec.{ltb}
use lib.IntN.{ℤ, pos, negsuc}
use mir.Syntax.{w64}
use mir.Val.{Fits, SFits, of_z}
use mir.ValLaws.{to_z-of_z, of_z-to_z}
use Rattle.number_words.specs.Word.{word_of, signed_of}

bits : (z : ℤ) → word_of z ≡ of_z w64 z
bits (pos n) = refl
bits (negsuc n) = refl

pub signed_back : (z : ℤ) → SFits w64 z → signed_of (word_of z) ≡ z
unfolding signed_of
signed_back z h = ap signed_of (bits z) ∙ to_z-of_z w64 z h

pub word_back : (w : ℕ) → Fits w64 w → word_of (signed_of w) ≡ w
unfolding signed_of
word_back w h = bits (signed_of w) ∙ of_z-to_z w64 w h

pub signed_fits : (w : ℕ) → SFits w64 (signed_of w)
unfolding signed_of
signed_fits w = by (ltb w (2 ^ 63)) refl
  where
    by : (t : Bool) → ltb w (2 ^ 63) ≡ t → SFits w64 (cond t (pos w) (negsuc (2 ^ 64 - suc w)))
    by true e = record { sfits = ltb-true w (2 ^ 63) e }
    by false e = record { sfits = omega (arith, ltb-false w (2 ^ 63) e) }
