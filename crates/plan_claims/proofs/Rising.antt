-- Ranked hints have contours that never fall (RULES 11.6).
-- Assumes nothing.
use mathlib.Core.Path.{◌≡◌, refl}
use mathlib.Core.Bool.{Bool, true, false, not, cond}
use mathlib.Core.List.{List, [], ◌∷◌}
use Prim.Native.Nat.{ℕ, zero, suc, ◌<◌}
use native.Mathlib.Nat.{not-suc-le-zero, le_of_suc-le-suc}
use borrow.Author.Tests.{not-true}
use lib.ListN.{length}
use lib.Signed.{◌≤ℤ◌, lt_z, lt_z_no, ≤ℤ_refl}
use Rattle.floats.proofs.Tests.{failed}
use Rattle.times.proofs.Integers.{at_most_trans}
use Rattle.times.proofs.Exact.{both}
use Rattle.hint_list.specs.declared.hint.RankedHint.{RankedHint}
use Rattle.hint_ranking.specs.Ranked.{goes_before, sorted}
use Rattle.path_roots.proofs.Chosen.{contour_at, Rises}

module _ (x y : RankedHint) (l : List RankedHint) (ranked : sorted (x ∷ (y ∷ l)) ≡ true) where
  next_sorted : sorted (y ∷ l) ≡ true
  unfolding sorted
  next_sorted = (both (not (goes_before y x)) (sorted (y ∷ l)) ranked).1

  next_rises : x.contour.0 ≤ℤ y.contour.0
  unfolding sorted goes_before
  next_rises =
      let behind : goes_before y x ≡ false = not-true (goes_before y x) (both (not (goes_before y x)) (sorted (y ∷ l)) ranked).0 in
      lt_z_no (failed (by (lt_z y.contour.0 x.contour.0) _ behind))
    where
      by : (t rest : Bool) → cond t true rest ≡ false → t ≡ false
      by true rest e = e
      by false rest e = refl

first_lowest : (x : RankedHint) (l : List RankedHint) → sorted (x ∷ l) ≡ true →
    (j : ℕ) → j < length l → x.contour.0 ≤ℤ contour_at l j
first_lowest x [] e j h = absurd (not-suc-le-zero h)
first_lowest x (y ∷ l) e zero h = next_rises x y l e
first_lowest x (y ∷ l) e (suc j) h =
    at_most_trans _ y.contour.0 _ (next_rises x y l e)
    (first_lowest y l (next_sorted x y l e) j (le_of_suc-le-suc h))

pub sorted_rises : (l : List RankedHint) → sorted l ≡ true → Rises l
sorted_rises [] e i j g h = absurd (not-suc-le-zero h)
sorted_rises (x ∷ l) e zero zero g h = ≤ℤ_refl x.contour.0
sorted_rises (x ∷ l) e zero (suc j) g h = first_lowest x l e j (le_of_suc-le-suc h)
sorted_rises (x ∷ l) e (suc i) zero g h = absurd (not-suc-le-zero g)
sorted_rises (x ∷ []) e (suc i) (suc j) g h = absurd (not-suc-le-zero (le_of_suc-le-suc h))
sorted_rises (x ∷ (y ∷ l)) e (suc i) (suc j) g h =
    sorted_rises (y ∷ l) (next_sorted x y l e) i j (le_of_suc-le-suc g) (le_of_suc-le-suc h)
