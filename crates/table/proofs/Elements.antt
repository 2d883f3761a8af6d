-- What is read of a list: an element that it has, whatever would stand for one that it lacks.
-- Assumes nothing.
use Prim.Native.Nat.{ℕ, zero, suc, ◌<◌}
use mathlib.Core.Path.{◌≡◌, refl}
use mathlib.Core.List.{List, [], ◌∷◌}
use native.Mathlib.Omega.{arith}
use native.Mathlib.Nat.{le_of_suc-le-suc}
use lib.ListN.{length, get_or}

pub element_in : {A : Type 0} (l : List A) (i : ℕ) (d e : A) → i < length l → get_or l i d ≡ get_or l i e
element_in [] i d e h = absurd (omega arith)
element_in (x ∷ l) zero d e h = refl
element_in (x ∷ l) (suc i) d e h = element_in l i d e (le_of_suc-le-suc h)
