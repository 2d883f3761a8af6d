-- Ranking: by contour, then reach, and where both are equal in the order of finding (RULES 11.6, 11.7).
-- Assumes nothing.
use Rattle.std.specs.Prelude.{◌≡◌, Bool, true, false, not, ◌&&◌, cond, List, [], ◌∷◌, length}
use Rattle.std.specs.Int.Signed.{lt_z}
use Rattle.std.specs.Float.Ieee
use Rattle.hint_list.specs.declared.hint.RankedHint.{RankedHint}

-- a goes before b: the smaller contour, and at equal contours the smaller reach (RULES 11.6).
unfoldable pub goes_before : RankedHint → RankedHint → Bool
goes_before a b =
    cond (lt_z a.contour.0 b.contour.0)
    true
    (cond (lt_z b.contour.0 a.contour.0) false (Ieee.lt a.reach b.reach))

-- One hint more: in front of the first that it goes before, so behind all that are level with it (RULES 11.7).
unfoldable pub inserted : RankedHint → List RankedHint → List RankedHint
inserted h [] = h ∷ []
inserted h (x ∷ l) = cond (goes_before h x) (h ∷ x ∷ l) (x ∷ inserted h l)

-- Hints in the order of finding, each put at its place among those that are ranked already.
unfoldable pub ranked_onto : List RankedHint → List RankedHint → List RankedHint
ranked_onto done [] = done
ranked_onto done (h ∷ l) = ranked_onto (inserted h done) l

abbrev pub ranked : List RankedHint → List RankedHint
ranked l = ranked_onto [] l

-- ---- What is asked of a ranking m of l, and shown to fix it (proofs/Theorems).

-- No hint goes before the one in front of it.
unfoldable pub sorted : List RankedHint → Bool
sorted [] = true
sorted (x ∷ []) = true
sorted (x ∷ (y ∷ l)) = not (goes_before y x) && sorted (y ∷ l)

-- Those that pass a test, in their order.
unfoldable pub those : (RankedHint → Bool) → List RankedHint → List RankedHint
those p [] = []
those p (x ∷ l) = cond (p x) (x ∷ those p l) (those p l)

-- A permutation: whatever is asked, as many pass in the one as in the other.
pub record Permuted (m l : List RankedHint) : Type 0 where
  pub as_many : (p : RankedHint → Bool) → length (those p m) ≡ length (those p l)

-- Neither goes before the other.
abbrev pub are_level : RankedHint → RankedHint → Bool
are_level a b = not (goes_before a b) && not (goes_before b a)

-- The reach is no NaN.
abbrev pub is_known : RankedHint → Bool
is_known h = not (Ieee.is_nan h.reach)

-- Stable: those level with any one hint stand in the order of finding.
pub record Stable (m l : List RankedHint) : Type 0 where
  pub as_found : (k : RankedHint) → is_known k ≡ true → those (are_level k) m ≡ those (are_level k) l

pub record Ranking (m l : List RankedHint) : Type 0 where
  pub permuted : Permuted m l
  pub in_order : sorted m ≡ true
  pub stable : Stable m l
