-- The legs of the waypoints in a range: how they are walked from the front, and how many there are.
-- Assumes nothing.
use Prim.Native.Nat.{ℕ, zero, suc, ◌+◌, ◌-◌, ◌≤◌, ◌<◌}
use mathlib.Core.Path.{◌≡◌, refl, sym, ap, ◌∙◌}
use mathlib.Core.List.{List, [], ◌∷◌}
use native.Mathlib.Numerals.{add-one}
use native.Mathlib.Omega.{arith}
use lib.ListN.{length}
use Rattle.lent.specs.Listed.{listed_to}
use Rattle.lent.proofs.Listed.{listed_done, listed_next, length_listed}
use Rattle.shapes.specs.declared.waypoint.Leg.{Leg}
use Rattle.shapes.specs.declared.waypoint.Waypoint.{Waypoint}
use Rattle.table.specs.Obstacle.{legs_of, legs_from}

-- A waypoint with another after it: the leg between the two, and the legs from the other on.
pub legs_next : (w : ℕ → Waypoint) (end i : ℕ) → i + 1 < end →
    legs_of (listed_to w end i) ≡ record { start = w i; end = w (i + 1) } ∷ legs_of (listed_to w end (i + 1))
unfolding legs_of
legs_next w end i h = rw (listed_next w end i (omega arith), listed_next w end (i + 1) h)

-- The last waypoint, and whatever lies past it, begins none.
pub legs_done : (w : ℕ → Waypoint) (end i : ℕ) → end ≤ i + 1 → legs_of (listed_to w end i) ≡ []
unfolding legs_of
legs_done w end i h = by (listed_to w end i) (omega (arith, length_listed w (end - i) i))
  where
    by : (ws : List Waypoint) → length ws ≤ 1 → legs_of ws ≡ []
    by [] e = refl
    by (v ∷ []) e = refl
    by (v ∷ (u ∷ vs)) e = absurd (omega arith)

length_legs_from : (v : Waypoint) (vs : List Waypoint) → length (legs_from v vs) ≡ length vs
length_legs_from v [] = refl
length_legs_from v (u ∷ vs) = ap suc (length_legs_from u vs)

-- One less than the waypoints.
pub length_legs : (ws : List Waypoint) → length (legs_of ws) ≡ length ws - 1
unfolding legs_of
length_legs [] = refl
length_legs (v ∷ vs) = let e = length_legs_from v vs in omega arith

pub legs_count : (w : ℕ → Waypoint) (end i : ℕ) → length (legs_of (listed_to w end i)) ≡ (end - i) - 1
legs_count w end i = length_legs (listed_to w end i) ∙ ap (λ n. n - 1) (length_listed w (end - i) i)

-- The legs up to the waypoint at `last`, one by one.
pub legs_listed : (w : ℕ → Waypoint) (last i : ℕ) →
    listed_to (λ j. record { start = w j; end = w (j + 1) }) last i ≡ legs_of (listed_to w (last + 1) i)
legs_listed w last i = by (last - i) i refl
  where
    leg : ℕ → Leg
    leg j = record { start = w j; end = w (j + 1) }

    by : (n j : ℕ) → last - j ≡ n → listed_to leg last j ≡ legs_of (listed_to w (last + 1) j)
    by zero j e = listed_done leg last j (omega arith) ∙ sym (legs_done w (last + 1) j (omega arith))
    by (suc n) j e =
        listed_next leg last j (omega arith) ∙
        ap (λ legs. leg j ∷ legs) (by n (j + 1) (omega arith)) ∙
        sym (legs_next w (last + 1) j (omega arith))

-- All legs, up to the last waypoint: none where there is no waypoint.
pub legs_up_to : (w : ℕ → Waypoint) (end i : ℕ) →
    listed_to (λ j. record { start = w j; end = w (j + 1) }) (end - 1) i ≡ legs_of (listed_to w end i)
legs_up_to w zero i = listed_done _ (0 - 1) i (omega arith) ∙ sym (legs_done w 0 i (omega arith))
legs_up_to w (suc end) i = let same : suc end - 1 ≡ end = omega arith in rw (same, ← add-one end) (legs_listed w end i)
