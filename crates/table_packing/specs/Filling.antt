-- What is put into the packed table, each at the place at which it is read (`table`). What lies past the room is not put.
-- Assumes nothing.
use Rattle.std.specs.Prelude.{ℕ, zero, suc, ◌+◌, ◌-◌, ◌*◌, ◌≡◌, cond, List, ltb, set, Float}
use Rattle.number_words.specs.Word.{word_of, signed_of}
use Rattle.shapes.specs.declared.bounding_box.BoundingBox.{BoundingBox}
use Rattle.shapes.specs.declared.profile.CircularProfile.{CircularProfile}
use Rattle.shapes.specs.declared.waypoint.Waypoint.{Waypoint}
use Rattle.table.specs.Obstacle.{box_of_trajectory}
use Rattle.table.specs.Table.{obstacle_count, profile_in, waypoints_in}

-- ---- One thing.

abbrev pub with_count : List ℕ → ℕ → List ℕ
with_count marks n = set marks 0 n

unfoldable pub with_ends : List ℕ → ℕ → ℕ → ℕ → List ℕ
with_ends marks o first end = cond (ltb o 32) (set (set marks (4 * o + 1) first) (4 * o + 2) end) marks

unfoldable pub with_profile : List Float → ℕ → CircularProfile → Float → List Float
with_profile places o p limit =
    cond (ltb o 32) (set (set (set places (7 * o) p.footprint) (7 * o + 1) p.follow) (7 * o + 2) limit) places

unfoldable pub with_box : List Float → ℕ → BoundingBox → List Float
with_box places o b =
    cond (ltb o 32)
    (set (set (set (set places (7 * o + 3) b.left) (7 * o + 4) b.bottom) (7 * o + 5) b.right) (7 * o + 6) b.top)
    places

-- A waypoint: its time among the marks, its place among the places.
unfoldable pub with_time : List ℕ → ℕ → Waypoint → List ℕ
with_time marks i w = cond (ltb i 288) (set marks (i + 129) (word_of w.time.0)) marks

unfoldable pub with_place : List Float → ℕ → Waypoint → List Float
with_place places i w = cond (ltb i 288) (set (set places (2 * i + 224) w.x) (2 * i + 225) w.y) places

-- Both, and that the time is a number of 64 bits, so that it is read as it was put.
pub record PutsWaypoint (i : ℕ) (w : Waypoint) (marks marks' : List ℕ) (places places' : List Float) : Type 0 where
  pub marked : marks' ≡ with_time marks i w
  pub placed : places' ≡ with_place places i w
  pub whole : signed_of (word_of w.time.0) ≡ w.time.0

-- ---- Many, one behind another.

-- What is put for each of the n numbers from i on.
unfoldable pub put_from : {A : Type 0} → (ℕ → A → A) → ℕ → ℕ → A → A
put_from put zero i l = l
put_from put (suc n) i l = put_from put n (suc i) (put i l)

-- For each from i up to, and without, end.
abbrev pub put_to : {A : Type 0} → (ℕ → A → A) → ℕ → ℕ → A → A
put_to put end i l = put_from put (end - i) i l

-- ---- The boxes.

-- The box of obstacle o by its own waypoints and footprint (RULES 7.10).
unfoldable pub own_box : List ℕ → List Float → ℕ → BoundingBox
own_box marks places o = box_of_trajectory (profile_in places o).footprint (waypoints_in marks places o)

-- The places with the box of every obstacle.
unfoldable pub boxes_in : List ℕ → List Float → List Float
boxes_in marks places = put_to (λ o l. with_box l o (own_box marks places o)) (obstacle_count marks) 0 places
