-- The boxes of a table stand apart from all else in it, so with the box of each obstacle put, the table holds the obstacles with the
-- boxes of their own waypoints and footprints.
-- Assumes nothing.
use Prim.Native.Nat.{ℕ, zero, suc, ◌+◌, ◌-◌, ◌*◌, ◌≤◌, ◌<◌, min}
use mathlib.Core.Path.{◌≡◌, refl, sym, ap, ◌∙◌}
use mathlib.Core.List.{List, ◌∷◌, map}
use native.Mathlib.Omega.{arith}
use borrow.Author.Tests.{lt-ltb}
use lib.ListN.{length, get_or, set, length-set}
use lib.Seq.{get_or-set_same, get_or-set_other}
use lib.Ieee.{Float, nan}
use Rattle.lent.specs.Listed.{listed}
use Rattle.lent.proofs.Listed.{listed_same}
use Rattle.shapes.specs.declared.bounding_box.BoundingBox.{BoundingBox}
use Rattle.table.specs.Obstacle.{boxed}
use Rattle.table.specs.Table.{
  obstacle_count,
  first_in,
  end_in,
  profile_in,
  limit_in,
  box_in,
  waypoint_in,
  waypoints_in,
  obstacle_in,
  obstacles_in,
}
use Rattle.table.proofs.Walking.{few_in_table}
use Rattle.table_packing.specs.Filling.{with_box, own_box, boxes_in}
use Rattle.table_packing.proofs.Stored.{in_room, put_kept, put_all_read}

-- A list of what a function says, passed on to another.
pub map_listed : {A B : Type 0} (g : A → B) (f : ℕ → A) (n i : ℕ) → map g (listed f n i) ≡ listed (λ j. g (f j)) n i
unfolding listed
map_listed g f zero i = refl
map_listed g f (suc n) i = ap (λ l. g (f i) ∷ l) (map_listed g f n (suc i))

-- ---- One box.

module _ (places : List Float) (o : ℕ) (b : BoundingBox) where
  abbrev one : List Float
  one = set places (7 * o + 3) b.left

  abbrev two : List Float
  two = set one (7 * o + 4) b.bottom

  abbrev three : List Float
  three = set two (7 * o + 5) b.right

  abbrev four : List Float
  four = set three (7 * o + 6) b.top

  box_long : length (with_box places o b) ≡ length places
  unfolding with_box
  box_long = in_room (λ l. length l ≡ length places) o 32 four places (λ h. simp length-set) refl

  -- Outside its four places the list stays.
  kept : (k : ℕ) → (o < 32 → 7 * o + 3 ≤ k → k ≤ 7 * o + 6 → ⊥) → get_or (with_box places o b) k nan ≡ get_or places k nan
  unfolding with_box
  kept k apart =
      in_room
      (λ l. get_or l k nan ≡ get_or places k nan)
      o
      32
      four
      places
      (λ h.
      get_or-set_other three (7 * o + 6) k b.top nan (λ e. apart h (omega arith) (omega arith)) ∙
      get_or-set_other two (7 * o + 5) k b.right nan (λ e. apart h (omega arith) (omega arith)) ∙
      get_or-set_other one (7 * o + 4) k b.bottom nan (λ e. apart h (omega arith) (omega arith)) ∙
      get_or-set_other places (7 * o + 3) k b.left nan (λ e. apart h (omega arith) (omega arith)))
      refl

  profile_kept : (p : ℕ) → profile_in (with_box places o b) p ≡ profile_in places p
  unfolding profile_in
  profile_kept p = rw (kept (7 * min 31 p) (λ h l r. omega arith), kept (7 * min 31 p + 1) (λ h l r. omega arith))

  limit_kept : (p : ℕ) → limit_in (with_box places o b) p ≡ limit_in places p
  unfolding limit_in
  limit_kept p = kept (7 * min 31 p + 2) (λ h l r. omega arith)

  waypoint_kept : (marks : List ℕ) (i : ℕ) → waypoint_in marks (with_box places o b) i ≡ waypoint_in marks places i
  unfolding waypoint_in
  waypoint_kept marks i =
      rw (kept (2 * min 287 i + 224) (λ h l r. omega arith), kept (2 * min 287 i + 225) (λ h l r. omega arith))

  waypoints_kept : (marks : List ℕ) (p : ℕ) → waypoints_in marks (with_box places o b) p ≡ waypoints_in marks places p
  unfolding waypoints_in
  waypoints_kept marks p =
      listed_same
      (waypoint_in marks (with_box places o b))
      (waypoint_in marks places)
      (end_in marks p - first_in marks p)
      (first_in marks p)
      (λ i l r. waypoint_kept marks i)

  -- So the box of each obstacle is the same as before.
  pub own_box_kept : (marks : List ℕ) (p : ℕ) → own_box marks (with_box places o b) p ≡ own_box marks places p
  unfolding own_box
  own_box_kept marks p = rw (profile_kept p, waypoints_kept marks p)

  -- The boxes before it stay,
  box_kept : (p : ℕ) → p < o → box_in (with_box places o b) p ≡ box_in places p
  unfolding box_in
  box_kept p h =
      rw (
        kept (7 * min 31 p + 3) (λ r l u. omega arith),
        kept (7 * min 31 p + 4) (λ r l u. omega arith),
        kept (7 * min 31 p + 5) (λ r l u. omega arith),
        kept (7 * min 31 p + 6) (λ r l u. omega arith),
      )

  -- and it is there.
  module _ (h : o < 32) (long : length places ≡ 800) where
    left_put : get_or four (7 * o + 3) nan ≡ b.left
    left_put =
        get_or-set_other three (7 * o + 6) (7 * o + 3) b.top nan (λ e. omega arith) ∙
        get_or-set_other two (7 * o + 5) (7 * o + 3) b.right nan (λ e. omega arith) ∙
        get_or-set_other one (7 * o + 4) (7 * o + 3) b.bottom nan (λ e. omega arith) ∙
        get_or-set_same places (7 * o + 3) b.left nan (omega arith)

    bottom_put : get_or four (7 * o + 4) nan ≡ b.bottom
    bottom_put =
        get_or-set_other three (7 * o + 6) (7 * o + 4) b.top nan (λ e. omega arith) ∙
        get_or-set_other two (7 * o + 5) (7 * o + 4) b.right nan (λ e. omega arith) ∙
        get_or-set_same one (7 * o + 4) b.bottom nan (simp length-set (omega arith))

    right_put : get_or four (7 * o + 5) nan ≡ b.right
    right_put =
        get_or-set_other three (7 * o + 6) (7 * o + 5) b.top nan (λ e. omega arith) ∙
        get_or-set_same two (7 * o + 5) b.right nan (simp length-set (omega arith))

    top_put : get_or four (7 * o + 6) nan ≡ b.top
    top_put = get_or-set_same three (7 * o + 6) b.top nan (simp length-set (omega arith))

    box_here : box_in (with_box places o b) o ≡ b
    unfolding box_in with_box
    box_here =
        let row : min 31 o ≡ o = omega arith in
        rw (lt-ltb o 32 h, row, left_put, bottom_put, right_put, top_put)

-- ---- All of them.

module _ (marks : List ℕ) (places : List Float) where
  abbrev box_at : ℕ → List Float → List Float
  box_at o l = with_box l o (own_box marks places o)

  -- What no box changes is as it was.
  boxes_kept : {B : Type 0} (read : List Float → B) →
      ((o : ℕ) (l : List Float) (b : BoundingBox) → read (with_box l o b) ≡ read l) → read (boxes_in marks places) ≡ read places
  unfolding boxes_in
  boxes_kept read same =
      put_kept box_at read (obstacle_count marks - 0) 0 places (λ o l h. same o l (own_box marks places o))

  boxes_put : (o : ℕ) → o < obstacle_count marks → length places ≡ 800 → box_in (boxes_in marks places) o ≡ own_box marks places o
  unfolding boxes_in
  boxes_put o h long =
      put_all_read box_at (λ l. length l ≡ 800) (λ p l. box_in l p) (own_box marks places) 32
      (λ j l e. box_long l j (own_box marks places j) ∙ e)
      (λ j l r e. box_here l j (own_box marks places j) r e)
      (λ p j l r. box_kept l j (own_box marks places j) p r)
      (obstacle_count marks) places o (few_in_table marks) h long

  obstacle_boxed : length places ≡ 800 → (o : ℕ) → o < obstacle_count marks →
      obstacle_in marks (boxes_in marks places) o ≡ boxed (obstacle_in marks places o)
  unfolding boxed own_box
  obstacle_boxed long o h =
      rw (
        boxes_kept (λ l. profile_in l o) (λ q l b. profile_kept l q b o),
        boxes_kept (λ l. limit_in l o) (λ q l b. limit_kept l q b o),
        boxes_kept (λ l. waypoints_in marks l o) (λ q l b. waypoints_kept l q b marks o),
        boxes_put o h long,
      )

  pub boxed_obstacles : length places ≡ 800 → obstacles_in marks (boxes_in marks places) ≡ map boxed (obstacles_in marks places)
  unfolding obstacles_in
  boxed_obstacles long =
      listed_same
      (obstacle_in marks (boxes_in marks places))
      (λ o. boxed (obstacle_in marks places o))
      (obstacle_count marks - 0)
      0
      (λ o l r. obstacle_boxed long o (omega arith)) ∙
      sym (map_listed boxed (obstacle_in marks places) (obstacle_count marks - 0) 0)
