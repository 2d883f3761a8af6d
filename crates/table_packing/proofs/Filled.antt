-- What is put into the packed table is read there, and all else stays as it was.
-- Assumes nothing.
use Prim.Native.Nat.{ℕ, ◌+◌, ◌*◌, ◌≤◌, ◌<◌, min}
use mathlib.Core.Path.{◌≡◌, refl, ◌∙◌}
use mathlib.Core.List.{List}
use native.Mathlib.Omega.{arith}
use borrow.Author.Tests.{lt-ltb}
use lib.ListN.{length, get_or, set, length-set}
use lib.Seq.{get_or-set_same, get_or-set_other}
use lib.Ieee.{Float, nan}
use Rattle.number_words.specs.Word.{word_of}
use Rattle.shapes.specs.declared.profile.CircularProfile.{CircularProfile}
use Rattle.shapes.specs.declared.waypoint.Waypoint.{Waypoint}
use Rattle.table.specs.Table.{obstacle_count, first_in, end_in, profile_in, limit_in}
use Rattle.table_packing.specs.Filling.{with_count, with_ends, with_profile, with_time, with_place}
use Rattle.table_packing.proofs.Stored.{in_room}

-- How many obstacles there are.
pub count_here : (marks : List ℕ) (n : ℕ) → length marks ≡ 417 → n ≤ 32 → obstacle_count (with_count marks n) ≡ n
unfolding obstacle_count
count_here marks n long few = omega (arith, get_or-set_same marks 0 n 0 (omega arith))

-- ---- The ends of an obstacle.

module _ (marks : List ℕ) (o first end : ℕ) where
  abbrev begun : List ℕ
  begun = set marks (4 * o + 1) first

  abbrev ended : List ℕ
  ended = set begun (4 * o + 2) end

  pub ends_long : length (with_ends marks o first end) ≡ length marks
  unfolding with_ends
  ends_long = in_room (λ l. length l ≡ length marks) o 32 ended marks (λ h. simp length-set) refl

  ends_kept : (k : ℕ) → (o < 32 → 4 * o + 1 ≤ k → k ≤ 4 * o + 2 → ⊥) → get_or (with_ends marks o first end) k 0 ≡ get_or marks k 0
  unfolding with_ends
  ends_kept k apart =
      in_room
      (λ l. get_or l k 0 ≡ get_or marks k 0)
      o
      32
      ended
      marks
      (λ h.
      get_or-set_other begun (4 * o + 2) k end 0 (λ e. apart h (omega arith) (omega arith)) ∙
      get_or-set_other marks (4 * o + 1) k first 0 (λ e. apart h (omega arith) (omega arith)))
      refl

  pub first_here : o < 32 → length marks ≡ 417 → first_in (with_ends marks o first end) o ≡ min 288 first
  unfolding first_in with_ends
  first_here h long =
      let row : min 31 o ≡ o = omega arith in
      let read =
      get_or-set_other begun (4 * o + 2) (4 * o + 1) end 0 (λ e. omega arith) ∙
      get_or-set_same marks (4 * o + 1) first 0 (omega arith) in
      rw (lt-ltb o 32 h, row, read)

  pub end_here : o < 32 → length marks ≡ 417 → end_in (with_ends marks o first end) o ≡ min 288 end
  unfolding end_in with_ends
  end_here h long =
      let row : min 31 o ≡ o = omega arith in
      let read = get_or-set_same begun (4 * o + 2) end 0 (simp length-set (omega arith)) in
      rw (lt-ltb o 32 h, row, read)

  pub first_kept : (p : ℕ) → p < o → first_in (with_ends marks o first end) p ≡ first_in marks p
  unfolding first_in
  first_kept p h = rw (ends_kept (4 * min 31 p + 1) (λ r l u. omega arith))

  pub end_kept : (p : ℕ) → p < o → end_in (with_ends marks o first end) p ≡ end_in marks p
  unfolding end_in
  end_kept p h = rw (ends_kept (4 * min 31 p + 2) (λ r l u. omega arith))

  pub count_kept_ends : obstacle_count (with_ends marks o first end) ≡ obstacle_count marks
  unfolding obstacle_count
  count_kept_ends = rw (ends_kept 0 (λ r l u. omega arith))

  pub time_kept_ends : (i : ℕ) → get_or (with_ends marks o first end) (min 287 i + 129) 0 ≡ get_or marks (min 287 i + 129) 0
  time_kept_ends i = ends_kept (min 287 i + 129) (λ r l u. omega arith)

-- ---- Its profile and its conflict distance.

module _ (places : List Float) (o : ℕ) (p : CircularProfile) (limit : Float) where
  abbrev printed : List Float
  printed = set places (7 * o) p.footprint

  abbrev buffered : List Float
  buffered = set printed (7 * o + 1) p.follow

  abbrev limited : List Float
  limited = set buffered (7 * o + 2) limit

  pub profile_long : length (with_profile places o p limit) ≡ length places
  unfolding with_profile
  profile_long = in_room (λ l. length l ≡ length places) o 32 limited places (λ h. simp length-set) refl

  numbers_kept : (k : ℕ) → (o < 32 → 7 * o ≤ k → k ≤ 7 * o + 2 → ⊥) →
      get_or (with_profile places o p limit) k nan ≡ get_or places k nan
  unfolding with_profile
  numbers_kept k apart =
      in_room
      (λ l. get_or l k nan ≡ get_or places k nan)
      o
      32
      limited
      places
      (λ h.
      get_or-set_other buffered (7 * o + 2) k limit nan (λ e. apart h (omega arith) (omega arith)) ∙
      get_or-set_other printed (7 * o + 1) k p.follow nan (λ e. apart h (omega arith) (omega arith)) ∙
      get_or-set_other places (7 * o) k p.footprint nan (λ e. apart h (omega arith) (omega arith)))
      refl

  pub profile_here : o < 32 → length places ≡ 800 → profile_in (with_profile places o p limit) o ≡ p
  unfolding profile_in with_profile
  profile_here h long =
      let row : min 31 o ≡ o = omega arith in
      let footprint =
      get_or-set_other buffered (7 * o + 2) (7 * o) limit nan (λ e. omega arith) ∙
      get_or-set_other printed (7 * o + 1) (7 * o) p.follow nan (λ e. omega arith) ∙
      get_or-set_same places (7 * o) p.footprint nan (omega arith) in
      let follow =
      get_or-set_other buffered (7 * o + 2) (7 * o + 1) limit nan (λ e. omega arith) ∙
      get_or-set_same printed (7 * o + 1) p.follow nan (simp length-set (omega arith)) in
      rw (lt-ltb o 32 h, row, footprint, follow)

  pub limit_here : o < 32 → length places ≡ 800 → limit_in (with_profile places o p limit) o ≡ limit
  unfolding limit_in with_profile
  limit_here h long =
      let row : min 31 o ≡ o = omega arith in
      let read = get_or-set_same buffered (7 * o + 2) limit nan (simp length-set (omega arith)) in
      rw (lt-ltb o 32 h, row, read)

  pub profile_kept : (q : ℕ) → q < o → profile_in (with_profile places o p limit) q ≡ profile_in places q
  unfolding profile_in
  profile_kept q h =
      rw (numbers_kept (7 * min 31 q) (λ r l u. omega arith), numbers_kept (7 * min 31 q + 1) (λ r l u. omega arith))

  pub limit_kept : (q : ℕ) → q < o → limit_in (with_profile places o p limit) q ≡ limit_in places q
  unfolding limit_in
  limit_kept q h = numbers_kept (7 * min 31 q + 2) (λ r l u. omega arith)

  pub place_kept_profile : (i : ℕ) →
      (get_or (with_profile places o p limit) (2 * min 287 i + 224) nan ≡ get_or places (2 * min 287 i + 224) nan) ×
      (get_or (with_profile places o p limit) (2 * min 287 i + 225) nan ≡ get_or places (2 * min 287 i + 225) nan)
  place_kept_profile i =
      (numbers_kept (2 * min 287 i + 224) (λ r l u. omega arith), numbers_kept (2 * min 287 i + 225) (λ r l u. omega arith))

-- ---- A waypoint.

module _ (marks : List ℕ) (i : ℕ) (w : Waypoint) where
  pub time_long : length (with_time marks i w) ≡ length marks
  unfolding with_time
  time_long =
      in_room (λ l. length l ≡ length marks) i 288 (set marks (i + 129) (word_of w.time.0)) marks (λ h. simp length-set) refl

  words_kept : (k : ℕ) → (i < 288 → k ≡ i + 129 → ⊥) → get_or (with_time marks i w) k 0 ≡ get_or marks k 0
  unfolding with_time
  words_kept k apart =
      let word = word_of w.time.0 in
      in_room
      (λ l. get_or l k 0 ≡ get_or marks k 0)
      i
      288
      (set marks (i + 129) word)
      marks
      (λ h. get_or-set_other marks (i + 129) k word 0 (apart h))
      refl

  pub time_here : i < 288 → length marks ≡ 417 → get_or (with_time marks i w) (min 287 i + 129) 0 ≡ word_of w.time.0
  unfolding with_time
  time_here h long =
      let at : min 287 i ≡ i = omega arith in
      rw (lt-ltb i 288 h, at) (get_or-set_same marks (i + 129) (word_of w.time.0) 0 (omega arith))

  pub time_kept : (j : ℕ) → j < i → get_or (with_time marks i w) (min 287 j + 129) 0 ≡ get_or marks (min 287 j + 129) 0
  time_kept j h = words_kept (min 287 j + 129) (λ r e. omega arith)

  pub first_kept_time : (o : ℕ) → first_in (with_time marks i w) o ≡ first_in marks o
  unfolding first_in
  first_kept_time o = rw (words_kept (4 * min 31 o + 1) (λ r e. omega arith))

  pub end_kept_time : (o : ℕ) → end_in (with_time marks i w) o ≡ end_in marks o
  unfolding end_in
  end_kept_time o = rw (words_kept (4 * min 31 o + 2) (λ r e. omega arith))

  pub count_kept_time : obstacle_count (with_time marks i w) ≡ obstacle_count marks
  unfolding obstacle_count
  count_kept_time = rw (words_kept 0 (λ r e. omega arith))

module _ (places : List Float) (i : ℕ) (w : Waypoint) where
  abbrev across : List Float
  across = set places (2 * i + 224) w.x

  abbrev along : List Float
  along = set across (2 * i + 225) w.y

  pub place_long : length (with_place places i w) ≡ length places
  unfolding with_place
  place_long = in_room (λ l. length l ≡ length places) i 288 along places (λ h. simp length-set) refl

  spots_kept : (k : ℕ) → (i < 288 → 2 * i + 224 ≤ k → k ≤ 2 * i + 225 → ⊥) →
      get_or (with_place places i w) k nan ≡ get_or places k nan
  unfolding with_place
  spots_kept k apart =
      in_room
      (λ l. get_or l k nan ≡ get_or places k nan)
      i
      288
      along
      places
      (λ h.
      get_or-set_other across (2 * i + 225) k w.y nan (λ e. apart h (omega arith) (omega arith)) ∙
      get_or-set_other places (2 * i + 224) k w.x nan (λ e. apart h (omega arith) (omega arith)))
      refl

  pub x_here : i < 288 → length places ≡ 800 → get_or (with_place places i w) (2 * min 287 i + 224) nan ≡ w.x
  unfolding with_place
  x_here h long =
      let at : min 287 i ≡ i = omega arith in
      rw (lt-ltb i 288 h, at)
      (get_or-set_other across (2 * i + 225) (2 * i + 224) w.y nan (λ e. omega arith) ∙
      get_or-set_same places (2 * i + 224) w.x nan (omega arith))

  pub y_here : i < 288 → length places ≡ 800 → get_or (with_place places i w) (2 * min 287 i + 225) nan ≡ w.y
  unfolding with_place
  y_here h long =
      let at : min 287 i ≡ i = omega arith in
      rw (lt-ltb i 288 h, at) (get_or-set_same across (2 * i + 225) w.y nan (simp length-set (omega arith)))

  pub x_kept : (j : ℕ) → j < i → get_or (with_place places i w) (2 * min 287 j + 224) nan ≡ get_or places (2 * min 287 j + 224) nan
  x_kept j h = spots_kept (2 * min 287 j + 224) (λ r l u. omega arith)

  pub y_kept : (j : ℕ) → j < i → get_or (with_place places i w) (2 * min 287 j + 225) nan ≡ get_or places (2 * min 287 j + 225) nan
  y_kept j h = spots_kept (2 * min 287 j + 225) (λ r l u. omega arith)

  pub profile_kept_place : (o : ℕ) → profile_in (with_place places i w) o ≡ profile_in places o
  unfolding profile_in
  profile_kept_place o =
      rw (spots_kept (7 * min 31 o) (λ r l u. omega arith), spots_kept (7 * min 31 o + 1) (λ r l u. omega arith))

  pub limit_kept_place : (o : ℕ) → limit_in (with_place places i w) o ≡ limit_in places o
  unfolding limit_in
  limit_kept_place o = spots_kept (7 * min 31 o + 2) (λ r l u. omega arith)
