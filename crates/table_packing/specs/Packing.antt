-- Lent lists packed into the table (RULES 20.7).
-- Assumes nothing.
use Rattle.std.specs.Prelude.{ℕ, ◌+◌, ◌≡◌, Bool, true, ◌&&◌, cond, List, leb, ℤ, pos, length, get_or, replicate, Float}
use Rattle.floats.specs.Constants.{nought}
use Rattle.number_words.specs.Word.{word_of, signed_of}
use Rattle.table.specs.Lent.{Lent, start_in, profile_listed, limit_listed, waypoint_listed}
use Rattle.table.specs.Examined.{is_laid}
use Rattle.table_packing.specs.Filling.{with_count, with_ends, with_profile, with_time, with_place, put_to, boxes_in}

-- The lists fit one another, and the table has room for their obstacles and waypoints.
unfoldable pub has_room_for : Lent → Bool
has_room_for lent = leb (length lent.starts) 32 && (leb (length lent.times) 288 && is_laid lent)

-- ---- The parts.

-- The ends of all obstacles, and their profiles and conflict distances.
unfoldable pub ends_put : List ℕ → ℕ → List ℕ → List ℕ
ends_put starts count marks =
    put_to (λ o l. with_ends l o (start_in starts count o) (start_in starts count (o + 1))) (length starts) 0 marks

unfoldable pub profiles_put : List ℕ → List Float → List Float → List Float
profiles_put starts numbers places =
    put_to (λ o l. with_profile l o (profile_listed numbers o) (limit_listed numbers o)) (length starts) 0 places

pub record PutsObstacles (starts : List ℕ) (numbers : List Float) (count : ℕ) (marks marks' : List ℕ) (places places' : List Float) :
    Type 0 where
  pub ends : marks' ≡ ends_put starts count marks
  pub profiles : places' ≡ profiles_put starts numbers places

-- The times of all waypoints, and their places.
unfoldable pub times_put : List ℤ → List Float → List Float → List ℕ → List ℕ
times_put times xs ys marks = put_to (λ i l. with_time l i (waypoint_listed times xs ys i)) (length times) 0 marks

unfoldable pub places_put : List ℤ → List Float → List Float → List Float → List Float
places_put times xs ys places = put_to (λ i l. with_place l i (waypoint_listed times xs ys i)) (length times) 0 places

pub record PutsWaypoints (times : List ℤ) (xs ys : List Float) (marks marks' : List ℕ) (places places' : List Float) : Type 0 where
  pub marked : marks' ≡ times_put times xs ys marks
  pub placed : places' ≡ places_put times xs ys places
  pub whole : (i : ℕ) → signed_of (word_of (get_or times i (pos 0))) ≡ get_or times i (pos 0)

-- ---- The whole table.

unfoldable pub packed_marks : Lent → List ℕ
packed_marks lent =
    times_put lent.times lent.xs lent.ys
    (ends_put lent.starts (length lent.times) (with_count (replicate 417 0) (length lent.starts)))

unfoldable pub packed_places : Lent → List Float
packed_places lent =
    boxes_in (packed_marks lent)
    (places_put lent.times lent.xs lent.ys (profiles_put lent.starts lent.numbers (replicate 800 nought)))

-- Whether there was room; then the table, else zero throughout. The times are numbers of 64 bits, as the lists hold them.
pub record Packs (lent : Lent) (marks : List ℕ) (places : List Float) (r : Bool) : Type 0 where
  pub room : r ≡ has_room_for lent
  pub marked : marks ≡ cond (has_room_for lent) (packed_marks lent) (replicate 417 0)
  pub placed : places ≡ cond (has_room_for lent) (packed_places lent) (replicate 800 nought)
  pub whole : has_room_for lent ≡ true → (i : ℕ) → signed_of (word_of (get_or lent.times i (pos 0))) ≡ get_or lent.times i (pos 0)
