-- How large vectors are: by the coordinate after each operation, as in Bounds, and those of the table (RULES 2.12, 3.2, 3.8).
-- Assumes nothing.
use mathlib.Core.Path.{◌≡◌}
use mathlib.Core.Bool.{true}
use lib.IntN.{pos}
use lib.Ieee
use lib.Ieee.{Float, binary64, add, mul, div, le}
use Rattle.floats.proofs.Relations.{◌≼◌, Finite, Positive}
use Rattle.floats.specs.Constants.{nought}
use Rattle.floats.proofs.Magnitude.{Within}
use Rattle.floats.proofs.Bounds.{within_known, within_le, within_add, within_sub, within_mul, within_div_above}
use Rattle.floats.proofs.Meeting.{within_dot, dot_not_below}
use Rattle.times.specs.Time.{seconds_of}
use Rattle.times.proofs.Exact.{both}
use Rattle.shapes.specs.Vector.{vector_sum, vector_difference, scaled, divided, dot_of}
use Rattle.domain.specs.Domain.{is_coordinate, is_place, is_speed}
use Rattle.shapes.specs.declared.vector.Vector.{Vector}
use Rattle.domain.proofs.Within.{ten_thousand, swiftest, top_speed, coordinate_at_most, speed_within, within_speed}

-- Both coordinates lie between -c and c.
pub record Spans (c : Float) (v : Vector) : Type 0 where
  pub x_within : Within c v.x
  pub y_within : Within c v.y

-- A larger bound.
pub spans_le : {c : Float} {v : Vector} (d : Float) → Spans c v → c ≼ d → Spans d v
spans_le d h k = record { x_within = within_le d h.x_within k; y_within = within_le d h.y_within k }

-- ---- The operations (RULES, Words and signs).

-- A sum and a difference, within c + d.
pub spans_sum : {c d : Float} {v w : Vector} → Spans c v → Spans d w → Finite c → Finite d → Spans (add binary64 c d) (vector_sum v w)
unfolding vector_sum
spans_sum h k C D =
    record {
      x_within = within_add binary64 h.x_within k.x_within C D;
      y_within = within_add binary64 h.y_within k.y_within C D;
    }

pub spans_difference : {c d : Float} {v w : Vector} →
    Spans c v → Spans d w → Finite c → Finite d → Spans (add binary64 c d) (vector_difference v w)
unfolding vector_difference
spans_difference h k C D =
    record {
      x_within = within_sub binary64 h.x_within k.x_within C D;
      y_within = within_sub binary64 h.y_within k.y_within C D;
    }

-- v * t, within c * d.
pub spans_scaled : {c d : Float} {v : Vector} {t : Float} →
    Spans c v → Within d t → Finite c → Finite d → Spans (mul binary64 c d) (scaled v t)
unfolding scaled
spans_scaled h k C D =
    record {
      x_within = within_mul binary64 h.x_within k C D;
      y_within = within_mul binary64 h.y_within k C D;
    }

-- v / t by a finite t that is d or more, within c / d.
pub spans_divided : {c : Float} {v : Vector} (d t : Float) →
    Spans c v → d ≼ t → Finite t → Positive d → Finite c → Spans (div binary64 c d) (divided v t)
unfolding divided
spans_divided d t h k T D C =
    record {
      x_within = within_div_above binary64 d t h.x_within k T D C;
      y_within = within_div_above binary64 d t h.y_within k T D C;
    }

-- A dot product, within c * d twice (RULES 2.12).
pub within_dot_of : {c d : Float} {v w : Vector} → Spans c v → Spans d w →
    Finite c → Finite d → Finite (mul binary64 c d) → Within (add binary64 (mul binary64 c d) (mul binary64 c d)) (dot_of v w)
unfolding dot_of
within_dot_of h k C D M = within_dot h.x_within h.y_within k.x_within k.y_within C D M

-- A vector's dot product with itself is 0 or more.
pub dot_of_not_below : {c : Float} (v : Vector) → Spans c v → nought ≼ dot_of v v
unfolding dot_of
dot_of_not_below v h = dot_not_below v.x v.y (within_known h.x_within) (within_known h.y_within)

-- ---- Places and velocities of the table.

-- A place, within 10^4 (RULES 3.2).
pub place_spans : (p : Vector) → is_place p ≡ true → Spans ten_thousand p
unfolding is_place
place_spans p e =
    let held = both (is_coordinate p.x) (is_coordinate p.y) e in
    record { x_within = coordinate_at_most p.x held.0; y_within = coordinate_at_most p.y held.1 }

-- Both coordinates of a velocity are in the table (RULES 3.8, 3.12).
pub record Swift (v : Vector) : Type 0 where
  pub x_speed : is_speed v.x ≡ true
  pub y_speed : is_speed v.y ≡ true

-- Then it is within 2^47.
pub swift_spans : {v : Vector} → Swift v → Spans swiftest v
swift_spans {v} h = record { x_within = speed_within v.x h.x_speed; y_within = speed_within v.y h.y_speed }

-- From p to q in 1 ns or more: 2 * 10^4 m over 1e-9 s is below 10^14 m/s (RULES 2.4, 3.8).
pub velocity_swift : (p q : Vector) (dt : Float) →
    is_place p ≡ true → is_place q ≡ true → seconds_of (pos 1) ≼ dt → Finite dt → Swift (divided (vector_difference q p) dt)
unfolding seconds_of Ieee.of_int add div
velocity_swift p q dt hp hq least f =
    let way = spans_difference (place_spans q hq) (place_spans p hp) tt tt in
    let v = spans_le top_speed (spans_divided (seconds_of (pos 1)) dt way least f tt tt) (unfold le in tt) in
    record { x_speed = within_speed v.x_within; y_speed = within_speed v.y_within }
