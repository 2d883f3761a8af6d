-- Crossing's stream, written and read by working it out (RULES 14.1 to 14.17, 16.11).
-- Assumes nothing.
use mathlib.Core.Path.{refl}
use Rattle.lent.specs.Listed.{listed, every}
use Rattle.request_format.specs.Bits.{bit_at, number_at}
use Rattle.request_format.specs.Format.{
  point_at,
  points_at,
  obstacle_at,
  obstacles_at,
  request_at,
  bits_in_all,
  request_bits,
  legs_counted,
  are_counted,
  is_filled,
  is_request,
  read_of,
}
use Rattle.request_format.specs.Written.{
  bits_of,
  bits_for,
  point_bits,
  obstacle_fields,
  request_fields,
  number_in,
  packed,
  written,
}
use Rattle.request_format.specs.Crossing.{crossing_request, crossing_stream, Crosses}

pub crosses : Crosses
unfolding crossing_request crossing_stream written packed request_fields obstacle_fields point_bits bits_for bits_of number_in listed
    read_of is_request request_at obstacles_at obstacle_at points_at point_at number_at bit_at are_counted legs_counted
    is_filled request_bits bits_in_all every
crosses = record { writing = refl; reading = refl }
