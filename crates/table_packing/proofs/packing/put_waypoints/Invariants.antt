-- `table_packing::packing::put_waypoints` meets its contract: at each turn, the table with the rest of the waypoints put is still the one with
-- them all, and the times so far are numbers of 64 bits.
-- Assumes nothing.
use mathlib.Core.Path.{◌≡◌}
use mathlib.Core.List.{List}
use Prim.Native.Nat.{ℕ, ◌<◌}
use lib.IntN.{ℤ, pos}
use lib.ListN.{length, get_or}
use lib.Ieee.{Float}
use Rattle.number_words.specs.Word.{word_of, signed_of}
use Rattle.table.specs.Lent.{waypoint_listed}
use Rattle.table_packing.specs.Filling.{with_time, with_place, put_to}
use Rattle.table_packing.specs.Packing.{times_put, places_put}
use Rattle.table_packing.proofs.packing.put_waypoints.Given as goal

-- What is put for each.
abbrev pub time_at : List ℤ → List Float → List Float → ℕ → List ℕ → List ℕ
time_at times xs ys i l = with_time l i (waypoint_listed times xs ys i)

abbrev pub place_at : List ℤ → List Float → List Float → ℕ → List Float → List Float
place_at times xs ys i l = with_place l i (waypoint_listed times xs ys i)

-- A time is a number of 64 bits. The zero past the last time is one, too.
abbrev pub IsWhole : List ℤ → ℕ → Type 0
IsWhole times j = signed_of (word_of (get_or times j (pos 0))) ≡ get_or times j (pos 0)

abbrev pub invariant-loop-i : goal.invariant-loop-i
invariant-loop-i l =
    (put_to (time_at l.times l.xs l.ys) (length l.times) l.i l.marks ≡ times_put l.times l.xs l.ys l.initial.marks) ×
    (put_to (place_at l.times l.xs l.ys) (length l.times) l.i l.places ≡ places_put l.times l.xs l.ys l.initial.places) ×
    ((j : ℕ) → j < l.i → IsWhole l.times j)
