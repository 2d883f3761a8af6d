-- `table_packing::packing::put_obstacles` meets its contract: at each turn, the table with the rest of the obstacles put is still the one with
-- them all.
-- Assumes nothing.
use mathlib.Core.Path.{◌≡◌}
use mathlib.Core.List.{List}
use Prim.Native.Nat.{ℕ, ◌+◌}
use lib.ListN.{length}
use lib.Ieee.{Float}
use Rattle.table.specs.Lent.{start_in, profile_listed, limit_listed}
use Rattle.table_packing.specs.Filling.{with_ends, with_profile, put_to}
use Rattle.table_packing.specs.Packing.{ends_put, profiles_put}
use Rattle.table_packing.proofs.packing.put_obstacles.Given as goal

-- What is put for each.
abbrev pub ends_at : List ℕ → ℕ → ℕ → List ℕ → List ℕ
ends_at starts count o l = with_ends l o (start_in starts count o) (start_in starts count (o + 1))

abbrev pub profile_at : List Float → ℕ → List Float → List Float
profile_at numbers o l = with_profile l o (profile_listed numbers o) (limit_listed numbers o)

abbrev pub invariant-loop-o : goal.invariant-loop-o
invariant-loop-o l =
    (put_to (ends_at l.starts l.count) (length l.starts) l.o l.marks ≡ ends_put l.starts l.count l.initial.marks) ×
    (put_to (profile_at l.numbers) (length l.starts) l.o l.places ≡ profiles_put l.starts l.numbers l.initial.places)
