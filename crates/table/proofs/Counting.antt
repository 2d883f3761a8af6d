-- The obstacles and their legs, as they are counted one obstacle at a time.
-- Assumes nothing.
use Prim.Native.Nat.{ℕ, ◌+◌, ◌-◌, ◌≤◌, ◌<◌}
use mathlib.Core.Path.{◌≡◌, ◌∙◌}
use native.Mathlib.Nat.{sub-zero}
use lib.ListN.{length}
use Rattle.lent.specs.Listed.{listed_to}
use Rattle.lent.proofs.Listed.{listed_done, listed_next, length_listed}
use Rattle.table.specs.Obstacle.{Obstacle, legs_of}
use Rattle.table.specs.Lent.{Lent, obstacle_listed, obstacles_of}
use Rattle.table.specs.Examined.{legs_in_all}

-- As many obstacles as starts.
pub obstacles_count : (lent : Lent) → length (obstacles_of lent) ≡ length lent.starts
unfolding obstacles_of
obstacles_count lent =
    let n = length lent.starts in length_listed (obstacle_listed lent) (n - 0) 0 ∙ sub-zero n

pub legs_done_all : (f : ℕ → Obstacle) (end o : ℕ) → end ≤ o → legs_in_all (listed_to f end o) ≡ 0
unfolding legs_in_all
legs_done_all f end o h = rw (listed_done f end o h)

pub legs_next_all : (f : ℕ → Obstacle) (end o : ℕ) → o < end →
    legs_in_all (listed_to f end o) ≡ length (legs_of (f o).waypoints) + legs_in_all (listed_to f end (o + 1))
unfolding legs_in_all
legs_next_all f end o h = rw (listed_next f end o h)
