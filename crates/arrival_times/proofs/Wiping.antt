-- A list of instants that is wiped from an index on, one of them at a time.
-- Assumes nothing.
use mathlib.Core.Path.{◌≡◌, ap}
use mathlib.Core.List.{List, ◌++◌, append_assoc, append-nil}
use Prim.Native.Nat.{ℕ, suc, ◌+◌, ◌-◌, ◌<◌, ◌≤◌}
use native.Mathlib.Numerals.{add-one}
use native.Mathlib.Omega.{arith}
use lib.IntN.{ℤ, pos}
use lib.ListN.{length, take, set, replicate, length-set}
use lib.Seq.{take-suc-set, take_all}
use Rattle.arrival_times.specs.Listing.{wiped_times}

-- Once the instant at i is 0, wiping from the next one on comes to the same.
pub wiped_step : (list : List ℤ) (i : ℕ) → i < length list → wiped_times (set list i (pos 0)) (i + 1) ≡ wiped_times list i
unfolding wiped_times
wiped_step list i h =
    let rest : suc (length (set list i (pos 0)) - suc i) ≡ length list - i = omega (arith, length-set list i (pos 0)) in
    rw (add-one, take-suc-set list i (pos 0) h, append_assoc) (ap (λ (n : ℕ). take i list ++ replicate n (pos 0)) rest)

-- Past the end there is nothing to wipe.
pub wiped_past : (list : List ℤ) (i : ℕ) → length list ≤ i → wiped_times list i ≡ list
unfolding wiped_times
wiped_past list i h = let none : length list - i ≡ 0 = omega arith in rw (none, append-nil, take_all i list h)
