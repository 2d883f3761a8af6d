-- `arrival_times::listing::search_times` meets its contract: at each turn the search from this candidate on gives the answer.
-- Assumes nothing.
use Prim.Native.Nat.{◌+◌, ◌-◌}
use Rattle.table.specs.Table.{obstacles_in}
use Rattle.arrival_search.specs.Search.{legs_in, watched_obstacles}
use Rattle.arrival_legs.specs.Watched.{watched_all}
use Rattle.arrival_times.proofs.Keeping.{Kept}
use Rattle.arrival_times.proofs.listing.search_times.Given as goal

abbrev pub invariant-loop-turn : goal.invariant-loop-turn
invariant-loop-turn l =
    Kept l.p l.place (obstacles_in l.marks l.places) l.initial.list l.candidate l.listed l.sweeps l.list

-- The sweeps that are left: one for each leg and obstacle and one more, less those made. The loop ends because of the theorem
-- that one is always left (RULES D3a), and there is no fuel that could run out.
abbrev pub decreases-loop-turn : goal.decreases-loop-turn
decreases-loop-turn l = let os = watched_all l.p (obstacles_in l.marks l.places) in legs_in os + watched_obstacles os + 1 - l.sweeps
