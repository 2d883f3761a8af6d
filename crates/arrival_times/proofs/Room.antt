-- A packed table has room for few legs and obstacles, so that a search over it makes few sweeps.
-- Assumes nothing.
use Prim.Native.Nat.{ℕ, zero, suc, ◌+◌, ◌-◌, ◌*◌, ◌≤◌}
use mathlib.Core.Path.{◌≡◌, sym, ap, ◌∙◌}
use mathlib.Core.List.{List}
use native.Mathlib.Omega.{arith}
use lib.Ieee.{Float}
use lib.ListN.{length}
use Rattle.lent.specs.Listed.{listed}
use Rattle.lent.proofs.Listed.{length_listed}
use Rattle.shapes.specs.declared.profile.CircularProfile.{CircularProfile}
use Rattle.table.specs.Obstacle.{legs_of}
use Rattle.table.specs.Examined.{legs_in_all}
use Rattle.table.specs.Table.{obstacle_count, first_in, leg_in, waypoints_in, obstacle_in, obstacles_in}
use Rattle.table.specs.Walked.{last_in}
use Rattle.table.proofs.Walking.{few_in_table, last_in_room, obstacles_counted, legs_in_law}
use Rattle.arrival_search.specs.Search.{legs_in, watched_obstacles}
use Rattle.arrival_legs.specs.Watched.{watched_all}
use Rattle.arrival_times.proofs.Few.{legs_watched, moving_few, watched_count}

module _ (marks : List ℕ) (places : List Float) where
  -- An obstacle has at most 287 legs,
  few_of_one : (o : ℕ) → length (legs_of (waypoints_in marks places o)) ≤ 287
  few_of_one o =
      let counted : length (legs_of (waypoints_in marks places o)) ≡ last_in marks o - first_in marks o =
      ap length (sym (legs_in_law marks places o)) ∙ length_listed (leg_in marks places) (last_in marks o - first_in marks o) (first_in marks o) in
      omega (arith, last_in_room marks o)

  few_of_some : (n i : ℕ) → legs_in_all (listed (obstacle_in marks places) n i) ≤ n * 287
  unfolding legs_in_all listed
  few_of_some zero i = omega arith
  few_of_some (suc n) i = let rest = few_of_some n (suc i) in omega (arith, few_of_one i)

  -- and there are at most 32 of them.
  few_of_all : legs_in_all (obstacles_in marks places) ≤ 9_184
  unfolding obstacles_in
  few_of_all = let some = few_of_some (obstacle_count marks - 0) 0 in omega (arith, few_in_table marks)

-- So legs and obstacles are at most 9,216 in all (RULES 12.19).
pub table_few : (p : CircularProfile) (marks : List ℕ) (places : List Float) →
    let os = watched_all p (obstacles_in marks places) in
    legs_in os + watched_obstacles os ≤ 9_216
table_few p marks places =
    let os = obstacles_in marks places in
    let legs = legs_watched p os in
    let all = watched_count p os in
    let obstacles = moving_few (watched_all p os) in
    omega (arith, few_of_all marks places, obstacles_counted marks places, few_in_table marks)
