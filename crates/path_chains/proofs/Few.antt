-- A chain among at most 64 hints has at most 64 links (RULES 13.23).
-- Assumes nothing.
use Prim.Native.Nat.{ℕ, ◌≤◌}
use mathlib.Core.List.{List}
use Rattle.std.specs.Prelude.{Option}
use native.Mathlib.Omega.{arith}
use lib.ListN.{length}
use Rattle.table.specs.Obstacle.{Obstacle}
use Rattle.hint_list.specs.declared.hint.RankedHint.{RankedHint}
use Rattle.path_search.proofs.Links.{way_links, way_links_law}
use Rattle.path_tests.specs.declared.trip.Trip.{Trip}
use Rattle.path_chains.specs.Trying.{to_parent, starts_at, reaches, chain_from}

pub chain_few : (trip : Trip) (os : List Obstacle) (hints : List RankedHint) (budget : ℕ) (first : Option ℕ) →
    length hints ≤ 64 → way_links (chain_from trip os hints budget first) ≤ 64
unfolding chain_from
chain_few trip os hints budget first few =
    let links = way_links_law (to_parent trip os hints) (starts_at trip os hints) (reaches hints) budget (length hints) first in
    omega arith
