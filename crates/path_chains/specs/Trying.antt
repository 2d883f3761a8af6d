-- The tests that the search asks of a trip's hints, and the search by them (RULES 13.10, 13.13, 13.16).
-- Assumes nothing.
use Rattle.std.specs.Prelude.{ℕ, Bool, List, length, get_or}
use Rattle.std.specs.Prelude.{Option, Some, None}
use Rattle.std.specs.Float.Ieee
use Rattle.shapes.specs.declared.waypoint.Waypoint.{Waypoint}
use Rattle.table.specs.Obstacle.{Obstacle}
use Rattle.hint_list.specs.Words.{blank_ranked}
use Rattle.hint_list.specs.declared.hint.RankedHint.{RankedHint}
use Rattle.path_search.specs.Answer.{Chained}
use Rattle.path_search.specs.Recursive.{Tried, started_by, try_hint, try_child, try_children, try_roots, recursive_search}
use Rattle.path_search.specs.declared.trial.Trial.{Trial}
use Rattle.path_tests.specs.Travel.{hint_waypoint}
use Rattle.path_tests.specs.Tests.{to_end, to_goal, from_start}
use Rattle.path_tests.specs.declared.trip.Trip.{Trip}
use Rattle.std.specs.Prelude.{Result}
use Rattle.refusals.specs.declared.Refusal.{Refusal}

-- The waypoint of hint i.
unfoldable pub stop_in : List RankedHint → ℕ → Waypoint
stop_in hints i = hint_waypoint (get_or hints i blank_ranked).hint

-- A root's way leads to the goal, a child's to the waypoint of its parent (RULES 13.10).
unfoldable pub to_parent : Trip → List Obstacle → List RankedHint → ℕ → Option ℕ → Result Trial Refusal
to_parent trip os hints i None = to_goal trip os (stop_in hints i)
to_parent trip os hints i (Some j) = to_end trip os (stop_in hints i) (stop_in hints j)

-- A hint's own start (RULES 13.16).
unfoldable pub starts_at : Trip → List Obstacle → List RankedHint → ℕ → Result Trial Refusal
starts_at trip os hints i = from_start trip os (stop_in hints i)

-- A child's reach is at most its parent's (RULES 13.13).
unfoldable pub reaches : List RankedHint → ℕ → ℕ → Bool
reaches hints child i = Ieee.le (get_or hints child blank_ranked).reach (get_or hints i blank_ranked).reach

-- ---- The search by these tests, a part at a time (RULES 13.10 to 13.19).

-- A hint's own start.
abbrev pub start_tried : Trip → List Obstacle → List RankedHint → ℕ → ℕ → Tried
start_tried trip os hints i pops = started_by (starts_at trip os hints i) i pops

-- A hint under its parent.
abbrev pub hint_tried : Trip → List Obstacle → List RankedHint → ℕ → ℕ → Option ℕ → ℕ → Tried
hint_tried trip os hints budget i parent pops =
    try_hint (to_parent trip os hints) (starts_at trip os hints) (reaches hints) budget i parent pops

-- A child of hint i.
abbrev pub child_tried : Trip → List Obstacle → List RankedHint → ℕ → ℕ → ℕ → ℕ → Tried
child_tried trip os hints budget child i pops =
    try_child (to_parent trip os hints) (starts_at trip os hints) (reaches hints) budget child i pops

-- The children of hint i below k, then its own start.
abbrev pub children_tried : Trip → List Obstacle → List RankedHint → ℕ → ℕ → ℕ → ℕ → Tried
children_tried trip os hints budget i k pops =
    try_children (to_parent trip os hints) (starts_at trip os hints) (reaches hints) budget i k pops

-- The n roots from r on.
abbrev pub roots_tried : Trip → List Obstacle → List RankedHint → ℕ → ℕ → ℕ → ℕ → Chained
roots_tried trip os hints budget n r pops =
    try_roots (to_parent trip os hints) (starts_at trip os hints) (reaches hints) budget n r pops

-- The search from a first root; that it is the Rust's loop over a stack is `stack_is_recursion` of `chains`.
unfoldable pub chain_from : Trip → List Obstacle → List RankedHint → ℕ → Option ℕ → Chained
chain_from trip os hints budget first =
    recursive_search (to_parent trip os hints) (starts_at trip os hints) (reaches hints) (length hints) budget first
