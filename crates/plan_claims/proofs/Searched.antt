-- The search for a chain among a trip's hints, by the tests that it really asks (RULES 13.10 to 13.22).
-- Assumes nothing.
use Prim.Native.Nat.{ℕ, ◌≤◌, ◌<◌}
use mathlib.Core.Path.{◌≡◌}
use mathlib.Core.Bool.{false}
use mathlib.Core.List.{List}
use Rattle.std.specs.Prelude.{Option}
use lib.ListN.{length}
use Rattle.table.specs.Obstacle.{Obstacle}
use Rattle.hint_list.specs.declared.hint.RankedHint.{RankedHint}
use Rattle.path_search.specs.Answer.{Refused, Way, pops_of, is_spent}
use Rattle.path_search.specs.Safe.{SafeWay}
use Rattle.path_search.specs.Stack.{Done, stack_search}
use Rattle.path_search.specs.declared.trial.Trial.{Trial}
use Rattle.path_search.proofs.Agree.{stack_is_recursion}
use Rattle.path_search.proofs.Budget.{budget_cut, budget_kept}
use Rattle.path_search.proofs.Pops.{pops_within}
use Rattle.path_search.proofs.Sound.{path_sound}
use Rattle.path_tests.specs.declared.trip.Trip.{Trip}
use Rattle.path_chains.specs.Trying.{to_parent, starts_at, reaches, chain_from}
use Rattle.std.specs.Prelude.{Result}
use Rattle.refusals.specs.declared.Refusal.{Refusal}
use Rattle.refusals.specs.declared.Refusal.TheVariants as Refusals

module _ (trip : Trip) (os : List Obstacle) (hints : List RankedHint) where
  abbrev parents : ℕ → Option ℕ → Result Trial Refusal
  parents = to_parent trip os hints

  abbrev starts : ℕ → Result Trial Refusal
  starts = starts_at trip os hints

  module _ (budget : ℕ) (first : Option ℕ) where
    -- It is the Rust's loop over a stack (RULES 13.10 to 13.22).
    pub by_stack : stack_search (to_parent trip os hints) (starts_at trip os hints) (reaches hints) (length hints) budget first ≡
        Done (chain_from trip os hints budget first)
    unfolding chain_from
    by_stack = stack_is_recursion parents starts (reaches hints) (length hints) budget first

    -- It makes at most as many pops as the budget has (RULES 13.20, 13.21).
    pub few_pops : pops_of (chain_from trip os hints budget first) ≤ budget
    unfolding chain_from
    few_pops = pops_within budget parents starts (reaches hints) (length hints) first

    -- A chain that it finds leads from the start to the goal, and each part of it passed its test (RULES 13.10, 13.16).
    pub safe_way : {links : List ℕ} {pops : ℕ} → chain_from trip os hints budget first ≡ Way links pops →
        SafeWay (to_parent trip os hints) (starts_at trip os hints) (reaches hints) (length hints) links
    unfolding chain_from
    safe_way {links} {pops} = path_sound parents starts (reaches hints) budget (length hints) first links pops

  module _ (small large : ℕ) (le : small ≤ large) (first : Option ℕ) where
    -- A larger budget changes no answer but a refusal 11,
    pub same_answer : is_spent (chain_from trip os hints small first) ≡ false →
        chain_from trip os hints large first ≡ chain_from trip os hints small first
    unfolding chain_from
    same_answer = budget_kept small large le parents starts (reaches hints) (length hints) first

    -- and a smaller one is refused 11 where that answer took more pops than it has (RULES 13.21).
    pub spent : small < pops_of (chain_from trip os hints large first) →
        chain_from trip os hints small first ≡ Refused Refusals.Spent small
    unfolding chain_from
    spent = (budget_cut small large le parents starts (reaches hints) (length hints) first).short
