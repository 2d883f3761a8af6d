-- `one_path_call::calls::give_path` meets its contract: a row for the path or for none, those of its actions, or the refusal.
-- Assumes nothing.
use Prim.Native.Nat.{ℕ, ◌≤◌}
use mathlib.Core.Path.{◌≡◌, sym, ◌∙◌}
use mathlib.Core.List.{List}
use native.Mathlib.Omega.{arith}
use lib.ListN.{length}
use Rattle.number_words.specs.Word.{word_of}
use Rattle.times.specs.declared.time.Duration.{Duration}
use Rattle.number_words.proofs.ReadBack.{read_back}
use Rattle.hint_list.specs.Words.{hints_in}
use Rattle.hint_list.specs.declared.hint.RankedHint.{RankedHint}
use Rattle.hint_list.proofs.Reading.{few, counted}
use Rattle.table.specs.Table.{obstacles_in}
use Rattle.one_path.specs.Path.{Sought, path_for}
use Rattle.one_path.specs.declared.arrival_path.Found.TheVariants as F
use Rattle.one_path.proofs.Known.{actions_in, path_is, path_counts_law}
use Rattle.one_path.proofs.Short.{path_short}
use Rattle.one_path_call.proofs.Given.{given_refused, given_missing, given_path}
use Rattle.one_path_call.proofs.calls.give_path.Goals as goal
use Rattle.one_path_call.proofs.calls.give_path.Goals.{After-compute_safe_arrival_path-found}
use Rattle.std.specs.Prelude.{Ok}
use Rattle.std.proofs.Common.{rules}

-- A path has few actions.
few-actions : (c : After-compute_safe_arrival_path-found) (many pops : ℕ) (hold : Duration) →
    c.compute_safe_arrival_path-found.result ≡ Ok (F.Path many pops hold) → many ≤ 129
few-actions c many pops hold e =
    let a = c.args in
    let os = obstacles_in a.marks.now a.places.now in
    let hints : List RankedHint = hints_in a.hints.now in
    let path : Sought = path_for a.trip os hints a.budget a.arrival in
    let room : length hints ≤ 64 = omega (arith, few a.hints.now, counted a.hints.now) in
    let found = sym c.compute_safe_arrival_path-found.ensures.found ∙ e in
    let is = path_is path many pops hold found in
    omega (
      arith,
      path_counts_law path many pops hold found,
      path_short a.trip os hints room a.budget a.arrival (actions_in path) pops hold is,
    )

pub overflow_add-many : goal.overflow_add-many
overflow_add-many c =
    let found : c.compute_safe_arrival_path-found.result ≡ Ok (F.Path c.in-Ok-Path.many c.in-Ok-Path.pops c.in-Ok-Path.hold) = search rules in
    omega (arith, few-actions (goal.at.overflow_add-many c).After-compute_safe_arrival_path-found _ _ _ found)

pub returns-in-Err : goal.returns-in-Err
returns-in-Err c =
    rw c.from.ensures (given_refused c.compute_safe_arrival_path-found.ensures _ c.in-Err.is)

pub returns-in-Ok-Missing : goal.returns-in-Ok-Missing
returns-in-Ok-Missing c =
    let found : c.compute_safe_arrival_path-found.result ≡ Ok (F.Missing c.in-Ok-Missing.pops) = search rules in
    given_missing c.compute_safe_arrival_path-found.ensures _ found
    c.put_row.ensures c.settle.ensures

pub returns-in-Ok-Path : goal.returns-in-Ok-Path
returns-in-Ok-Path c =
    let path = c.in-Ok-Path in
    let found : c.compute_safe_arrival_path-found.result ≡ Ok (F.Path path.many path.pops path.hold) = search rules in
    let held : c.of_signed-held.result ≡ word_of path.hold.0 = search (rules, read_back) in
    given_path c.compute_safe_arrival_path-found.ensures _ _ path.hold found (c.put_row-in-Ok-Path.ensures ∙ rw held) c.settle-in-Ok-Path.ensures
