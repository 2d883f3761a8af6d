-- `path_roots::roots::count_below` meets its contract: the places that pass its test are those of the hints that are below.
-- Assumes nothing.
use Prim.Native.Nat.{ℕ}
use mathlib.Core.Path.{sym, ◌∙◌}
use mathlib.Core.Bool.{Bool}
use native.Mathlib.Omega.{arith}
use lib.ListN.{get_or}
use Rattle.std.proofs.Common.{rules, tests}
use Rattle.std.specs.List.{range_with_len}
use Rattle.std.proofs.lemmas.Iterator.{YieldsList-from_range}
use Rattle.std.proofs.lemmas.Iterator.Consumers.{count_from_yields_List}
use Rattle.std.proofs.lemmas.Iterator.Search.{YieldsList-from_take_while}
use Rattle.std.proofs.lemmas.List.Folds.{length-prefix_len}
use Rattle.hint_list.specs.Words.{hints_in, blank_ranked}
use Rattle.hint_list.proofs.Reading.{counted}
use Rattle.path_roots.proofs.Counts.{is_below, below_front, passed_from}
use Rattle.path_roots.proofs.roots.count_below.Goals as goal

pub returns : goal.returns
returns c =
    let a = c.args in
    let l = hints_in a.hints.now in
    let test : ℕ → Bool = λ k. is_below a.contour (get_or l k blank_ranked) in
    let n = c.count_of.result in
    count_from_yields_List c.take_while.result _ c.count.ensures.ran
    (YieldsList-from_take_while _ test (YieldsList-from_range 0 n n c.take_while.ensures.source (omega arith)) c.take_while.ensures.closure c.take_while.ensures.done
    (λ x b q k. search (rules, tests))) ∙ length-prefix_len test (range_with_len 0 n) ∙
    passed_from (is_below a.contour) l n 0 (omega (arith, counted a.hints.now)) ∙ sym (below_front a.contour l)
