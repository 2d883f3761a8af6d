-- `path_roots::roots::count_level` meets its contract: the places that pass its test are those of the hints that are not above.
-- Assumes nothing.
use Prim.Native.Nat.{ℕ, ◌-◌}
use mathlib.Core.Path.{refl, sym, ◌∙◌}
use mathlib.Core.Bool.{Bool}
use native.Mathlib.Omega.{arith}
use lib.ListN.{get_or}
use Rattle.std.proofs.Common.{rules, tests}
use Rattle.std.specs.List.{range_with_len}
use Rattle.std.proofs.lemmas.Iterator.{YieldsList-from_range}
use Rattle.std.proofs.lemmas.Iterator.Consumers.{count_from_yields_List}
use Rattle.std.proofs.lemmas.Iterator.Search.{YieldsList-from_take_while}
use Rattle.std.proofs.lemmas.List.Folds.{length-prefix_len}
use Rattle.hint_list.specs.Words.{hints_in, blank_ranked}
use Rattle.hint_list.proofs.Reading.{counted}
use Rattle.path_roots.proofs.Counts.{not_above, level_front, passed_from}
use Rattle.path_roots.proofs.roots.count_level.Goals as goal

pub returns : goal.returns
returns c =
    let a = c.args in
    let l = hints_in a.hints.now in
    let test : ℕ → Bool = λ k. not_above a.contour (get_or l k blank_ranked) in
    let left : ℕ = c.count_of.result - a.from in
    count_from_yields_List c.take_while.result _ c.count.ensures.ran
    (YieldsList-from_take_while _ test (YieldsList-from_range a.from c.count_of.result left c.take_while.ensures.source refl) c.take_while.ensures.closure c.take_while.ensures.done
    (λ x b q k. search (rules, tests))) ∙ length-prefix_len test (range_with_len a.from left) ∙
    passed_from (not_above a.contour) l left a.from (omega (arith, counted a.hints.now)) ∙ sym (level_front a.contour _)
