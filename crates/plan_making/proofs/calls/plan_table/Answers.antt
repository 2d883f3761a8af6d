-- `plan_making::calls::plan_table` meets its contract: the refusal of its input, one Move where the plan is brief, or the plan among
-- its obstacles.
-- Assumes nothing.
use mathlib.Core.Path.{◌≡◌, sym, ◌∙◌}
use Rattle.table.specs.Examined.{table_examined}
use Rattle.table.specs.Table.{obstacles_in}
use Rattle.domain.specs.Beside.{is_budget, with_numbers}
use Rattle.domain.proofs.Told.{fine_told, refused_told, numbers_mapped}
use Rattle.plan_model.specs.Plan.{plan_of}
use Rattle.plan_model.specs.Asked.{table_plan}
use Rattle.plan_model.proofs.Handing.{refused_both}
use Rattle.plan_making.proofs.Few.{fine_few}
use Rattle.plan_making.proofs.calls.plan_table.Goals as goal
use Rattle.plan_making.proofs.calls.plan_table.Goals.{In-Ok}
use Rattle.std.specs.Prelude.{Result, Ok, Err}
use Rattle.refusals.specs.declared.Refusal.{Refusal}

asked : (c : In-Ok) →
    let a = c.args in
    let os = obstacles_in a.marks.now a.places.now in
    with_numbers (is_budget a.budget) (table_examined a.packed a.p a.agent os) ≡ Ok tt
asked c =
    rw (c.is_budget.ensures, c.examine.ensures)
    at (fine_told _ (sym (numbers_mapped _ _ _ c.map_err-found.ensures.cases c.with_numbers_told-input.ensures) ∙ c.in-Ok.is))

pub returns-then-is_brief : goal.returns-then-is_brief
unfolding table_plan plan_of
returns-then-is_brief c =
    rw (asked (goal.at.returns-then-is_brief c).In-Ok, sym c.is_brief.ensures ∙ c.if-is_brief.true)
    c.move_at_once.ensures

pub plan_among-requires : goal.plan_among-requires
plan_among-requires c =
    let a = c.args in
    let os = obstacles_in a.marks.now a.places.now in
    fine_few (is_budget a.budget) a.packed a.p a.agent os (asked (goal.at.plan_among-requires c).In-Ok)

pub returns-in-Err : goal.returns-in-Err
unfolding table_plan
returns-in-Err c =
    let told = numbers_mapped _ _ _ c.map_err-found.ensures.cases c.with_numbers_told-input.ensures in
    let why = refused_told _ _ (sym told ∙ c.in-Err.is) in
    rw (
      ← c.is_budget.ensures,
      ← c.examine.ensures,
      why.1.0,
    )
    (refused_both why.0 why.1.1 c.refuse.ensures)

pub returns-else-is_brief : goal.returns-else-is_brief
unfolding table_plan plan_of
returns-else-is_brief c =
    rw (asked (goal.at.returns-else-is_brief c).In-Ok, sym c.is_brief.ensures ∙ c.if-is_brief.false)
    c.plan_among.ensures
