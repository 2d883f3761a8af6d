-- `one_path_call::calls::arrival_path` meets its contract: the refusal of its input, 4 for a brief leg, or the path among its
-- obstacles.
-- Assumes nothing.
use mathlib.Core.Path.{◌≡◌, sym, ◌∙◌}
use mathlib.Core.Bool.{◌&&◌}
use Rattle.domain.specs.Domain.{is_time}
use Rattle.table.specs.Lent.{Lent, lent_of}
use Rattle.table.specs.Examined.{agent_examined}
use Rattle.table_packing.proofs.Packed.{packed_examined, packed_fine}
use Rattle.domain.specs.Beside.{is_budget, with_numbers, found_told}
use Rattle.one_path.specs.Asked.{path_outcome}
use Rattle.domain.proofs.Fine.{numbers_fine}
use Rattle.domain.proofs.Told.{fine_told, refused_told, numbers_mapped}
use Rattle.one_path_call.specs.Taken.{with_taken}
use Rattle.one_path_call.proofs.Asked.{taken_tells, taken_fine, asked_fine, asked_refused}
use Rattle.one_path_call.proofs.calls.arrival_path.Goals as goal
use Rattle.one_path_call.proofs.calls.arrival_path.Goals.{After-lent_hints-taken, After-with_taken-input, In-Ok}
use Rattle.std.specs.Prelude.{Ok}

-- The lists that are lent.
abbrev lent : (c : After-lent_hints-taken) → Lent
lent c =
    let a = c.args in
    lent_of a.starts.now a.numbers.now a.times.now a.xs.now a.ys.now

-- What is found of the whole input, told by its number.
input-found : (c : After-with_taken-input) →
    let a = c.args in
    found_told (with_taken c.lent_hints-taken.result
    (with_numbers (is_budget a.budget && is_time a.arrival) (agent_examined a.p a.agent (lent_of c.args.starts.now c.args.numbers.now c.args.times.now c.args.xs.now c.args.ys.now)))) ≡
    c.with_taken-input.result
input-found c =
    rw (
      ← c.is_asked-others.ensures,
      ← packed_examined (lent_of c.args.starts.now c.args.numbers.now c.args.times.now c.args.xs.now c.args.ys.now) _ _ _ _ _ c.pack-packed.ensures,
      ← c.examine.ensures,
      ← taken_tells c.lent_hints-taken.result (with_numbers c.is_asked-others.result c.examine.result),
      ← numbers_mapped c.is_asked-others.result c.examine.result c.map_err-found.result c.map_err-found.ensures.cases c.with_numbers_told.ensures,
    )
    (sym c.with_taken-input.ensures)

pub returns-then-is_brief : goal.returns-then-is_brief
unfolding path_outcome
returns-then-is_brief c =
    let a = c.args in
    rw (
      asked_fine a.p a.agent a.arrival a.budget a.hints.now (lent (goal.at.returns-then-is_brief c).After-lent_hints-taken) c.lent_hints-taken.ensures
          (fine_told _ (input-found (goal.at.returns-then-is_brief c).After-with_taken-input ∙ c.in-Ok.is)),
      sym c.is_brief.ensures ∙ c.if-is_brief.true,
    )
    (rw c.from.ensures at c.refuse-then-is_brief.ensures)

pub returns-in-Err : goal.returns-in-Err
unfolding path_outcome
returns-in-Err c =
    let a = c.args in
    let why = refused_told _ _ (input-found (goal.at.returns-in-Err c).After-with_taken-input ∙ c.in-Err.is) in
    rw
    (asked_refused a.p a.agent a.arrival a.budget a.hints.now (lent (goal.at.returns-in-Err c).After-lent_hints-taken) c.lent_hints-taken.ensures why.0
    why.1.0)
    (rw why.1.1 at c.refuse.ensures)

-- Where nothing is wrong, nothing is wrong with the table.
table-fine : (c : In-Ok) → c.examine.result ≡ (Ok tt)
table-fine c =
    let numbers = numbers_mapped _ _ _ c.map_err-found.ensures.cases c.with_numbers_told.ensures in
    let all = rw numbers at (sym c.with_taken-input.ensures ∙ c.in-Ok.is) in
    numbers_fine _ c.examine.result (taken_fine c.lent_hints-taken.result _ (fine_told _ (sym (taken_tells c.lent_hints-taken.result _) ∙ all)))

pub returns-else-is_brief : goal.returns-else-is_brief
returns-else-is_brief c =
    let a = c.args in
    let examined = sym c.examine.ensures ∙ table-fine (goal.at.returns-else-is_brief c).In-Ok in
    rw (
      asked_fine a.p a.agent a.arrival a.budget a.hints.now (lent (goal.at.returns-else-is_brief c).After-lent_hints-taken) c.lent_hints-taken.ensures
          (fine_told _ (input-found (goal.at.returns-else-is_brief c).After-with_taken-input ∙ c.in-Ok.is)),
      sym c.is_brief.ensures ∙ c.if-is_brief.false,
      ← packed_fine (lent (goal.at.returns-else-is_brief c).After-lent_hints-taken) _ _ _ _ _ c.pack-packed.ensures examined,
    )
    c.path_among.ensures
