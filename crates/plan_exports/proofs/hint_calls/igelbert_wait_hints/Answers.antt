-- `plan_exports::hint_calls::igelbert_wait_hints` meets its contract: it hands over what `wait_hints` finds.
-- Assumes nothing.
use Prim.Native.Nat.{◌+◌, ◌*◌, ◌≤◌}
use mathlib.Core.Path.{◌≡◌, sym}
use native.Mathlib.Omega.{arith}
use lib.ListN.{length}
use lib.Seq.{length-take-le}
use Rattle.lent.specs.Outcome.{Handed}
use Rattle.hint_list.proofs.Reading.{few}
use Rattle.hint_ranking.specs.Hints.{Ranked, Ranks}
use Rattle.hint_words.specs.Lent.{hints_outcome}
use Rattle.shapes.specs.Plain.{plain_leg}
use Rattle.shapes.proofs.ReadLegs.{leg_read}
use Rattle.plan_exports.proofs.Given.{ranks_long, ranks_given}
use Rattle.plan_exports.proofs.hint_calls.igelbert_wait_hints.Goals as goal
use Rattle.plan_exports.proofs.hint_calls.igelbert_wait_hints.Goals.{After-count_of, After-give_hints, After-leg_of-agent}

agent : (c : After-leg_of-agent) →
    let a = c.args in
    c.leg_of-agent.result ≡ plain_leg a.t0 a.x0 a.y0 a.t1 a.x1 a.y1
agent c =
    leg_read c.args.t0 c.args.t1 _ _ _ _ c.ranges.t0 c.ranges.t1 c.leg_of-agent.ensures

-- There are 64 hints at most.
at-most-64 : (c : After-count_of) → c.count_of.result ≤ 64
at-most-64 c =
    let left = c.wait_hints-filled.new.hints in omega (arith, c.count_of.ensures, few left)

-- Their words are all there.
inside : (c : After-count_of) →
    1 + 6 * c.count_of.result ≤ length c.wait_hints-filled.new.hints
inside c = omega (arith, at-most-64 c, ranks_long _ c.wait_hints-filled.ensures)

pub overflow_mul-end : goal.overflow_mul-end
overflow_mul-end c = omega (arith, at-most-64 (goal.at.overflow_mul-end c).After-count_of)

pub overflow_add-end : goal.overflow_add-end
overflow_add-end c = omega (arith, at-most-64 (goal.at.overflow_add-end c).After-count_of)

pub slice_bounds-hints-end : goal.slice_bounds-hints-end
slice_bounds-hints-end c = omega (arith, inside (goal.at.slice_bounds-hints-end c).After-count_of)

pub slice_bounds-give_hints-end : goal.slice_bounds-give_hints-end
slice_bounds-give_hints-end c = sym (length-take-le _ _ (omega (arith, inside (goal.at.slice_bounds-give_hints-end c).After-count_of)))

-- Whatever the answer is that the hints are of, it is handed over.
given : (c : After-give_hints) (answer : Ranked) →
    let found = c.wait_hints-filled in
    let a = c.args in
    Ranks answer found.new.hints found.result →
    Handed (hints_outcome answer) a.out.now c.give_hints.new.out c.give_hints.result
given c answer ranks =
    rw (c.count_of.ensures, ranks_given answer ranks) at c.give_hints.ensures

pub returns : goal.returns
returns c =
    rw (agent (goal.at.returns c).After-leg_of-agent) at (given (goal.at.returns c).After-give_hints _ c.wait_hints-filled.ensures)
