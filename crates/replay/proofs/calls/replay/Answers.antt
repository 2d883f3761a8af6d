-- At each turn, the verdict from this line on is that of the whole list, and the chunks left are those behind the lines so far.
-- Assumes nothing.
use Rattle.std.proofs.Common.{◌*◌, length, sym, ◌∙◌, None, arith, rules, ap, length-drop}
use Rattle.replay.proofs.Lines.{no_line, left_after, judged}
use Rattle.replay.proofs.calls.replay.Goals as goal

pub returns-in_default : goal.returns-in_default
returns-in_default c =
    let l = c.loop-line in
    let cut = c.in-Some.ensures.steps.1 in
    let size = rw l.invariant.size at cut.1 in
    sym (judged _ _ _ _ l.lines l.invariant.rest cut.0 size None cut.2 (sym c.answer_of.ensures ∙ c.in_default.is)) ∙ l.invariant.same

pub returns-then-not-is_as_listed : goal.returns-then-not-is_as_listed
returns-then-not-is_as_listed c =
    let l = c.loop-line in
    let cut = c.in-Some.ensures.steps.1 in
    let size = rw l.invariant.size at cut.1 in
    let is = sym c.answer_of.ensures ∙ c.in-Some-answer_of.is in
    let differs = sym c.is_as_listed.ensures ∙ c.if-not-is_as_listed.true in
    sym (rw differs at (judged _ _ _ _ l.lines l.invariant.rest cut.0 size _ cut.2 is)) ∙ l.invariant.same

pub loop-line-preserved : goal.loop-line-preserved
loop-line-preserved c =
    let l = c.loop-line in
    let steps = c.in-Some.ensures.steps in
    let cut = steps.1 in
    let size = rw l.invariant.size at cut.1 in
    let is = sym c.answer_of.ensures ∙ c.in-Some-answer_of.is in
    let same = sym c.is_as_listed.ensures ∙ c.if-not-is_as_listed.false in
    let next = judged _ _ _ _ l.lines l.invariant.rest cut.0 size _ cut.2 is in
    record {
      next = search rules;
      finite = tt;
      size = steps.0 ∙ l.invariant.size;
      rest = left_after _ _ _ _ l.lines l.invariant.rest cut.0 size;
      few = omega (arith, cut.2, ap length l.invariant.rest, length-drop (l.lines * 85) c.args.s.now);
      same = sym (rw same at next) ∙ l.invariant.same;
    }

pub returns : goal.returns
returns c =
    let l = c.loop-line in
    let none = ap length l.invariant.rest ∙ length-drop (l.lines * 85) c.args.s.now in
    sym (no_line _ l.lines (omega (arith, c.in-None.ensures.steps.1.0, none))) ∙ l.invariant.same
