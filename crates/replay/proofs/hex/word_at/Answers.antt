-- At each turn, reading on from the digits so far is reading the word.
-- Assumes nothing.
use Rattle.std.proofs.Common.{◌≡◌, ◌+◌, ◌-◌, length, sym, ◌∙◌, arith, rules, le-ltb, add-zero, ◌≤◌}
use Rattle.replay.specs.Hex.{word_at, read_on}
use Rattle.replay.proofs.Reading.{digit_small, stops, goes_on, sixteen_at, one_more, room}
use Rattle.replay.proofs.hex.word_at.Goals as goal

pub overflow_mul-v : goal.overflow_mul-v
overflow_mul-v c = let l = c.loop-b in omega (arith, room l.v l.b-index (omega arith) l.invariant.small)

pub loop-b-init : goal.loop-b-init
unfolding word_at
loop-b-init c =
    let s = c.args.s.now in
    let tail = c.in_ok-get.ensures.lookup.0 in
    let front = c.in_ok-digits.ensures.lookup.0 in
    let long : c.args.at + 16 ≤ length s = omega (arith, tail, front) in
    record {
      many = omega (arith, front.3);
      same = λ k h. rw (front.2, tail.2) (sixteen_at s c.args.at long k h);
      small = search rules;
      rest = rw (le-ltb (length s) (c.args.at + 16) long, add-zero);
    }

pub returns-in_err-v : goal.returns-in_err-v
returns-in_err-v c =
    let s = c.args.s.now in
    let l = c.loop-b in
    let byte = l.invariant.same l.b-index (omega arith) in
    let digit = sym c.digit.ensures ∙ c.in_err-v.was in
    c.from_residual-in_err-v.ensures ∙ sym (stops s l.v c.args.at l.b-index (omega arith) (rw byte at digit)) ∙ l.invariant.rest

pub overflow_add-v : goal.overflow_add-v
overflow_add-v c =
    let l = c.loop-b in
    let digit = sym c.digit.ensures ∙ c.in_ok-v.was in
    omega (arith, room l.v l.b-index (omega arith) l.invariant.small, digit_small _ _ digit)

pub loop-b-preserved : goal.loop-b-preserved
loop-b-preserved c =
    let s = c.args.s.now in
    let l = c.loop-b in
    let byte = l.invariant.same l.b-index (omega arith) in
    let digit = sym c.digit.ensures ∙ c.in_ok-v.was in
    let next = goes_on s l.v c.args.at l.b-index (omega arith) _ (rw byte at digit) in
    record {
      many = l.invariant.many;
      same = l.invariant.same;
      small = one_more l.v l.b-index _ l.invariant.small (digit_small _ _ digit);
      rest = next ∙ l.invariant.rest;
    }

pub returns : goal.returns
unfolding read_on
returns c =
    let l = c.loop-b in
    let done : 16 - l.b-index ≡ 0 = omega arith in
    rw done at l.invariant.rest
