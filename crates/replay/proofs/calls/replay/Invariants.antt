-- At each turn, the verdict from this line on is that of the whole list, and the chunks left are those behind the lines so far.
-- Assumes nothing.
use Rattle.std.proofs.Common.{◌≡◌, ◌+◌, ◌*◌, ◌≤◌, length, drop}
use Rattle.std.specs.Slice.Iter.{chunks_rest, chunks_size}
use Rattle.replay.specs.Listed.{verdict_of}
use Rattle.replay.proofs.Lines.{from}
use Rattle.replay.proofs.calls.replay.Given as goal

abbrev pub invariant-loop-line : goal.invariant-loop-line
invariant-loop-line l = record {
  next : (goal.iterator-loop-line).can_next l.line-iterator;
  finite : (goal.iterator-loop-line).is_finite l.line-iterator;
  size : chunks_size l.line-iterator ≡ 85;
  rest : chunks_rest l.line-iterator ≡ drop (l.lines * 85) l.s;
  few : l.lines * 85 ≤ length l.s + 84;
  same : from l.s l.lines ≡ verdict_of l.s;
}
