-- At each turn, reading on from the digits so far is reading the word.
-- Assumes nothing.
use Rattle.std.proofs.Common.{◌≡◌, ◌+◌, ◌-◌, ◌^◌, ◌<◌, ℕ, length, get_or}
use Rattle.replay.specs.Hex.{read_on, word_at}
use Rattle.replay.proofs.hex.word_at.Given as goal

abbrev pub invariant-loop-b : goal.invariant-loop-b
invariant-loop-b l = record {
  many : length l.digits ≡ 16;
  same : (k : ℕ) → k < 16 → get_or l.digits k 0 ≡ get_or l.s (l.at + k) 0;
  small : l.v < 16 ^ l.b-index;
  rest : read_on l.s l.v (l.at + l.b-index) (16 - l.b-index) ≡ word_at l.s l.at;
}
